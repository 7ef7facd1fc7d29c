-- A base of one piece in which `same` takes every edge: a tree keeps one edge.
--   all_or_one   == of the numbers below n, each has A, or one has B
--   all_joined   == in one piece whose edges are all joined, all darts are
--   turns_one_stays == of a tree exactly one edge survives: the last, and it is a whole piece
use mathlib.Core.Bool.{Bool, true}
use mathlib.Core.List.{List, []}
use mathlib.Core.Logic.{◌⊎◌, inl, inr, ⊎_elim}
use mathlib.Core.Path.{◌≡◌, refl}
use Prim.Native.Nat.{ℕ, zero, suc, ◌+◌, ◌*◌, ◌/◌, ◌<◌}
use native.Mathlib.Decide.{ℕ_discrete}
use native.Mathlib.Omega.{arith}
use lib.Dec.{T}
use Rattle.permutations.specs.Partner.{partner}
use Rattle.permutations.proofs.PartnerLemmas.{partner_first, partner_second}
use Rattle.permutations.specs.Cycle.{meets_next}
use Rattle.permutations.specs.Map.{mate, mate_live, next_live}
use Rattle.permutations.proofs.Pieces.{linked_ind, mate_lives}
use Rattle.darts.specs.Counts.{counts_of}
use Rattle.laws.specs.Standing.{map_of, Standing}
use Rattle.laws.proofs.bridge.Standing.{live}
use Rattle.laws.proofs.bridge.Judged.{same_vertex_lem}
use Rattle.laws.proofs.bridge.Pieces.{same_piece_lem}
use Rattle.laws.proofs.merging.Turns.{Turns}
use Rattle.laws.proofs.merging.Taken.{Taken}
use Rattle.laws.proofs.merging.Joined.{Joined, itself, vertex, back, further, base_live}
use Rattle.laws.proofs.merging.Joins.{turns_standing, turns_joined, turns_left}
use Rattle.laws.proofs.merging.Closes.{WholeAt, turns_closes}
use Rattle.laws.proofs.merging.Pieces.{OnePiece, AllBut, halves, turns_spare, all_but_end}
use Rattle.laws.proofs.merging.Counts.{vertices_one, turns_vertices}

pub all_or_one : {A B : ℕ → Type 0} (n : ℕ) → ((e : ℕ) → e < n → A e ⊎ B e) → ((e : ℕ) → e < n → A e) ⊎ ((e : ℕ) × (e < n) × B e)
all_or_one zero f = inl (λ e h. absurd (omega arith))
all_or_one {A} {B} (suc n) f = go (all_or_one n (λ e h. f e (omega arith))) (f n (omega arith))
  where
    go : ((e : ℕ) → e < n → A e) ⊎ ((e : ℕ) × (e < n) × B e) → A n ⊎ B n → ((e : ℕ) → e < suc n → A e) ⊎ ((e : ℕ) × (e < suc n) × B e)
    go (inr (e, h, b)) r = inr (e, omega arith, b)
    go (inl all) (inr b) = inr (n, omega arith, b)
    go (inl all) (inl a) = inl (λ e h. last e h (ℕ_discrete e n))
      where
        last : (e : ℕ) → e < suc n → Dec (e ≡ n) → A e
        last e h (yes k) = rw k a
        last e h (no k) = all e (omega arith)

module _ {D : ℕ} {t : List ℕ} (S : Standing D t []) (one : OnePiece D t) {P : ℕ → Type 0}
    (each : (e : ℕ) → e < D / 2 → Joined D t P (2 * e) (2 * e + 1)) where
  partner_joined : (z e : ℕ) → z / 2 ≡ e → z < D → Joined D t P z (partner z)
  partner_joined z e half h =
      let j = each e (omega (arith, S.even)) in
      ⊎_elim (λ k. rw k (rw (partner_first e) j)) (λ k. rw k (rw (partner_second e) (back j))) (halves z e half)

  -- all darts are joined, where the darts of each edge are
  all_joined : (x y : ℕ) → x < D → y < D → Joined D t P x y
  all_joined x y h k =
      (linked_ind (map_of D t []) (λ z. T (live D [] z) × Joined D t P x z) next over
      ((same_piece_lem S x y (base_live D x h)).0 (one x y h k)) (base_live D x h, itself)).1
    where
      f : ℕ → ℕ
      f = (map_of D t []).next

      next : (z : ℕ) → T (live D [] z) × Joined D t P x z → T (live D [] (f z)) × Joined D t P x (f z)
      next z (l, j) = (next_live S.good z l, further j (vertex (S.good.small z l) ((same_vertex_lem S z (f z) l).1 (meets_next f z))))

      over : (z : ℕ) → T (live D [] z) × Joined D t P x z → T (live D [] (mate (live D []) z)) × Joined D t P x (mate (live D []) z)
      over z (l, j) = (mate_lives S.good z l, rw (mate_live (live D []) z l) (further j (partner_joined z (z / 2) refl (S.good.small z l))))

-- OF A TREE EXACTLY ONE EDGE SURVIVES
pub turns_one_stays : {D : ℕ} {same : ℕ → Bool} {t es u past : List ℕ} → Standing D t [] → Turns D same t (D / 2) es u past → 0 < D → OnePiece D t
    → ((e : ℕ) → e < D / 2 → same e ≡ true) → (counts_of D t []).vertices ≡ D / 2 + 1 → (e : ℕ) × AllBut D es u past e
turns_one_stays {D} {same} {t} {es} {u} {past} S P some one all tree =
    go (all_or_one (D / 2) (λ e h. turns_closes S P (omega arith) e h (all e h)))
  where
    go : ((e : ℕ) → e < D / 2 → Joined D t (Taken es) (2 * e) (2 * e + 1)) ⊎ ((e : ℕ) × (e < D / 2) × WholeAt D same t e) → (e : ℕ) × AllBut D es u past e
    go (inr (e, h, W)) = (e, all_but_end S one P e h (all e h) W)
    go (inl each) =
        let l = turns_left S P 0 some in
        let small = (turns_standing S P).good.small in
        let single = vertices_one (turns_standing S P) l.dart l.lives
        (λ a b la lb. (turns_joined S P a b la lb).1 (all_joined S one each a b (small a la) (small b lb))) in
        let count = turns_vertices S P in
        let spare = turns_spare S P refl some in
        absurd (omega arith)
