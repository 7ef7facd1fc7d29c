-- Pieces: D partner and successor steps lead everywhere, a whole edge is a piece of its own, and an operation keeps the pieces.
--   Step            == a step over the edge, to the partner, or a step round the vertex, to the successor
--   step t s x      == where the step s leads from x
--   steps t w x     == where the steps w lead, one after another
--   Walked t x y    == some steps lead from x to y
--   Instead t x w n == at most n steps lead from x where the steps w lead
use mathlib.Core.Bool.{◌||◌}
use mathlib.Core.List.{List, [], ◌∷◌, ◌++◌}
use mathlib.Core.Logic.Iff
use mathlib.Core.Logic.{◌↔◌, ◌⊎◌, inl, inr, ⊎_elim}
use mathlib.Core.Path.{◌≡◌, refl, sym, ap, ◌∙◌, subst}
use Prim.Native.Nat.{ℕ, zero, suc, ◌+◌, ◌-◌, ◌*◌, ◌≤◌, ◌<◌}
use native.Mathlib.Decide.{dec_lt}
use native.Mathlib.Nat.{not-suc-le-zero, le_of_suc-le-suc}
use native.Mathlib.Omega.{arith}
use lib.Dec.{T, eqb, eqb_refl, eqb→eq}
use lib.ListN.{length, take, drop, length-append, length-take, length-drop, take-append-drop}
use Rattle.permutations.specs.Choice.{or_intro, or_cases}
use Rattle.permutations.specs.Partner.{partner, End}
use Rattle.permutations.proofs.PartnerLemmas.{partner_first}
use Rattle.permutations.specs.Pigeonhole.{Clash, pigeonhole}
use Rattle.permutations.specs.Map.{mate_live, partner_live, next_live, off_edge}
use Rattle.permutations.proofs.MapLemmas.{off_edge_was, off_edge_not_end}
use Rattle.permutations.proofs.Legal.{Op, act, dart}
use Rattle.permutations.proofs.Pieces.{Linked, here, turn, over, linked_ind, mate_lives, whole_only, only_whole, act_pieces}
use Rattle.darts.specs.Map.{successor, same_piece}
use Rattle.darts.specs.Operation.{Kind, whole_edge, lead, operate, number}
use Rattle.darts.specs.Kernel.{judge}
use Rattle.laws.specs.Standing.{map_of, Standing}
use Rattle.laws.proofs.bridge.Standing.{live, op_of, next_entry, entry_live}
use Rattle.laws.proofs.bridge.Judged.{whole_edge_lem, judge_legal}
use Rattle.laws.proofs.bridge.Operate.{operate_acts, operate_stands}

data Step : Type 0 where
  over_edge round_vertex : Step

abbrev step : List ℕ → Step → ℕ → ℕ
step t over_edge x = partner x
step t round_vertex x = successor t x

abbrev steps : List ℕ → List Step → ℕ → ℕ
steps t [] x = x
steps t (s ∷ w) x = steps t w (step t s x)

record Walked (t : List ℕ) (x y : ℕ) : Type 0 where
  way : List Step
  there : steps t way x ≡ y

abbrev Instead : List ℕ → ℕ → List Step → ℕ → Type 0
Instead t x w n = (v : List Step) × (length v ≤ n) × (steps t v x ≡ steps t w x)

steps_append : (t : List ℕ) (v w : List Step) (x : ℕ) → steps t (v ++ w) x ≡ steps t w (steps t v x)
steps_append t [] w x = refl
steps_append t (s ∷ v) w x = steps_append t v w (step t s x)

one_more : (t : List ℕ) {x z : ℕ} (s : Step) → Walked t x z → Walked t x (step t s z)
one_more t {x} s w = record { way = w.way ++ (s ∷ []); there = steps_append t w.way (s ∷ []) x ∙ ap (step t s) w.there }

-- ---- the definition's walk makes up to n steps

onwards : (n : ℕ) (t : List ℕ) (x y : ℕ) → T (same_piece n t (partner x) y) ⊎ T (same_piece n t (successor t x) y) → T (same_piece (suc n) t x y)
unfolding same_piece
onwards n t x y h =
    let a = same_piece n t (partner x) y in
    let b = same_piece n t (successor t x) y in
    or_intro (eqb x y) (a || b) (inr (or_intro a b h))

piece_found : (n : ℕ) (t : List ℕ) (w : List Step) (x : ℕ) → length w ≤ n → T (same_piece n t x (steps t w x))
unfolding same_piece
piece_found zero t [] x h = eqb_refl x
piece_found zero t (s ∷ w) x h = absurd (not-suc-le-zero h)
piece_found (suc n) t [] x h = or_intro (eqb x x) (same_piece n t (partner x) x || same_piece n t (successor t x) x) (inl (eqb_refl x))
piece_found (suc n) t (over_edge ∷ w) x h = onwards n t x (steps t w (partner x)) (inl (piece_found n t w (partner x) (le_of_suc-le-suc h)))
piece_found (suc n) t (round_vertex ∷ w) x h = onwards n t x (steps t w (successor t x)) (inr (piece_found n t w (successor t x) (le_of_suc-le-suc h)))

module _ {D : ℕ} {t past : List ℕ} (S : Standing D t past) where
  steps_live : (w : List Step) (x : ℕ) → T (live D past x) → T (live D past (steps t w x))
  steps_live [] x h = h
  steps_live (over_edge ∷ w) x h = steps_live w (partner x) (partner_live S.good x h)
  steps_live (round_vertex ∷ w) x h = steps_live w (successor t x) (entry_live S x h)

  -- more than D steps pass some dart twice, and what lies between can be left out
  shorter : (w : List Step) (x : ℕ) → T (live D past x) → D < length w → Instead t x w (length w - 1)
  shorter w x h l = go (pigeonhole D (λ i. steps t (take i w) x) (λ i k. S.good.small (steps t (take i w) x) (steps_live (take i w) x h)))
    where
      go : Clash (λ i. steps t (take i w) x) D → Instead t x w (length w - 1)
      go c =
          let i = c.first in
          let j = c.second in (
            take i w ++ drop j w,
            simp (length-append, length-take, length-drop) (omega (arith, c.order, c.last)),
            steps_append t (take i w) (drop j w) x ∙ ap (steps t (drop j w)) c.same ∙ sym (steps_append t (take j w) (drop j w) x)
                ∙ ap (λ v. steps t v x) (take-append-drop j w),
          )

  short : (n : ℕ) (w : List Step) (x : ℕ) → T (live D past x) → length w ≤ n → Instead t x w D
  short zero w x h l = (w, omega arith, refl)
  short (suc n) w x h l = go (dec_lt D (length w)) (λ v k. short n v x h k)
    where
      go : Dec (D < length w) → ((v : List Step) → length v ≤ n → Instead t x v D) → Instead t x w D
      go (no k) rest = (w, omega arith, refl)
      go (yes k) rest =
          let s = shorter w x h k in
          let r = rest s.0 (omega (arith, s.1)) in
          (r.0, r.1, r.2 ∙ s.2)

  piece_linked : (n x y : ℕ) → T (live D past x) → T (same_piece n t x y) → Linked (map_of D t past) x y
  unfolding same_piece
  piece_linked zero x y h p = here (eqb→eq x y p)
  piece_linked (suc n) x y h p =
      ⊎_elim (λ e. here (eqb→eq x y e))
      (λ r. ⊎_elim
      (λ a. over (rw (mate_live (live D past) x h) (piece_linked n (partner x) y (partner_live S.good x h) a)))
      (λ a. turn (rw (next_entry S x h) (piece_linked n (successor t x) y (entry_live S x h) a)))
      (or_cases (same_piece n t (partner x) y) (same_piece n t (successor t x) y) r))
      (or_cases (eqb x y) (same_piece n t (partner x) y || same_piece n t (successor t x) y) p)

  linked_walked : {x y : ℕ} → T (live D past x) → Linked (map_of D t past) x y → Walked t x y
  linked_walked {x} h l =
      (linked_ind (map_of D t past) (λ z. T (live D past z) × Walked t x z)
      (λ z w. (next_live S.good z w.0, rw (next_entry S z w.0) (one_more t round_vertex w.1)))
      (λ z w. (mate_lives S.good z w.0, rw (mate_live (live D past) z w.0) (one_more t over_edge w.1)))
      l (h, record { way = []; there = refl })).1

  -- SAME PIECE IS THE MATHEMATICS' OWN: D STEPS LEAD EVERYWHERE
  pub same_piece_lem : (x y : ℕ) → T (live D past x) → T (same_piece D t x y) ↔ Linked (map_of D t past) x y
  same_piece_lem x y h = (
    piece_linked D x y h,
    λ l.
        let w = linked_walked h l in
        let v = short (length w.way) w.way x h (omega arith) in
        subst (λ z. T (same_piece D t x z)) (v.2 ∙ w.there) (piece_found D t v.0 x v.1),
  )

  -- A WHOLE PIECE IS ONE: the edge has no other dart in its piece
  pub whole_piece_lem : (e : ℕ) → T (live D past (2 * e)) → T (whole_edge t e) ↔ ((y : ℕ) → T (same_piece D t (2 * e) y) → (y ≡ 2 * e) ⊎ (y ≡ 2 * e + 1))
  whole_piece_lem e h = (
    λ w y p. rw (← partner_first e) (whole_only S.good (2 * e) h ((whole_edge_lem S e h).0 w) y ((same_piece_lem (2 * e) y h).0 p)),
    λ only. (whole_edge_lem S e h).1 (only_whole S.good (2 * e) h (λ y l. rw (partner_first e) (only y ((same_piece_lem (2 * e) y h).1 l)))),
  )

-- AN OPERATION KEEPS THE PIECES
module _ {D : ℕ} {t past : List ℕ} (S : Standing D t past) (k : Kind) (e : ℕ) (fine : judge k D t past e ≡ 0) where
  pub pieces_kept : (x y : ℕ) → T (live D (number k (lead k t e) ∷ past) x) → T (live D (number k (lead k t e) ∷ past) y)
      → T (same_piece D (operate k D t past e) x y) ↔ T (same_piece D t x y)
  pieces_kept x y hx hy =
      Iff.trans (same_piece_lem (operate_stands S k e fine) x y hx)
      (Iff.trans (subst (λ n. Linked n x y) acts, subst (λ n. Linked n x y) (sym acts))
      (Iff.trans (act_pieces S.good op ((judge_legal S k e).0 fine) (away x hx) (away y hy))
      (Iff.symm (same_piece_lem S x y (off_edge_was (live D past) (dart op) x (was x hx))))))
    where
      op : Op
      op = op_of k (2 * e)

      acts : map_of D (operate k D t past e) (number k (lead k t e) ∷ past) ≡ act (map_of D t past) op
      acts = operate_acts S k e fine

      was : (x : ℕ) → T (live D (number k (lead k t e) ∷ past) x) → T (off_edge (live D past) (dart op) x)
      was x h = subst (λ m. T (m.live x)) acts h

      away : (x : ℕ) → T (live D (number k (lead k t e) ∷ past) x) → ¬ End (dart op) x
      away x h = off_edge_not_end (live D past) (was x h)
