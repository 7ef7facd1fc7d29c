-- The map of a renamed table: the same darts live, it stands, and what is legal stays legal.
--   renumbered ν h == the history number h in the new numbers
--   t', past'      == the table and the past in the new numbers
--   m, m'          == the maps of the two tables
use mathlib.Core.Bool.{◌||◌, not}
use mathlib.Core.List.{List, [], ◌∷◌, map}
use mathlib.Core.Logic.{◌↔◌, inl, inr, ⊎_elim}
use mathlib.Core.Path.{◌≡◌, refl, sym, ap, ap₂, ◌∙◌, subst}
use Prim.Native.Nat.{ℕ, zero, suc, ◌/◌, ◌%◌, ◌<◌}
use lib.Dec.{T, eqb, ltb, lt→ltb}
use lib.ListN.{get_or}
use Rattle.permutations.specs.Choice.{T?, T→true, not_T→false, T-ext}
use Rattle.permutations.specs.Partner.{partner, End}
use Rattle.permutations.proofs.PartnerLemmas.{partner_below, partner_partner}
use Rattle.permutations.specs.Perm.{Perm, below}
use Rattle.permutations.specs.Cycle.{walk, walk_ind, Meets, meets_sym}
use Rattle.permutations.specs.Map.{Map, Good, mate_live, mate_gone, face, partner_live}
use Rattle.permutations.proofs.Legal.{Separate, Legal, Whole, around, around_perm}
use Rattle.darts.specs.Map.{successor, gone, survives}
use Rattle.darts.specs.Operation.{Kind, contraction, removal, number, kind_of, lead_of}
use Rattle.darts.specs.Tests.{numbered}
use Rattle.laws.specs.Standing.{map_of, Standing}
use Rattle.laws.proofs.bridge.Standing.{live, op_of, live_iff, entry_live, entry_one}
use Rattle.laws.proofs.bridge.StandsBy.{stands_by}
use Rattle.laws.proofs.bridge.Numbers.{number_lead}
use Rattle.laws.proofs.bridge.AnyKind.{dart_op}
use Rattle.laws.proofs.tests.Fits.{numbered_iff}
use Rattle.laws.proofs.file.FileOrder.{took_iff}
use Rattle.laws.proofs.file.Renamed.{Renaming, renamed, number_one, renamed_length, renamed_entry}

unfoldable pub renumbered : (ℕ → ℕ) → ℕ → ℕ
renumbered ν h = number (kind_of h) (ν (lead_of h))

-- ---- either dart of an edge

-- two cycles and a whole piece are the same from either dart
separate_end : {D : ℕ} {m : Map} {f : ℕ → ℕ} → Good D m → Perm D f → {p x : ℕ} → End p x → Separate f m p → Separate f m x
separate_end {m = m} {f} G π {p} (inl e) L = subst (Separate f m) (sym e) L
separate_end {m = m} {f} G π {p} (inr e) L = subst (Separate f m) (sym e) (record {
  lives = partner_live G p L.lives;
  two = rw (partner_partner p) (λ c. L.two (meets_sym π c));
  more = rw (partner_partner p) (λ w. L.more (⊎_elim (λ a. inl (a.1, a.0)) (λ a. inr (a.1, a.0)) w));
})

-- ---- walking in the new numbers

module _ {D : ℕ} {order : List ℕ} {ν : ℕ → ℕ} (R : Renaming D order ν) (f f' : ℕ → ℕ)
    (same : (x : ℕ) → x < D → f' (ν x) ≡ ν (f x)) (stays : (x : ℕ) → x < D → f x < D) where
  pub walk_renamed : (n x : ℕ) → x < D → walk f' n (ν x) ≡ ν (walk f n x)
  unfolding walk
  walk_renamed zero x h = refl
  walk_renamed (suc n) x h = rw (same x h) (walk_renamed n (f x) (stays x h))

  pub meets_renamed : (x y : ℕ) → x < D → y < D → Meets f' (ν x) (ν y) → Meets f x y
  meets_renamed x y h k m = record {
    steps = m.steps;
    there = number_one R (walk f m.steps x) y (walk_ind f (λ z. z < D) stays m.steps x h) k (sym (walk_renamed m.steps x h) ∙ m.there);
  }

module _ {D : ℕ} {order : List ℕ} {ν : ℕ → ℕ} (R : Renaming D order ν) (even : D % 2 ≡ 0) where
  -- ---- who lives

  renamed_end : (p x : ℕ) → p < D → x < D → End (ν p) (ν x) ↔ End p x
  renamed_end p x hp hx = (
    ⊎_elim
        (λ e. inl (number_one R x p hx hp e))
        (λ e. inr (number_one R x (partner p) hx (partner_below D p hp even) (e ∙ sym (R.partners p hp)))),
    ⊎_elim (λ e. inl (ap ν e)) (λ e. inr (ap ν e ∙ R.partners p hp)),
  )

  gone_renamed : (past : List ℕ) → T (numbered D past) → (x : ℕ) → x < D → gone (map (renumbered ν) past) (ν x) ≡ gone past x
  unfolding gone renumbered
  gone_renamed [] N x h = refl
  gone_renamed (g ∷ past) N x h =
      let (lives, rest) = (numbered_iff D g past).0 N in
      let p = lead_of g in
      let new = number (kind_of g) (ν p) in
      let small = ((live_iff D past p).0 lives).0 in
      let took = subst (λ y. T (eqb (new / 4) (ν x / 2)) ↔ End y (ν x)) (number_lead (kind_of g) (ν p)) (took_iff new (ν x)) in
      let same = renamed_end p x small h in
      let first = T-ext (eqb (new / 4) (ν x / 2)) (eqb (g / 4) (x / 2))
      (λ t. (took_iff g x).1 (same.0 (took.0 t))) (λ t. took.1 (same.1 ((took_iff g x).0 t))) in
      ap₂ ◌||◌ first (gone_renamed past rest x h)

  live_renamed : (past : List ℕ) → T (numbered D past) → (x : ℕ) → x < D → live D (map (renumbered ν) past) (ν x) ≡ live D past x
  unfolding live survives
  live_renamed past N x h =
      rw (T→true (ltb (ν x) D) (lt→ltb (ν x) D (R.below x h)), T→true (ltb x D) (lt→ltb x D h)) (ap not (gone_renamed past N x h))

  -- ---- the renamed table stands

  -- what holds of each dart's new number holds of each number
  pub each_number_lem : (Q : ℕ → Type 0) → ((x : ℕ) → x < D → Q (ν x)) → (i : ℕ) → i < D → Q i
  each_number_lem Q f i h = subst Q (R.forth i h) (f (get_or order i 0) (R.dart i h))

  module _ {t past : List ℕ} (S : Standing D t past) (N : T (numbered D past)) where
    abbrev t' : List ℕ
    t' = renamed order ν t

    abbrev past' : List ℕ
    past' = map (renumbered ν) past

    abbrev m : Map
    m = map_of D t past

    abbrev m' : Map
    m' = map_of D t' past'

    pub lives : (x : ℕ) → x < D → T (live D past' (ν x)) → T (live D past x)
    lives x h l = subst T (live_renamed past N x h) l

    pub lives' : (x : ℕ) → T (live D past x) → T (live D past' (ν x))
    lives' x l = subst T (sym (live_renamed past N x (S.good.small x l))) l

    pub small' : (i : ℕ) → T (live D past' i) → i < D
    small' i l = ((live_iff D past' i).0 l).0

    onward : (i : ℕ) → i < D → T (live D past' i) → T (live D past' (successor t' i))
    onward = each_number_lem (λ i. T (live D past' i) → T (live D past' (successor t' i))) (λ x h l.
        rw (renamed_entry R t x h) (lives' (successor t x) (entry_live S x (lives x h l))))

    alone : (i : ℕ) → i < D → (j : ℕ) → j < D → T (live D past' i) → T (live D past' j) → successor t' i ≡ successor t' j → i ≡ j
    alone = each_number_lem (λ i. (j : ℕ) → j < D → T (live D past' i) → T (live D past' j) → successor t' i ≡ successor t' j → i ≡ j) (λ x h.
        each_number_lem (λ j. T (live D past' (ν x)) → T (live D past' j) → successor t' (ν x) ≡ successor t' j → ν x ≡ j) (λ y k l j e.
        let entries : ν (successor t x) ≡ ν (successor t y) = sym (renamed_entry R t x h) ∙ e ∙ renamed_entry R t y k in
        let same = number_one R (successor t x) (successor t y) (S.inside x h) (S.inside y k) entries in
        ap ν (entry_one S x (lives x h l) y (lives y k j) same)))

    -- A RENAMED TABLE STANDS
    pub renamed_stands : Standing D t' past'
    renamed_stands = stands_by D t' past' even (renamed_length R t)
        (each_number_lem (λ i. successor t' i < D) (λ x h. rw (renamed_entry R t x h) (R.below (successor t x) (S.inside x h))))
        (λ i l. onward i (small' i l) l) (λ i j l k e. alone i (small' i l) j (small' j k) l k e)

    -- ---- successor and face-next

    pub next_renamed : (x : ℕ) → x < D → m'.next (ν x) ≡ ν (m.next x)
    next_renamed x h = go (T? (live D past x))
      where
        go : Dec (T (live D past x)) → m'.next (ν x) ≡ ν (m.next x)
        go (yes l) = rw (live_renamed past N x h, T→true (live D past x) l) (renamed_entry R t x h)
        go (no n) = rw (live_renamed past N x h, not_T→false (live D past x) n)

    pub face_renamed : (x : ℕ) → x < D → face m' (ν x) ≡ ν (face m x)
    unfolding face
    face_renamed x h = go (T? (live D past x))
      where
        go : Dec (T (live D past x)) → face m' (ν x) ≡ ν (face m x)
        go (yes l) =
            rw (mate_live (live D past') (ν x) (lives' x l), mate_live (live D past) x l, ← R.partners x h) (next_renamed (partner x) (partner_below D x h even))
        go (no n) = rw (mate_gone (live D past') (ν x) (λ l. n (lives x h l)), mate_gone (live D past) x n) (next_renamed x h)

    around_renamed : (k : Kind) (p q x : ℕ) → x < D → around m' (op_of k q) (ν x) ≡ ν (around m (op_of k p) x)
    around_renamed contraction p q = next_renamed
    around_renamed removal p q = face_renamed

    -- ---- what is legal

    whole_renamed : (p : ℕ) → p < D → Whole m' (ν p) → Whole m p
    whole_renamed p h = rw (← R.partners p h) (⊎_elim (λ w. inl (at p p h h w.0, at q q k k w.1)) (λ w. inr (at p q h k w.0, at q p k h w.1)))
      where
        q : ℕ
        q = partner p

        k : q < D
        k = partner_below D p h even

        at : (x y : ℕ) → x < D → y < D → m'.next (ν x) ≡ ν y → m.next x ≡ y
        at x y hx hy e = number_one R (m.next x) y (below S.good.perm hx) hy (sym (next_renamed x hx) ∙ e)

    separate_renamed : (k : Kind) (a b p : ℕ) → Separate (around m (op_of k a)) m p
        → Separate (around m' (op_of k b)) m' (ν p)
    separate_renamed k a b p L =
        let h = S.good.small p L.lives in
        let f = around m (op_of k a) in
        let f' = around m' (op_of k b) in
        let stays : (x : ℕ) → x < D → f x < D = λ x. below (around_perm S.good (op_of k a)) in
        record {
          lives = lives' p L.lives;
          two = λ c. L.two (meets_renamed R f f' (around_renamed k a b) stays p (partner p) h (partner_below D p h even)
              (subst (Meets f' (ν p)) (sym (R.partners p h)) c));
          more = λ w. L.more (whole_renamed p h w);
        }

    -- WHAT IS LEGAL AT EITHER DART OF AN EDGE IS LEGAL AT ITS NEW NUMBER
    pub legal_renamed : (k : Kind) (d p : ℕ) → End d p → Legal m (op_of k d) → Legal m' (op_of k (ν p))
    legal_renamed k d p end L =
        let f = around m (op_of k d) in
        let first = subst (Separate f m) (dart_op k d) L in
        subst (Separate (around m' (op_of k (ν p))) m') (sym (dart_op k (ν p)))
        (separate_renamed k d (ν p) p (separate_end S.good (around_perm S.good (op_of k d)) end first))
