-- How many vertices are left.
--   vertices_classes == the vertices are the classes of survivors that meet
--   vertices_some, vertices_one, vertices_two == a map with a survivor has a vertex; one, where all survivors share it; two, where there are two
--                                                survivors and they do not
--   turns_vertices  == each contraction has taken one vertex
--   all_but_tree    == where all edges but a whole piece were taken, the base had one vertex more than edges
use mathlib.Core.Bool.{Bool, true, false, ◌||◌}
use mathlib.Core.List.{List, [], ◌∷◌, Permᴰ}
use mathlib.Core.Logic.Iff
use mathlib.Core.Logic.{◌≢◌, ◌⊎◌, ◌↔◌, inl, ⊎_elim}
use mathlib.Core.Path.{◌≡◌, refl, sym, ap, ◌∙◌}
use Prim.Native.Nat.{ℕ, zero, suc, ◌+◌, ◌*◌, ◌/◌, ◌<◌, ◌≤◌}
use native.Mathlib.Omega.{arith}
use lib.Dec.{T}
use lib.ListN.{length}
use Rattle.permutations.specs.Choice.{pick, T→true, not_T→false, or_intro}
use Rattle.permutations.specs.Cycle.{meets_in, meets_iff}
use Rattle.permutations.specs.Live.{any, has, darts, off, off_was, off_other, off_ne, has_head, has_tail, has_darts, darts_out}
use Rattle.permutations.proofs.Classes.{classes, classes_perm}
use Rattle.permutations.proofs.Cycles.{cycles, meets_equiv}
use Rattle.permutations.proofs.Euler.{vertices}
use Rattle.darts.specs.Map.{same_vertex}
use Rattle.darts.specs.Operation.{contraction}
use Rattle.darts.specs.Counts.{counts_of}
use Rattle.laws.specs.Standing.{map_of, Standing}
use Rattle.laws.proofs.bridge.Standing.{live}
use Rattle.laws.proofs.bridge.Judged.{same_vertex_lem}
use Rattle.laws.proofs.bridge.Counting.{counts_numbers, counts_operate}
use Rattle.laws.proofs.merging.Turns.{Turns, begins, passes, joins}
use Rattle.laws.proofs.merging.Joins.{turns_standing}
use Rattle.laws.proofs.merging.Closes.{eleven_whole}
use Rattle.laws.proofs.merging.Pieces.{AllBut}

-- ---- classes of a short list

module _ (r : ℕ → ℕ → Bool) where
  classes_some : (x : ℕ) (l : List ℕ) → 1 ≤ classes r (x ∷ l)
  unfolding classes any
  classes_some x [] = omega arith
  classes_some x (y ∷ l) = go (any (r x) (y ∷ l)) (classes_some y l)
    where
      go : (b : Bool) → 1 ≤ classes r (y ∷ l) → 1 ≤ pick b (classes r (y ∷ l)) (suc (classes r (y ∷ l)))
      go true h = h
      go false h = omega arith

  -- all are joined
  classes_one : (l : List ℕ) → ((x y : ℕ) → T (has l x) → T (has l y) → T (r x y)) → classes r l ≤ 1
  unfolding classes any
  classes_one [] all = omega arith
  classes_one (x ∷ []) all = omega arith
  classes_one (x ∷ y ∷ l) all =
      let first : T (r x y) = all x y (has_head x (y ∷ l)) (has_tail x y (y ∷ l) (has_head y l)) in
      let met : T (r x y || any (r x) l) = or_intro (r x y) (any (r x) l) (inl first) in
      rw (T→true (r x y || any (r x) l) met) (classes_one (y ∷ l) (λ a b h k. all a b (has_tail x a (y ∷ l) h) (has_tail x b (y ∷ l) k)))

  -- two that are not
  classes_two : (x y : ℕ) → ¬ T (r x y) → classes r (x ∷ y ∷ []) ≡ 2
  unfolding classes any
  classes_two x y n = rw (not_T→false (r x y) n)

-- no live number, no list
darts_none : (live : ℕ → Bool) (n : ℕ) → ((x : ℕ) → x < n → ¬ T (live x)) → darts live n ≡ []
unfolding darts
darts_none live zero none = refl
darts_none live (suc n) none = rw (not_T→false (live n) (none n (omega arith))) (darts_none live n (λ x h. none x (omega arith)))

-- ---- the vertices of a table that stands

module _ {D : ℕ} {u past : List ℕ} (S : Standing D u past) where
  abbrev r : ℕ → ℕ → Bool
  r = meets_in (map_of D u past).next D

  pub shares : (x y : ℕ) → T (live D past x) → T (same_vertex D u x y) ↔ T (r x y)
  shares x y l = Iff.trans (same_vertex_lem S x y l) (meets_iff S.good.perm x y)

  pub vertices_classes : (counts_of D u past).vertices ≡ classes r (darts (live D past) D)
  unfolding vertices cycles
  vertices_classes = (counts_numbers S).vertices_are

  pub vertices_some : (x : ℕ) → T (live D past x) → 1 ≤ (counts_of D u past).vertices
  vertices_some x l =
      rw (vertices_classes, classes_perm (meets_equiv S.good.perm) (darts_out (live D past) x D (S.good.small x l) l))
      (classes_some r x (darts (off (live D past) x) D))

  pub vertices_one : (x : ℕ) → T (live D past x) → ((a b : ℕ) → T (live D past a) → T (live D past b) → T (same_vertex D u a b))
      → (counts_of D u past).vertices ≡ 1
  vertices_one x l all =
      let some = vertices_some x l in
      let most = classes_one r (darts (live D past) D) (λ a b h k.
      let la = (has_darts (live D past) D a h).1 in
      (shares a b la).0 (all a b la (has_darts (live D past) D b k).1)) in
      let same = vertices_classes in
      omega arith

  pub vertices_two : (p q : ℕ) → p ≢ q → T (live D past p) → T (live D past q) → ((x : ℕ) → T (live D past x) → (x ≡ p) ⊎ (x ≡ q))
      → ¬ T (same_vertex D u p q) → (counts_of D u past).vertices ≡ 2
  vertices_two p q pq lp lq only apart =
      vertices_classes ∙ classes_perm (meets_equiv S.good.perm) both ∙ ap (λ l. classes r (p ∷ q ∷ l)) none
      ∙ classes_two r p q (λ t. apart ((shares p q lp).1 t))
    where
      left : ℕ → Bool
      left = off (off (live D past) p) q

      both : Permᴰ (darts (live D past) D) (p ∷ q ∷ darts left D)
      both = Permᴰ.trans (darts_out (live D past) p D (S.good.small p lp) lp)
          (Permᴰ.cons refl (darts_out (off (live D past) p) q D (S.good.small q lq) (rw (off_other (live D past) (λ e. pq (sym e))) lq)))

      none : darts left D ≡ []
      none = darts_none left D (λ x h l.
          let was = off_was (off (live D past) p) q x l in
          ⊎_elim (off_ne (live D past) was) (off_ne (off (live D past) p) l) (only x (off_was (live D past) p x was)))

-- ---- along the turns

module _ {D : ℕ} {same : ℕ → Bool} {t : List ℕ} (S : Standing D t []) where
  -- EACH CONTRACTION TAKES ONE VERTEX
  pub turns_vertices : {m : ℕ} {es u past : List ℕ} → Turns D same t m es u past
      → (counts_of D t []).vertices ≡ (counts_of D u past).vertices + length past
  turns_vertices begins = omega arith
  turns_vertices (passes P w) = turns_vertices P
  turns_vertices (joins {m} P s j) =
      let before = turns_vertices P in
      let one = (counts_operate (turns_standing S P) contraction m j).a_vertex in
      omega arith

  -- E - 1 operations leave the two vertices of the whole piece
  pub all_but_tree : {m : ℕ} {es u past : List ℕ} → Turns D same t m es u past → (e : ℕ) → AllBut D es u past e
      → (counts_of D t []).vertices ≡ D / 2 + 1
  all_but_tree {u = u} {past} P e A =
      let apart = (eleven_whole D u past e A.whole).0 in
      let two = vertices_two (turns_standing S P) (2 * e) (2 * e + 1) (λ k. omega arith) A.lives.0 A.lives.1 A.only apart in
      let all = turns_vertices P in
      omega (arith, A.last, A.count)
