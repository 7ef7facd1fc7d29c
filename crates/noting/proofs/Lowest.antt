-- The labels of the base's vertices: at each dart stands the lowest dart of its vertex, which is the place of its record.
--   lowest_found   == the lowest is what is on x's vertex where no lower dart is
--   label_lowest   == the labels in the forest's part are the lowest darts
--   roots_lowest   == and so are its roots
--   ready_lowest   == and so are the roots of any forest that judges contractions on the base
--   Own D b v      == of the darts exactly the records' places are their own labels in v
--   ready_own      == and so it is in such a forest
use mathlib.Core.List.{List, []}
use mathlib.Core.Path.{◌≡◌, sym, ap, ◌∙◌, subst}
use Prim.Native.Nat.{ℕ, zero, suc, ◌+◌, ◌*◌, ◌≤◌, ◌<◌}
use native.Mathlib.Decide.{ℕ_discrete}
use native.Mathlib.Omega.{arith}
use lib.Dec.{T, eqb}
use lib.ListN.{get_or}
use Rattle.permutations.specs.Choice.{pick, T→true, not_T→false, eqb_same, eqb_other}
use Rattle.permutations.specs.Perm.{Perm}
use Rattle.permutations.specs.Cycle.{Meets}
use Rattle.permutations.specs.Labels.{Labels}
use Rattle.darts.specs.Map.{same_vertex, live, survives, gone}
use Rattle.darts.specs.Operation.{kind_of}
use Rattle.forest.specs.Forest.{parent, Falls, root}
use Rattle.forest.specs.Lowest.{lowest_root}
use Rattle.forest.specs.Roots.{root_top, root_settled, root_own, root_down}
use Rattle.laws.specs.Standing.{map_of, Standing}
use Rattle.laws.proofs.bridge.Bases.{all_live}
use Rattle.laws.proofs.bridge.Standing.{live_iff}
use Rattle.laws.proofs.bridge.Judged.{same_vertex_lem}
use Rattle.area.specs.Area.{table_in, past_in, forest_in}
use Rattle.operations.specs.Cycles.{step_in, Labelled}
use Rattle.operations.specs.Trees.{rooted}
use Rattle.operations.proofs.Outside.{forest_at}
use Rattle.operations.proofs.Steps.{cycle_classes}
use Rattle.engine.specs.Held.{Area, Ready}
use Rattle.engine.proofs.Around.{step_ring, step_perm}
use Rattle.engine.proofs.Parts.{past_none}
use Rattle.yarn.specs.Places.{lowest_from, lowest, is_place}
use Rattle.yarn.proofs.Lowest.{lowest_least, lowest_below, lowest_met_lem}

module _ (D : ℕ) (b : List ℕ) (x : ℕ) (z : ℕ) (there : T (same_vertex D b z x)) (first : (y : ℕ) → y < z → ¬ T (same_vertex D b y x)) where
  found_from : (n y : ℕ) → y ≤ z → z < y + n → lowest_from D b x n y ≡ z
  unfolding lowest_from
  found_from zero y low high = absurd (omega arith)
  found_from (suc n) y low high = go (ℕ_discrete y z) (λ l. found_from n (suc y) l (omega arith))
    where
      go : Dec (y ≡ z) → (suc y ≤ z → lowest_from D b x n (suc y) ≡ z) → pick (same_vertex D b y x) y (lowest_from D b x n (suc y)) ≡ z
      go (yes e) on = rw (e, T→true (same_vertex D b z x) there)
      go (no e) on = rw (not_T→false (same_vertex D b y x) (first y (omega arith))) (on (omega arith))

  pub lowest_found : z < D → lowest D b x ≡ z
  unfolding lowest
  lowest_found l = found_from D 0 (omega arith) (omega arith)

module _ {D : ℕ} {w v : List ℕ} (A : Area D 0 w) (L : Labelled D 1 w v) where
  π : Perm D (step_in D 1 w)
  π = step_perm A 1 (omega arith)

  -- the dart z is on x's vertex where the work area's steps lead from one to the other
  meets_same : (z x : ℕ) → z < D → (T (same_vertex D (table_in D w) z x) → Meets (step_in D 1 w) z x) × (Meets (step_in D 1 w) z x → T (same_vertex D (table_in D w) z x))
  unfolding kind_of survives gone
  meets_same z x l =
      let here : T (live D (past_in D 0 w) z) = rw (past_none D w) ((live_iff D [] z).1 (l, tt)) in
      let i = same_vertex_lem A.stands z x here in
      rw (step_ring A 1 (omega arith)) (i.0, i.1)

  -- THE LABELS ARE THE LOWEST DARTS
  pub label_lowest : (x : ℕ) → x < D → get_or v (2 * D + x) 0 ≡ lowest D (table_in D w) x
  label_lowest x l =
      let C = cycle_classes π in
      let p : ℕ = parent (forest_in D v) x in
      let down = L.lowest.down x l in
      let at : p ≡ get_or v (2 * D + x) 0 = forest_at D v x l in
      sym (lowest_found D (table_in D w) x (get_or v (2 * D + x) 0)
      ((meets_same (get_or v (2 * D + x) 0) x (omega arith)).1 (subst (λ z. Meets (step_in D 1 w) z x) at (C.back (L.lowest.member x l))))
      (λ y h s. let k = L.lowest.low x y l (omega arith) (C.back ((meets_same y x (omega arith)).0 s)) in omega arith)
      (omega arith))

  pub roots_lowest : (x : ℕ) → x < D → rooted D v x ≡ lowest D (table_in D w) x
  roots_lowest x l = lowest_root (cycle_classes π) L.lowest x l ∙ forest_at D v x l ∙ label_lowest x l

-- ---- any forest of the base's vertices

-- a number is its own parent where it is its own root
own_parent : {f : List ℕ} → Falls f → (x : ℕ) → eqb (parent f x) x ≡ eqb (root f x) x
own_parent {f} F x = go (ℕ_discrete (parent f x) x)
  where
    go : Dec (parent f x ≡ x) → eqb (parent f x) x ≡ eqb (root f x) x
    go (yes e) = eqb_same e ∙ sym (eqb_same (root_top f x e))
    go (no n) = eqb_other n ∙ sym (eqb_other (λ e. n (subst (λ y. parent f y ≡ y) e (root_settled F x))))

module _ {D : ℕ} {b f : List ℕ} (S : Standing D b []) (F : Falls f) (Λ : Labels (live D []) (map_of D b []).next (root f)) where
  -- a root is its own root, so it is on the vertex; and the lowest dart, whose root it is too, is not below it
  least_root : (x : ℕ) → x < D → root f x ≡ lowest D b x
  least_root x l =
      let r : ℕ = root f x in
      let m : ℕ = lowest D b x in
      let down : r ≤ x = root_down F x in
      let dart : r < D = omega arith in
      let below : m ≤ x = lowest_below S x l in
      let own : root f r ≡ r = root_own F x in
      let there : T (same_vertex D b r x) = (same_vertex_lem S r x ((all_live D r).1 dart)).1 ((Λ.says r x ((all_live D r).1 dart) ((all_live D x).1 l)).0 own) in
      let least : m ≤ r = lowest_least D b x r there in
      let same : root f m ≡ r = (Λ.says m x ((all_live D m).1 (omega arith)) ((all_live D x).1 l)).1 (lowest_met_lem S x l) in
      let under : root f m ≤ m = root_down F m in
      omega arith

abbrev pub Own : ℕ → List ℕ → List ℕ → Type 0
Own D b v = (x : ℕ) → x < D → eqb (get_or v (2 * D + x) 0) x ≡ is_place D b x

module _ {D : ℕ} {w : List ℕ} (R : Ready D 0 1 w) where
  pub ready_lowest : (x : ℕ) → x < D → rooted D w x ≡ lowest D (table_in D w) x
  unfolding kind_of
  ready_lowest = least_root (rw (past_none D w) at R.area.stands) R.falls (rw (past_none D w) at R.roots)

  pub ready_own : Own D (table_in D w) w
  unfolding is_place
  ready_own x l =
      ap (λ y. eqb y x) (sym (forest_at D w x l)) ∙ own_parent R.falls x ∙ ap (λ y. eqb y x) (ready_lowest x l)
