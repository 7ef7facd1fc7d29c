-- What the first kernel of a plan leaves: the areas (document 02, request One).
--   first_merges     == the first kernel is the merging of the edges of one code
--   area_to, area_from == cells in one area: the words of the plan and the words of the merging say the same
--   Excepted g plan  == "a plan one cell wide or one cell high with a single code"
--   tree_thin, thin_tree == the cells are one more than the edges in a grid that does not close and is one cell wide or high, and in no other
--   single_code      == one code on all edges is one code on all cells
--   Survivor g plan past c == a survivor in the area of cell c
--   OneEdge g u past == one edge is left, the last, and its two ends are two vertices
--   Areas g plan u past == the areas, one law a field
--   areas            == what the first kernel of every sized plan leaves
use mathlib.Core.Bool.{true}
use mathlib.Core.List.{List}
use mathlib.Core.Logic.Iff
use mathlib.Core.Logic.{◌⊎◌, ◌↔◌, inl, inr}
use mathlib.Core.Path.{◌≡◌, refl, sym, ◌∙◌}
use Prim.Native.Nat.{ℕ, zero, suc, ◌+◌, ◌-◌, ◌*◌, ◌/◌, ◌<◌, ◌≤◌}
use native.Mathlib.Numerals.{unary_clauses}
use native.Mathlib.Omega.{arith}
use lib.Dec.{T, eqb→eq}
use lib.ListN.{length}
use Rattle.permutations.specs.Choice.{T?, eqb_same, true→T}
use Rattle.darts.specs.Map.{same_vertex}
use Rattle.darts.specs.Kernel.{stands}
use Rattle.darts.specs.Counts.{counts_of}
use Rattle.laws.proofs.bridge.Standing.{live}
use Rattle.laws.proofs.merging.Turns.{unless_shared, merging}
use Rattle.laws.proofs.merging.Laws.{one_stays, all_but_apart, all_but_vertices}
use Rattle.laws.proofs.merging.Cells.{Area, alone, over, turned, onward, area_least}
use Rattle.laws.proofs.merging.Areas.{Excepted as Tree, areas as merged-areas, area_survives}
use Rattle.grids.specs.Grid.{Grid, sized, cells, edges, darts_of, Beside}
use Rattle.grids.specs.Base.{cell_of, base_table}
use Rattle.grids.specs.Plans.{code_at, one_code, takes_first, first_kernel, OneArea, itself, onward as onwards, back}
use Rattle.grids.proofs.Sides.{along_closed, along_flat}
use Rattle.grids.proofs.Limits.{limits}
use Rattle.grids.proofs.PlanBase.{Edge, PlanBase, plan_base_lem, base_stands}
use Rattle.grids.proofs.OnePiece.{base_cells, every_cell_reached, one_piece}
use Rattle.grids.proofs.CellsCounted.{cells_counted}

-- ---- the first kernel is a merging

pub first_merges : (g : Grid) (plan : List ℕ) → first_kernel g plan ≡ merging (darts_of g) (one_code g plan) (base_table g)
unfolding first_kernel merging takes_first unless_shared
first_merges g plan =
    let half : darts_of g / 2 ≡ edges g = omega arith in
    rw half refl

-- ---- areas of cells

module _ (g : Grid) (plan : List ℕ) where
  area_trans : {a b c : ℕ} → OneArea g plan a b → OneArea g plan b c → OneArea g plan a c
  area_trans (itself a) s = s
  area_trans (onwards a b c n e r) s = onwards a b _ n e (area_trans r s)
  area_trans (back a b c n e r) s = back a b _ n e (area_trans r s)

  area_sym : {a b : ℕ} → OneArea g plan a b → OneArea g plan b a
  area_sym (itself a) = itself a
  area_sym (onwards a b c n e r) = area_trans (area_sym r) (back b a a n (sym e) (itself a))
  area_sym (back a b c n e r) = area_trans (area_sym r) (onwards b a a n (sym e) (itself a))

  codes_same : (e : ℕ) → one_code g plan e ≡ true → code_at plan (cell_of g (2 * e)) ≡ code_at plan (cell_of g (2 * e + 1))
  unfolding one_code
  codes_same e s = eqb→eq _ _ (true→T s)

  code_one : (a b : ℕ) → Edge g a b → code_at plan a ≡ code_at plan b → (e : ℕ) × (e < edges g) × (one_code g plan e ≡ true) × (cell_of g (2 * e) ≡ a) × (cell_of g (2 * e + 1) ≡ b)
  unfolding one_code
  code_one a b E s = (E.edge, E.below, rw (E.even_at, E.odd_at) (eqb_same s), E.even_at, E.odd_at)

module _ (g : Grid) (s : T (sized g)) (plan : List ℕ) where
  abbrev E : ℕ
  E = darts_of g / 2

  abbrev laws : PlanBase g
  laws = plan_base_lem g s

  area_to : {a b : ℕ} → Area E (cell_of g) (one_code g plan) a b → OneArea g plan a b
  area_to alone = itself _
  area_to (over {e} h k) = onwards _ _ _ (laws.neighbours e (omega arith)) (codes_same g plan e k) (itself _)
  area_to (turned r) = area_sym g plan (area_to r)
  area_to (onward r k) = area_trans g plan (area_to r) (area_to k)

  area_over : {a b : ℕ} → Beside g a b → code_at plan a ≡ code_at plan b → Area E (cell_of g) (one_code g plan) a b
  area_over {a} {b} n k =
      let (e, h, o, p, q) = code_one g plan a b (laws.joining a b n) k in
      let r : Area E (cell_of g) (one_code g plan) (cell_of g (2 * e)) (cell_of g (2 * e + 1)) = over {e = e} (omega arith) o in
      rw (p, q) at r

  area_from : {a b : ℕ} → OneArea g plan a b → Area E (cell_of g) (one_code g plan) a b
  area_from (itself a) = alone
  area_from (onwards a b c n k r) = onward (area_over n k) (area_from r)
  area_from (back a b c n k r) = onward (turned (area_over n (sym k))) (area_from r)

-- ---- the excepted plans

pub record Excepted (g : Grid) (plan : List ℕ) : Type 0 where
  pub flat : ¬ T g.closes
  pub thin : (g.wales ≡ 1) ⊎ (g.courses ≡ 1)
  pub single : (a b : ℕ) → a < cells g → b < cells g → code_at plan a ≡ code_at plan b

-- (W - 1) * (C - 1) = 0
thin_count : (W C : ℕ) → 1 ≤ W → 1 ≤ C → W * C ≡ (W - 1) * C + W * (C - 1) + 1 → (W ≡ 1) ⊎ (C ≡ 1)
thin_count zero C h k e = absurd (omega arith)
thin_count (suc W) zero h k e = absurd (omega arith)
thin_count (suc zero) (suc C) h k e = inl refl
thin_count (suc (suc W)) (suc zero) h k e = inr refl
thin_count (suc (suc W)) (suc (suc C)) h k e = absurd (let p = simp unary_clauses at e in omega arith)

count_thin : (W C : ℕ) → 1 ≤ W → 1 ≤ C → (W ≡ 1) ⊎ (C ≡ 1) → W * C ≡ (W - 1) * C + W * (C - 1) + 1
count_thin W C h k (inl e) = rw e (omega arith)
count_thin W C h k (inr e) = rw e (omega arith)

module _ (g : Grid) (s : T (sized g)) where
  -- the cells are one more than the edges in a grid that does not close and is one cell wide or one cell high, and in no other
  pub tree_thin : cells g ≡ edges g + 1 → (¬ T g.closes) × ((g.wales ≡ 1) ⊎ (g.courses ≡ 1))
  unfolding cells edges
  tree_thin e = go (T? g.closes)
    where
      go : Dec (T g.closes) → (¬ T g.closes) × ((g.wales ≡ 1) ⊎ (g.courses ≡ 1))
      go (yes c) = absurd (let z = rw (along_closed g c) at e in omega arith)
      go (no n) = (n, thin_count g.wales g.courses (limits g s).some_wale (limits g s).some_course (rw (along_flat g n) at e))

  pub thin_tree : ¬ T g.closes → (g.wales ≡ 1) ⊎ (g.courses ≡ 1) → cells g ≡ edges g + 1
  unfolding cells edges
  thin_tree n e = rw (along_flat g n) (count_thin g.wales g.courses (limits g s).some_wale (limits g s).some_course e)

-- ---- one code on all edges is one code on all cells

pub single_code : (g : Grid) → T (sized g) → (plan : List ℕ) → ((e : ℕ) → e < edges g → one_code g plan e ≡ true)
    → (a b : ℕ) → a < cells g → b < cells g → code_at plan a ≡ code_at plan b
single_code g s plan all a b h k =
    area_least (λ x y. code_at plan x ≡ code_at plan y) (record { self = λ x. refl; flip = λ x y e. sym e; chain = λ x y z d e. d ∙ e })
    (λ e l o. codes_same g plan e (all e (omega arith))) (every_cell_reached g s a b h k)

-- ---- what the first kernel leaves

-- a survivor in the area of cell c
pub record Survivor (g : Grid) (plan past : List ℕ) (c : ℕ) : Type 0 where
  pub dart : ℕ
  pub lives : T (live (darts_of g) past dart)
  pub area : OneArea g plan c (cell_of g dart)

-- "one edge stays": the last, whose darts are the survivors, and its two ends are two vertices, and all of them
pub record OneEdge (g : Grid) (u past : List ℕ) : Type 0 where
  pub edge : ℕ
  pub last : suc edge ≡ edges g
  pub count : suc (length past) ≡ edges g
  pub lives : T (live (darts_of g) past (2 * edge)) × T (live (darts_of g) past (2 * edge + 1))
  pub only : (d : ℕ) → T (live (darts_of g) past d) → (d ≡ 2 * edge) ⊎ (d ≡ 2 * edge + 1)
  pub apart : ¬ T (same_vertex (darts_of g) u (2 * edge) (2 * edge + 1))
  pub vertices : (counts_of (darts_of g) u past).vertices ≡ 2

pub record Areas (g : Grid) (plan u past : List ℕ) : Type 0 where
  -- "Its vertices are exactly the connected areas of one code, save in a plan one cell wide or one cell high with a single code"
  pub shares : ¬ (Excepted g plan) → (a b : ℕ) → T (live (darts_of g) past a) → T (live (darts_of g) past b)
      → T (same_vertex (darts_of g) u a b) ↔ OneArea g plan (cell_of g a) (cell_of g b)
  pub survives : (c : ℕ) → c < cells g → Survivor g plan past c
  -- "where one edge stays"
  pub stays : Excepted g plan → OneEdge g u past

module _ (g : Grid) (s : T (sized g)) (plan : List ℕ) {u past : List ℕ} (stood : first_kernel g plan ≡ stands u past) where
  abbrev D : ℕ
  D = darts_of g

  abbrev merges : merging D (one_code g plan) (base_table g) ≡ stands u past
  merges = sym (first_merges g plan) ∙ stood

  tree_excepted : Tree D (one_code g plan) (base_table g) → Excepted g plan
  tree_excepted (count, all) =
      let c = cells_counted g s in
      let thin = tree_thin g s (omega arith) in
      let each : (e : ℕ) → e < edges g → one_code g plan e ≡ true = λ e h. all e (omega arith) in
      record { flat = thin.0; thin = thin.1; single = single_code g s plan each }

  single_edges : Excepted g plan → (e : ℕ) → e < D / 2 → one_code g plan e ≡ true
  unfolding one_code
  single_edges x e h = eqb_same (x.single _ _ ((plan_base_lem g s).cell (2 * e) (omega arith)) ((plan_base_lem g s).cell (2 * e + 1) (omega arith)))

  one_edge_stays : Excepted g plan → OneEdge g u past
  one_edge_stays x =
      let c = cells_counted g s in
      let tree = thin_tree g s x.flat x.thin in
      let two = (plan_base_lem g s).several in
      let (e, A) = one_stays D (one_code g plan) (base_table g) (base_stands g) merges (omega arith) (one_piece g s) (single_edges x) (omega arith) in
      record {
        edge = e;
        last = omega (arith, A.last);
        count = omega (arith, A.last, A.count);
        lives = A.lives;
        only = A.only;
        apart = all_but_apart D (one_code g plan) (base_table g) (base_stands g) merges e A;
        vertices = all_but_vertices D (one_code g plan) (base_table g) (base_stands g) merges e A;
      }

  -- THE AREAS OF EVERY SIZED PLAN
  pub areas : Areas g plan u past
  areas = record {
    shares = λ plain a b la lb.
        Iff.trans (merged-areas D (one_code g plan) (base_table g) (base_stands g) (base_cells g s) merges (one_piece g s) (λ z. plain (tree_excepted z)) a b la lb)
        (area_to g s plan, area_from g s plan);
    survives = λ c h.
        let d = (plan_base_lem g s).every c h in
        let (b, l, r) = area_survives D (one_code g plan) (base_table g) (base_stands g) (base_cells g s) merges d.dart d.below in
        record { dart = b; lives = l; area = area_to g s plan (rw d.stands at r) };
    stays = one_edge_stays;
  }
