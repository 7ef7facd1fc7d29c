-- The base of a sized grid: a start takes it, its vertices are the cells, and its edges join the neighbours.
--   rounds_of        == the rounds of the cells share no dart and have all of them
--   base_stands      == so the table is a permutation of all darts
--   base_vertices    == whose vertices are the cells
--   Edge g a b       == an edge from cell a to cell b; Dart g c is a dart of cell c
--   PlanBase g       == the laws of the base, one by one
--   plan_base_lem        == they hold of every sized grid
--   plan_fits        == a sized plan that is lent with room is not refused
--   built_is_started == what the call builds is what a start with its table leaves
use mathlib.Core.List.{List, []}
use mathlib.Core.Logic.{◌↔◌}
use mathlib.Core.Path.{◌≡◌, refl, sym, subst, ap, ◌∙◌}
use Prim.Native.Nat.{ℕ, ◌+◌, ◌*◌, ◌/◌, ◌%◌, ◌≤◌, ◌<◌}
use native.Mathlib.Omega.{arith}
use lib.Dec.{T, leb, le→leb}
use lib.ListN.{length, take}
use Rattle.permutations.specs.Choice.{T→true}
use Rattle.slices.specs.Over.{over}
use Rattle.slices.proofs.Over.{over_front, over_length}
use Rattle.darts.specs.Answers.{done}
use Rattle.darts.specs.Map.{same_vertex, permutes, permutation_test}
use Rattle.darts.specs.State.{base_state}
use Rattle.darts.specs.Pyramid.{dart_count}
use Rattle.darts.specs.Calls.{leaves, room, cleared, start}
use Rattle.darts.proofs.Fitting.{Lengths, room_test}
use Rattle.laws.specs.Standing.{Standing}
use Rattle.laws.proofs.bridge.StandsBy.{stands_base}
use Rattle.laws.proofs.calls.Outcomes.{Starting, no_count, no_room, no_base, base, starting}
use Rattle.laws.proofs.chained.Begins.{start_accepts}
use Rattle.grids.specs.Grid.{Grid, sized, cells, edges, darts_of, Beside, right, round, above}
use Rattle.grids.specs.Base.{rounds, cell_of, successor_on, base_table}
use Rattle.grids.specs.Plans.{fitting_plan, begun, on_plan, plan_base}
use Rattle.grids.proofs.Rounds.{Rounds, round_table, rounds_stand, rounds_vertices}
use Rattle.grids.proofs.Edges.{Joins, onward, closing, upward, is_cell, joins_below, joined}
use Rattle.grids.proofs.Cells.{even, odd, round_at, at_one_lem, at_below, at_round, round_at_lem, cell_of_lem, dart_at, cell_of_below, even_cell, odd_cell}
use Rattle.grids.proofs.Successors.{round_distinct}
use Rattle.grids.proofs.Limits.{limits, every_cell, cells_two, dart_count_lem}

module _ (g : Grid) where
  pub rounds_of : Rounds (darts_of g) (cells g) (round_at g)
  rounds_of = record {
    distinct = λ c h. let i = is_cell g c h in round_distinct g (c % g.wales) (c / g.wales) i.wale i.course;
    apart = λ b c d h k s t. at_one_lem g (round_at_lem g h s) (round_at_lem g k t);
    inside = λ c d h t. (at_below g (round_at_lem g h t)).0;
    placed = λ d h. (cell_of g d, cell_of_below g d h, at_round g (dart_at g d h));
  }

  table_rounds : round_table (darts_of g) (cells g) (round_at g) ≡ base_table g
  unfolding base_table successor_on cell_of rounds
  table_rounds = refl

  pub base_stands : Standing (darts_of g) (base_table g) []
  base_stands = subst (λ t. Standing (darts_of g) t []) table_rounds (rounds_stand rounds_of (omega arith))

  pub base_vertices : (a b : ℕ) → a < darts_of g → b < darts_of g → T (same_vertex (darts_of g) (base_table g) a b) ↔ (cell_of g a ≡ cell_of g b)
  unfolding cell_of rounds
  base_vertices a b h k =
      subst (λ t. T (same_vertex (darts_of g) t a b) ↔ (cell_of g a ≡ cell_of g b)) table_rounds (rounds_vertices rounds_of (omega arith) a b h k)

  -- ---- an edge joins neighbours, and neighbours are joined by an edge

  pub joins_beside : {e a b : ℕ} → Joins g e a b → Beside g a b
  joins_beside (onward x y h k) = right x y h k
  joins_beside (closing y c h k) = round y c k
  joins_beside (upward x y h k) = above x y h k

  pub beside_joins : {a b : ℕ} → 0 < g.wales → Beside g a b → (e : ℕ) × Joins g e a b
  beside_joins some (right x y h k) = (_, onward x y h k)
  beside_joins some (round y c k) = (_, closing y c some k)
  beside_joins some (above x y h k) = (_, upward x y h k)

-- an edge whose even dart stands at a and whose odd dart at b
pub record Edge (g : Grid) (a b : ℕ) : Type 0 where
  pub edge : ℕ
  pub below : edge < edges g
  pub even_at : cell_of g (2 * edge) ≡ a
  pub odd_at : cell_of g (2 * edge + 1) ≡ b

-- a dart that stands at cell c
pub record Dart (g : Grid) (c : ℕ) : Type 0 where
  pub dart : ℕ
  pub below : dart < darts_of g
  pub stands : cell_of g dart ≡ c

pub record PlanBase (g : Grid) : Type 0 where
  -- "Demands 2 and 3 read the built base like any other."
  pub count : T (dart_count (darts_of g))
  pub size : length (base_table g) ≡ darts_of g
  pub permutation : permutation_test (darts_of g) (base_table g) ≡ permutes
  pub standing : Standing (darts_of g) (base_table g) []
  pub accepted : (t h w : List ℕ) → Lengths (darts_of g) (length t) (length h) (length w)
      → start (darts_of g) (over (base_table g) t) h w ≡ leaves done (base_state (darts_of g) (base_table g)) (over (base_table g) t) h (cleared (darts_of g) w)
  -- its vertices are the cells
  pub vertices : (a b : ℕ) → a < darts_of g → b < darts_of g → T (same_vertex (darts_of g) (base_table g) a b) ↔ (cell_of g a ≡ cell_of g b)
  pub cell : (d : ℕ) → d < darts_of g → cell_of g d < cells g
  pub every : (c : ℕ) → c < cells g → Dart g c
  pub several : 2 ≤ cells g
  -- "an edge joins each cell to its neighbour in wale and in course", "the even dart at the left or lower cell"
  pub neighbours : (e : ℕ) → e < edges g → Beside g (cell_of g (2 * e)) (cell_of g (2 * e + 1))
  pub joining : (a b : ℕ) → Beside g a b → Edge g a b

module _ (g : Grid) (s : T (sized g)) where
  base_permutes : permutation_test (darts_of g) (base_table g) ≡ permutes
  base_permutes = stands_base (base_stands g)

  table_size : length (base_table g) ≡ darts_of g
  table_size = (base_stands g).size

  module _ (t h w : List ℕ) (L : Lengths (darts_of g) (length t) (length h) (length w)) where
    fits : length (over (base_table g) t) ≡ length t
    fits = over_length (base_table g) t (rw table_size L.table)

    lengths : Lengths (darts_of g) (length (over (base_table g) t)) (length h) (length w)
    lengths = record { table = rw fits L.table; history = L.history; work = L.work }

    front : permutation_test (darts_of g) (take (darts_of g) (over (base_table g) t)) ≡ permutes
    front = subst (λ n. permutation_test (darts_of g) (take n (over (base_table g) t)) ≡ permutes) table_size (rw (over_front (base_table g) t) base_permutes)

    start_takes : start (darts_of g) (over (base_table g) t) h w ≡ leaves done (base_state (darts_of g) (base_table g)) (over (base_table g) t) h (cleared (darts_of g) w)
    start_takes = go (starting D u h w) (start_accepts D u h w (dart_count_lem g s) lengths front)
      where
        D : ℕ
        D = darts_of g

        u : List ℕ
        u = over (base_table g) t

        whole : take D u ≡ base_table g
        whole = subst (λ n. take n u ≡ base_table g) table_size (over_front (base_table g) t)

        go : Starting D u h w → (start D u h w).answer.number ≡ 0 → start D u h w ≡ leaves done (base_state D (base_table g)) u h (cleared D w)
        go (no_count c e) z = absurd (let k : 1 ≡ 0 = rw e at z in omega arith)
        go (no_room c l e) z = absurd (let k : 2 ≡ 0 = rw e at z in omega arith)
        go (no_base c l m e) z = absurd (let k : 3 ≡ 0 = rw e at z in omega arith)
        go (base c l m e) z = e ∙ ap (λ b. leaves done (base_state D b) u h (cleared D w)) whole

  -- THE BASE OF EVERY SIZED GRID, WHETHER IT CLOSES OR NOT
  pub plan_base_lem : PlanBase g
  plan_base_lem = record {
    count = dart_count_lem g s;
    size = table_size;
    permutation = base_permutes;
    standing = base_stands g;
    accepted = start_takes;
    vertices = base_vertices g;
    cell = cell_of_below g;
    every = λ c h. let (d, a) = every_cell g s c h in record { dart = d; below = (at_below g a).0; stands = cell_of_lem g a };
    several = cells_two g s;
    neighbours = λ e h. rw (even_cell g e h, odd_cell g e h) (joins_beside g (joined g e h));
    joining = λ a b z.
        let (e, j) = beside_joins g (limits g s).some_wale z in
        record { edge = e; below = (joins_below g j).0; even_at = cell_of_lem g (even j); odd_at = cell_of_lem g (odd j) };
  }

  module _ (plan t h w : List ℕ) (L : Lengths (darts_of g) (length t) (length h) (length w)) (long : cells g ≤ length plan) where
    pub plan_fits : fitting_plan g (length plan) (length t) (length h) (length w) ≡ done
    unfolding fitting_plan
    plan_fits =
        rw (
          T→true (sized g) s,
          T→true (room (length t) (length h) (length w) (darts_of g)) (room_test (length t) (length h) (length w) (darts_of g) L),
          T→true (leb (cells g) (length plan)) (le→leb (cells g) (length plan) long),
        )

    -- WHAT THE CALL BUILDS IS WHAT A START WITH ITS TABLE LEAVES
    pub built_is_started : plan_base g plan t h w ≡ start (darts_of g) (over (base_table g) t) h w
    unfolding plan_base on_plan begun over
    built_is_started = rw plan_fits (sym (start_takes t h w L))
