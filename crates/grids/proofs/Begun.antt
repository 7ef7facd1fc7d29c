-- What an accepted call on a plan leaves: a pyramid, lent with room, on which calls can be made.
--   plan_left     == an accepted base is a base lent with room
--   first_edges    == the edges that the first kernel takes
--   Ends          == how the second call ends where neither 15 nor 2 is given: with one level, or with 5
--   areas_ends    == one of them it is
--   areas_left    == an accepted base with its first kernel is a pyramid of one level, lent with room
--   areas_reduces == it is what reduce leaves of the base by the contraction kernel of these edges
--   areas_five    == 5 is given exactly where there are none
--   areas_areas   == its vertices are the areas
use mathlib.Core.Bool.{Bool}
use mathlib.Core.List.{List, [], ◌∷◌, ◌++◌, reverse}
use mathlib.Core.Logic.{◌↔◌, ◌≢◌}
use mathlib.Core.Path.{◌≡◌, refl, sym, ap, ◌∙◌}
use Prim.Native.Nat.{ℕ}
use native.Mathlib.Omega.{arith}
use lib.ListN.{length}
use Rattle.slices.specs.Over.{over}
use Rattle.slices.proofs.Over.{over_rest}
use Rattle.darts.specs.Answers.{done, empty_kernel}
use Rattle.darts.specs.Operation.{contraction}
use Rattle.darts.specs.Kernel.{stands}
use Rattle.darts.specs.State.{State, base_state, gives, raised, levelled, reduce, zeros}
use Rattle.darts.specs.Pyramid.{Pyramid}
use Rattle.darts.specs.Calls.{leaves, cleared, table_of, past_of, reduce_by}
use Rattle.laws.proofs.tests.Passes.{pyramid_shaped}
use Rattle.laws.proofs.calls.Cleared.{cleared_rest, cleared_kept}
use Rattle.laws.proofs.calls.Judging.{Lent}
use Rattle.laws.proofs.chained.OnLent.{Left, laid_table, laid_past, laid_left, on_gives}
use Rattle.laws.proofs.merging.Turns.{merging, merged}
use Rattle.laws.proofs.merging.Taken.{merging_through}
use Rattle.laws.proofs.merging.Stands.{merging_stands, merging_count}
use Rattle.laws.proofs.merging.Level.{base_pyramid, merging_reduces, merging_gives, merging_refuses, merging_pyramid}
use Rattle.grids.specs.Grid.{Grid, darts_of}
use Rattle.grids.specs.Base.{base_table}
use Rattle.grids.specs.Plans.{one_code, first_kernel, begun, plan_base, plan_areas}
use Rattle.grids.proofs.Limits.{Limits, sized_limits}
use Rattle.grids.proofs.PlanBase.{PlanBase, plan_base_lem, base_stands}
use Rattle.grids.proofs.Planning.{Enough, Planning, outside, cramped, begins, planning}
use Rattle.grids.proofs.Areas.{Areas, areas, first_merges}

abbrev pub first_edges : Grid → List ℕ → List ℕ
first_edges g plan = merged (darts_of g) (one_code g plan) (base_table g)

-- the base of a sized grid is a pyramid
pub plan_pyramid : (g : Grid) → Limits g → Pyramid (base_state (darts_of g) (base_table g)) (base_table g) []
plan_pyramid g l = let B = plan_base_lem g ((sized_limits g).1 l) in base_pyramid (darts_of g) (base_table g) B.count B.size B.permutation

pub empty_list : (l : List ℕ) → length l ≡ 0 → l ≡ []
empty_list [] e = refl
empty_list (x ∷ l) e = absurd (omega arith)

not_empty : (x : ℕ) (l : List ℕ) → x ∷ l ≢ []
not_empty x l e = let z = ap length e in omega arith

module _ (g : Grid) (plan t h w : List ℕ) where
  abbrev D : ℕ
  D = darts_of g

  -- ---- the base

  -- "Demands 2 and 3 read the built base like any other."
  pub plan_left : (plan_base g plan t h w).answer.number ≡ 0 → Left D t h w (plan_base g plan t h w)
  unfolding plan_base begun over
  plan_left z = go (planning g (gives (base_state D (base_table g)) (base_table g) []) plan t h w)
    where
      go : Planning g (gives (base_state D (base_table g)) (base_table g) []) plan t h w → Left D t h w (plan_base g plan t h w)
      go (outside n e) = absurd (let k : 15 ≡ 0 = rw e at z in omega arith)
      go (cramped l n e) = absurd (let k : 2 ≡ 0 = rw e at z in omega arith)
      go (begins l k e) = rw e (laid_left (plan_pyramid g l) t h w k.lengths)

  -- ---- the base with its first kernel

  pub data Ends : Type 0 where
    level : {u past : List ℕ} → first_kernel g plan ≡ stands u past → past ≢ [] → Pyramid (raised (base_state D (base_table g)) u past) u past
        → plan_areas g plan t h w ≡ leaves done (raised (base_state D (base_table g)) u past) (over u t) (over (reverse past) h) (cleared D w) → Ends
    none : first_edges g plan ≡ [] → plan_areas g plan t h w ≡ leaves empty_kernel zeros t h (cleared D w) → Ends

  abbrev same : ℕ → Bool
  same = one_code g plan

  first_levels : levelled (base_state D (base_table g)) [] (first_kernel g plan) ≡ levelled (base_state D (base_table g)) [] (merging D same (base_table g))
  first_levels = ap (levelled (base_state D (base_table g)) []) (first_merges g plan)

  -- HOW THE SECOND CALL ENDS
  pub areas_ends : Limits g → Enough g (length plan) (length t) (length h) (length w) → Ends
  unfolding plan_areas begun
  areas_ends l k = go (planning g (levelled (base_state D (base_table g)) [] (first_kernel g plan)) plan t h w)
    where
      B : PlanBase g
      B = plan_base_lem g ((sized_limits g).1 l)

      u : List ℕ
      u = (merging_through D same (base_table g)).table

      stood : (past : List ℕ) → (merging_through D same (base_table g)).past ≡ past → merging D same (base_table g) ≡ stands u past
      stood past e = merging_stands D same (base_table g) ∙ ap (stands u) e

      by_past : (past : List ℕ) → (merging_through D same (base_table g)).past ≡ past
          → plan_areas g plan t h w ≡ begun D t h w (levelled (base_state D (base_table g)) [] (first_kernel g plan)) → Ends
      by_past [] p e =
          let s = stood [] p in
          none (empty_list _ (sym (merging_count D same (base_table g) s))) (e ∙ ap (begun D t h w) (first_levels ∙ merging_refuses D same (base_table g) s refl))
      by_past (x ∷ past) p e =
          let s = stood (x ∷ past) p in
          let some : x ∷ past ≢ [] = λ z. not_empty x past z in
          level (first_merges g plan ∙ s) some (merging_pyramid D same (base_table g) s B.count B.size B.permutation some)
          (e ∙ ap (begun D t h w) (first_levels ∙ merging_gives D same (base_table g) s some))

      go : Planning g (levelled (base_state D (base_table g)) [] (first_kernel g plan)) plan t h w → Ends
      go (outside n e) = absurd (n l)
      go (cramped m n e) = absurd (n k)
      go (begins m n e) = by_past _ refl e

  -- the ways of an accepted call
  abbrev Accepts : Type 0
  Accepts = (plan_areas g plan t h w).answer.number ≡ 0

  pub record Built : Type 0 where
    pub within : Limits g
    pub enough : Enough g (length plan) (length t) (length h) (length w)
    pub ends : Ends

  pub areas_built : Accepts → Built
  unfolding plan_areas
  areas_built z = go (planning g (levelled (base_state D (base_table g)) [] (first_kernel g plan)) plan t h w)
    where
      go : Planning g (levelled (base_state D (base_table g)) [] (first_kernel g plan)) plan t h w → Built
      go (outside n e) = absurd (let k : 15 ≡ 0 = rw e at z in omega arith)
      go (cramped l n e) = absurd (let k : 2 ≡ 0 = rw e at z in omega arith)
      go (begins l k e) = record { within = l; enough = k; ends = areas_ends l k }

  pub areas_left : Accepts → Left D t h w (plan_areas g plan t h w)
  unfolding raised
  areas_left z = let b = areas_built z in go b.enough b.ends
    where
      go : Enough g (length plan) (length t) (length h) (length w) → Ends → Left D t h w (plan_areas g plan t h w)
      go k (none n e) = absurd (let q : 5 ≡ 0 = rw e at z in omega arith)
      go k (level s some P e) = rw e (laid_left P t h w k.lengths)

  -- THE VERTICES OF LEVEL 1 ARE THE AREAS
  pub areas_areas : Accepts → Areas g plan (table_of (plan_areas g plan t h w).state (plan_areas g plan t h w).table)
      (past_of (plan_areas g plan t h w).state (plan_areas g plan t h w).history)
  unfolding raised
  areas_areas z = let b = areas_built z in go b.within b.enough b.ends
    where
      go : Limits g → Enough g (length plan) (length t) (length h) (length w) → Ends
          → Areas g plan (table_of (plan_areas g plan t h w).state (plan_areas g plan t h w).table)
          (past_of (plan_areas g plan t h w).state (plan_areas g plan t h w).history)
      go l k (none n e) = absurd (let q : 5 ≡ 0 = rw e at z in omega arith)
      go l k (level {u} {past} s some P e) =
          rw (e, laid_table P t h w k.lengths, laid_past P t h w k.lengths) (areas g ((sized_limits g).1 l) plan s)

  -- "The second call answers 5, as a refused start, where its kernel would take no edge."
  pub areas_five : Limits g → Enough g (length plan) (length t) (length h) (length w)
      → ((plan_areas g plan t h w).answer.number ≡ 5) ↔ (first_edges g plan ≡ [])
  areas_five l k = go (areas_ends l k)
    where
      go : Ends → ((plan_areas g plan t h w).answer.number ≡ 5) ↔ (first_edges g plan ≡ [])
      go (none n e) = (λ _. n, λ _. rw e)
      go (level {u} {past} s some P e) = (
        λ z. absurd (let q : 0 ≡ 5 = rw e at z in omega arith),
        λ n. absurd (some (empty_list past (merging_count D same (base_table g) (sym (first_merges g plan) ∙ s) ∙ ap length n))),
      )

  -- ---- an ordinary kernel

  pub base_leaves : Limits g → Enough g (length plan) (length t) (length h) (length w)
      → plan_base g plan t h w ≡ leaves done (base_state D (base_table g)) (over (base_table g) t) h (cleared D w)
  unfolding plan_base begun over
  base_leaves l k = go (planning g (gives (base_state D (base_table g)) (base_table g) []) plan t h w)
    where
      go : Planning g (gives (base_state D (base_table g)) (base_table g) []) plan t h w
          → plan_base g plan t h w ≡ leaves done (base_state D (base_table g)) (over (base_table g) t) h (cleared D w)
      go (outside n e) = absurd (n l)
      go (cramped m n e) = absurd (n k)
      go (begins m n e) = e

  -- what stood over the base's own numbers stands there no more
  over_base : {z : State} {u past : List ℕ} → Pyramid z u past → z.darts ≡ D → over u (over (base_table g) t) ≡ over u t
  unfolding over
  over_base {z} {u} P d =
      let size : length u ≡ length (base_table g) = (pyramid_shaped P).sound.standing.size ∙ d ∙ sym (base_stands g).size in
      rw size (ap (λ l. u ++ l) (over_rest (base_table g) t))

  -- THE SECOND CALL IS THE FIRST, AND THEN THE CONTRACTION KERNEL OF THE EDGES THAT IT TAKES
  pub areas_reduces : Accepts → plan_areas g plan t h w
      ≡ reduce_by contraction (first_edges g plan) (plan_base g plan t h w).state (plan_base g plan t h w).table
      (plan_base g plan t h w).history (plan_base g plan t h w).work
  unfolding reduce_by past_of raised
  areas_reduces z = let b = areas_built z in go b.within b.enough b.ends
    where
      go : Limits g → Enough g (length plan) (length t) (length h) (length w) → Ends → plan_areas g plan t h w
          ≡ reduce_by contraction (first_edges g plan) (plan_base g plan t h w).state (plan_base g plan t h w).table
          (plan_base g plan t h w).history (plan_base g plan t h w).work
      go l k (none n e) = absurd (let q : 5 ≡ 0 = rw e at z in omega arith)
      go l k (level {u} {past} s some P e) =
          let base = base_leaves l k in
          let lent : Lent (base_state D (base_table g)) (over (base_table g) t) h (cleared D w) = rw base at (plan_left (rw base refl)).lent in
          let stood = sym (first_merges g plan) ∙ s in
          let step : reduce contraction (first_edges g plan) (base_state D (base_table g)) (table_of (base_state D (base_table g)) (over (base_table g) t)) [] ≡ gives (raised (base_state D (base_table g)) u past) u past
          = rw (laid_table (plan_pyramid g l) t h w k.lengths) (sym (merging_reduces D same (base_table g)) ∙ merging_gives D same (base_table g) stood some) in
          let call = on_gives (reduce contraction (first_edges g plan)) (base_state D (base_table g)) (over (base_table g) t) h (cleared D w) lent step in
          rw base (e ∙ sym (rw (over_base P refl, cleared_kept D w (cleared D w) (cleared_rest D w)) at call))
