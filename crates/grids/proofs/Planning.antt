-- The ways that a call on a plan ends: 15, 2, or what its step gives.
--   Enough g p t h w      == a plan of p codes and slices of these lengths are enough; fitting-enough ties it to the test
--   Planning g r plan t h w == how the call whose step gives r ends, and why
--   planning              == one of these it is
use mathlib.Core.Bool.{◌&&◌}
use mathlib.Core.List.{List}
use mathlib.Core.Logic.{◌↔◌}
use mathlib.Core.Path.{◌≡◌}
use Prim.Native.Nat.{ℕ, ◌≤◌}
use lib.Dec.{T, leb, leb→le, le→leb}
use lib.ListN.{length}
use Rattle.permutations.specs.Choice.{T?, T→true, not_T→false, and_intro, and_left, and_right}
use Rattle.darts.specs.Answers.{too_short, no_plan_size}
use Rattle.darts.specs.State.{Result, zeros}
use Rattle.darts.specs.Calls.{leaves, room}
use Rattle.darts.proofs.Fitting.{Lengths, room_facts, room_test}
use Rattle.grids.specs.Grid.{Grid, sized, cells, darts_of}
use Rattle.grids.specs.Plans.{fitting_plan, begun, on_plan}
use Rattle.grids.proofs.Limits.{Limits, sized_limits}

pub record Enough (g : Grid) (p t h w : ℕ) : Type 0 where
  pub plan : cells g ≤ p
  pub lengths : Lengths (darts_of g) t h w

enough_iff : (g : Grid) (p t h w : ℕ) → T (room t h w (darts_of g) && leb (cells g) p) ↔ Enough g p t h w
enough_iff g p t h w = (
  λ e. record {
    plan = leb→le (cells g) p (and_right (room t h w (darts_of g)) (leb (cells g) p) e);
    lengths = room_facts t h w (darts_of g) (and_left (room t h w (darts_of g)) (leb (cells g) p) e);
  },
  λ e. and_intro (room t h w (darts_of g)) (leb (cells g) p) (room_test t h w (darts_of g) e.lengths) (le→leb (cells g) p e.plan),
)

pub data Planning (g : Grid) (r : Result) (plan t h w : List ℕ) : Type 0 where
  outside : ¬ (Limits g) → on_plan g r plan t h w ≡ leaves no_plan_size zeros t h w → Planning g r plan t h w
  cramped : Limits g → ¬ (Enough g (length plan) (length t) (length h) (length w))
      → on_plan g r plan t h w ≡ leaves too_short zeros t h w → Planning g r plan t h w
  begins : Limits g → Enough g (length plan) (length t) (length h) (length w)
      → on_plan g r plan t h w ≡ begun (darts_of g) t h w r → Planning g r plan t h w

-- HOW A CALL ON A PLAN ENDS
pub planning : (g : Grid) (r : Result) (plan t h w : List ℕ) → Planning g r plan t h w
unfolding on_plan fitting_plan
planning g r plan t h w = go (T? (sized g)) (T? (room (length t) (length h) (length w) (darts_of g) && leb (cells g) (length plan)))
  where
    go : Dec (T (sized g)) → Dec (T (room (length t) (length h) (length w) (darts_of g) && leb (cells g) (length plan))) → Planning g r plan t h w
    go (no n) e = outside (λ s. n ((sized_limits g).1 s)) (rw (not_T→false (sized g) n))
    go (yes s) (no n) =
        cramped ((sized_limits g).0 s) (λ e. n ((enough_iff g _ _ _ _).1 e))
        (rw (T→true (sized g) s, not_T→false (room (length t) (length h) (length w) (darts_of g) && leb (cells g) (length plan)) n))
    go (yes s) (yes e) =
        begins ((sized_limits g).0 s) ((enough_iff g _ _ _ _).0 e)
        (rw (T→true (sized g) s, T→true (room (length t) (length h) (length w) (darts_of g) && leb (cells g) (length plan)) e))
