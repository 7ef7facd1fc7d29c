-- Answers 15 and 2 of a plan.
--   fit_size, fit_short, fit_plan_short, fit_done == the ways that the judging ends
--   Fitted, fitted == where it is done: the plan's size is inside the limits, and what is lent is long enough
--   fitted_room    == the work area has room for the plan's darts then
use mathlib.Core.Bool.{true, false, ◌&&◌}
use mathlib.Core.List.{List}
use mathlib.Core.Logic.{◌≢◌}
use mathlib.Core.Path.{◌≡◌, sym, ap, ◌∙◌}
use Prim.Native.Nat.{ℕ, ◌*◌, ◌≤◌, ◌<◌}
use native.Mathlib.Omega.{arith}
use lib.Dec.{T, leb, leb→le}
use lib.ListN.{length}
use borrow.Author.Tests.{le-leb, lt-leb}
use Rattle.permutations.specs.Choice.{T?, T→true, true→T, not_T→false, and_left, and_right}
use Rattle.darts.specs.Answers.{Answer, done, too_short, no_plan_size}
use Rattle.darts.specs.Calls.{room, fitting}
use Rattle.darts.proofs.Fitting.{Count, Lengths, count_facts, room_facts, room_test, short, fine, fits}
use Rattle.area.specs.Area.{Room}
use Rattle.grids.specs.Grid.{Grid, sized, cells, darts_of}
use Rattle.grids.specs.Plans.{fitting_plan}
use Rattle.grids.proofs.Limits.{dart_count_lem}

module _ (g : Grid) (plan t h w : ℕ) where
  abbrev first : ℕ
  first = (fitting (darts_of g) t h w).number

  pub fit_size : false ≡ sized g → no_plan_size ≡ fitting_plan g plan t h w
  unfolding fitting_plan
  fit_size e = rw (← e)

  module _ (s : true ≡ sized g) where
    count : Count (darts_of g)
    count = count_facts (darts_of g) (dart_count_lem g (true→T (sym s)))

    pub fit_short : first ≢ 0 → fitting (darts_of g) t h w ≡ fitting_plan g plan t h w
    unfolding fitting_plan
    fit_short n = go (T? (room t h w (darts_of g)))
      where
        go : Dec (T (room t h w (darts_of g))) → fitting (darts_of g) t h w ≡ fitting_plan g plan t h w
        go (yes r) = absurd (n (ap (λ (a : Answer). a.number) (sym (fine (darts_of g) t h w count (room_facts t h w (darts_of g) r)))))
        go (no r) = sym (short (darts_of g) t h w count (λ l. r (room_test t h w (darts_of g) l))) ∙ rw (← s, not_T→false (room t h w (darts_of g)) r)

    module _ (enough : first ≡ 0) where
      lengths : Lengths (darts_of g) t h w
      lengths = (fits (darts_of g) t h w enough).lengths

      roomy : room t h w (darts_of g) ≡ true
      roomy = T→true (room t h w (darts_of g)) (room_test t h w (darts_of g) lengths)

      pub fit_plan_short : plan < g.wales * g.courses → too_short ≡ fitting_plan g plan t h w
      unfolding fitting_plan cells
      fit_plan_short l = rw (← s, roomy, lt-leb (g.wales * g.courses) plan l)

      pub fit_done : g.wales * g.courses ≤ plan → fitting (darts_of g) t h w ≡ fitting_plan g plan t h w
      unfolding fitting_plan cells
      fit_done l = sym (fine (darts_of g) t h w count lengths) ∙ rw (← s, roomy, le-leb (g.wales * g.courses) plan l)

  pub record Fitted : Type 0 where
    pub sizes : T (sized g)
    pub lengths : Lengths (darts_of g) t h w
    pub enough : cells g ≤ plan
    pub answer : fitting_plan g plan t h w ≡ done

  pub fitted : done ≡ fitting_plan g plan t h w → Fitted
  unfolding fitting_plan
  fitted judged = go (T? (sized g)) (T? (room t h w (darts_of g) && leb (cells g) plan))
    where
      e : (fitting_plan g plan t h w).number ≡ 0
      e = sym (ap (λ (a : Answer). a.number) judged)

      go : Dec (T (sized g)) → Dec (T (room t h w (darts_of g) && leb (cells g) plan)) → Fitted
      go (yes s) (yes r) = record {
        sizes = s;
        lengths = room_facts t h w (darts_of g) (and_left (room t h w (darts_of g)) (leb (cells g) plan) r);
        enough = leb→le (cells g) plan (and_right (room t h w (darts_of g)) (leb (cells g) plan) r);
        answer = rw (T→true (sized g) s, T→true (room t h w (darts_of g) && leb (cells g) plan) r);
      }
      go (yes s) (no n) =
          absurd (let z : 2 ≡ 0 = rw (T→true (sized g) s, not_T→false (room t h w (darts_of g) && leb (cells g) plan) n) at e in omega arith)
      go (no n) d = absurd (let z : 15 ≡ 0 = rw (not_T→false (sized g) n) at e in omega arith)

-- the work area has room for the darts of such a plan
pub fitted_room : (g : Grid) (plan t h : ℕ) (w : List ℕ) → Fitted g plan t h (length w) → Room (darts_of g) w
fitted_room g plan t h w f =
    let c = count_facts (darts_of g) (dart_count_lem g f.sizes) in
    record { even = c.even; some = omega (arith, c.some); small = c.small; fits = f.lengths.work }
