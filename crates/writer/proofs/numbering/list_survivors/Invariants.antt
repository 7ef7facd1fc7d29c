-- `writer::numbering::list_survivors` meets its contract: with x turns of the loop done the survivors below x are listed.
--   Gathering D n w₀ w place x == that, with the place after the last one
use mathlib.Core.List.{List}
use mathlib.Core.Path.{◌≡◌}
use Prim.Native.Nat.{ℕ, ◌+◌, ◌*◌, ◌≤◌}
use lib.ListN.{length}
use Rattle.darts.specs.File.{survivors}
use Rattle.area.specs.Area.{past_in}
use Rattle.writer.specs.Fields.{Fitted}
use Rattle.writer.proofs.numbering.list_survivors.Given as goal

pub record Gathering (D n : ℕ) (w₀ w : List ℕ) (place x : ℕ) : Type 0 where
  pub size : length w ≡ length w₀
  pub bound : x ≤ D
  pub near : place ≤ 2 * D + 2 * n + x
  pub fitted : Fitted w₀ w (2 * D + 2 * n) place (survivors (past_in D n w₀) x)

abbrev pub invariant-loop-x : goal.invariant-loop-x
invariant-loop-x l = Gathering l.d l.n l.initial.work l.work l.place l.x
