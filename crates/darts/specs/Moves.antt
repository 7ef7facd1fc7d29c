-- What operations take away, and what undoing them gives back: one vertex for each contraction, one face for each removal (document 02, request Six). The laws say that
-- these are the numbers of the cycles.
--   contractions_in hs == how many of the history numbers hs are contractions'
--   moved_to s z h     == the figures of z, with the numbers that s stores moved from s's operations to z's along the history h
use Rattle.std.specs.Prelude.{List, [], ◌∷◌, ℕ, ◌+◌, ◌-◌, ◌%◌}
use Rattle.slices.specs.Part.{part}
use Rattle.darts.specs.State.{State}

-- "The history gets one number, 2p for a removal and 2p+1 for a contraction."
unfoldable pub contractions_in : List ℕ → ℕ
contractions_in [] = 0
contractions_in (h ∷ hs) = h % 2 + contractions_in hs

-- one of the two parts is empty: operations are done, or undone
unfoldable pub moved_to : State → State → List ℕ → State
moved_to s z h =
    let n : ℕ = s.operations in
    let m : ℕ = z.operations in
    let done : ℕ = contractions_in (part n m h) in
    let undone : ℕ = contractions_in (part m n h) in
    record {
      darts = z.darts;
      operations = z.operations;
      levels = z.levels;
      ends = z.ends;
      vertices = s.vertices - done + undone;
      faces = s.faces - (m - n - done) + (n - m - undone);
    }
