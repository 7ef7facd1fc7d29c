-- What is left once the body of a file is judged.
--   Accepted b p D F n t t' h h' w == t' is the table t with the pairs that begin at the place p, h' the history h with the n numbers in the work area w
--   handed r t h w == what a read leaves that ends with r: a state, or a refusal
--   Settled s b F p t t' h h' w w' r == r, t' and h' are what a read leaves of any body of the state s that w holds
use Rattle.std.specs.Prelude.{◌≡◌, List, map, ℕ, ◌/◌, Result, Ok, Err}
use Rattle.darts.specs.Answers.{done}
use Rattle.darts.specs.Cases.{refusal_of}
use Rattle.darts.specs.declared.Refusal.{Refusal}
use Rattle.darts.specs.Scan.{Scan, found}
use Rattle.darts.specs.Read.{Body, pairs_at, from_flag, closed}
use Rattle.darts.specs.Calls.{After, leaves, cleared, read_into}
use Rattle.darts.specs.State.{State, zeros}
use Rattle.slices.specs.Over.{over}
use Rattle.area.specs.Shape.{history_in}
use Rattle.engine.specs.Held.{Beyond}
use Rattle.pyramid.specs.declared.State.{State as Kept}
use Rattle.pyramid.specs.Values.{state_of}
use Rattle.file_lines.specs.Lines.{starts_with}
use Rattle.reader.specs.Parsed.{Holds}

pub record Accepted (b : List ℕ) (p D F n : ℕ) (t t' h h' w : List ℕ) : Type 0 where
  pub table : (xs : List ℕ) (next : ℕ) → pairs_at (D / 2) b p ≡ found xs next → t' ≡ over (map (from_flag F D) xs) t
  pub history : h' ≡ over (history_in D n w) h

-- "A refused start or read, which was given none, hands back a state of zeros."
abbrev pub handed : Result Kept Refusal → List ℕ → List ℕ → List ℕ → After
handed (Ok s) t h w = leaves done (state_of s) t h w
handed (Err a) t h w = leaves (refusal_of a) zeros t h w

pub record Settled (s : State) (b : List ℕ) (F p : ℕ) (t t' h h' w w' : List ℕ) (r : Result Kept Refusal) : Type 0 where
  pub whole : (z : Scan Body) → Holds s b F p z w → (v : List ℕ)
      → handed r t' h' (cleared s.darts v) ≡ read_into t h v (closed (starts_with F s.darts) z)
  pub beyond : Beyond s.darts w w'
