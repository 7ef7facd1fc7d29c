-- What reading the body of a file leaves in the work area.
--   lines_at L D b at       == the lines after `levels=L`
--   Holds s b F p z w       == z found kernels and numbers, of the figures of s; the pairs begin at the place p, and the work area w has the table, and the
--                             history where it has room
--   BodyRead z b D F w w' r == r tells what z found, with the place where the pairs begin, or its fault; w' is the work area w with it
use Rattle.std.specs.Prelude.{◌≡◌, List, map, ℕ, ◌/◌, ◌≤◌, Result, IfOk, IfErr}
use Rattle.darts.specs.Cases.{refusal_of}
use Rattle.darts.specs.declared.Refusal.{Refusal}
use Rattle.darts.specs.Scan.{Scan, found, fault, after}
use Rattle.darts.specs.Read.{KernelLine, Body, kernels_at, pairs_at, end_at, from_flag, file_state, file_history}
use Rattle.darts.specs.State.{State, counted}
use Rattle.area.specs.Area.{table_in}
use Rattle.area.specs.Shape.{state_with, history_in}
use Rattle.area.specs.declared.Figures.{Figures}
use Rattle.engine.specs.Held.{Beyond}

abbrev pub body_of : List KernelLine → List ℕ → Body
body_of ks xs = record { kernels = ks; numbers = xs }

unfoldable pub lines_at : ℕ → ℕ → List ℕ → ℕ → Scan Body
lines_at L D b at = after (kernels_at L b at) (λ ks at. after (pairs_at (D / 2) b at) (λ xs at. end_at (body_of ks xs) b at))

pub record Holds (s : State) (b : List ℕ) (F p : ℕ) (z : Scan Body) (w : List ℕ) : Type 0 where
  pub kernels : List KernelLine
  pub numbers : List ℕ
  pub next : ℕ
  pub body : z ≡ found (body_of kernels numbers) next
  pub few : s.levels ≤ 64
  pub state : (t past : List ℕ) → counted s t past ≡ file_state s.darts kernels t past
  pub pairs : pairs_at (s.darts / 2) b p ≡ found numbers next
  pub table : table_in s.darts w ≡ map (from_flag F s.darts) numbers
  pub history : s.operations ≤ s.darts / 2 → history_in s.darts s.operations w ≡ file_history kernels

pub record BodyRead (z : Scan Body) (b : List ℕ) (D F : ℕ) (w w' : List ℕ) (r : Result (Figures × ℕ) Refusal) : Type 0 where
  pub wrong : IfErr r (λ a. z ≡ fault (refusal_of a))
  pub right : IfOk r (λ s. (s.0.darts ≡ D) × Holds (state_with s.0) b F s.1 z w')
  pub beyond : Beyond D w w'
