-- What reading the lines of the kernels leaves.
--   noted room k i n h          == the history h with the numbers of n operations of kind k from place i on, where that is within the room
--   KernelsRead b at L D h h' r == r answers for the L lines from the place at on; h' is the history h with their numbers at the front
use Rattle.std.specs.Prelude.{◌≡◌, List, ◌++◌, ℕ, ◌+◌, ◌-◌, ◌/◌, ◌≤◌, leb, length, drop, replicate, Result, IfOk}
use Rattle.std.specs.Prelude.{if◌then◌else◌}
use Rattle.darts.specs.Operation.{Kind}
use Rattle.darts.specs.Scan.{found, after}
use Rattle.darts.specs.Read.{KernelLine, kernels_at, ends_from, total, numbers_from, file_history}
use Rattle.slices.specs.Over.{over}
use Rattle.darts.specs.declared.Refusal.{Refusal}
use Rattle.file_lines.specs.declared.kernels.Levels.{Levels}
use Rattle.file_lines.specs.Found.{scan_of}
use Rattle.slices.specs.Laid.{laid}

unfoldable pub noted : ℕ → Kind → ℕ → ℕ → List ℕ → List ℕ
noted room k i n h = if leb (i + n) room then laid h i (numbers_from k i n) else h

pub record KernelsRead (b : List ℕ) (at L D : ℕ) (h h' : List ℕ) (r : Result (Levels × ℕ) Refusal) : Type 0 where
  pub answer : scan_of (λ (l : Levels). l.operations) r ≡ after (kernels_at L b at) (λ ks next. found (total ks) next)
  pub ends : (ks : List KernelLine) (next : ℕ) → kernels_at L b at ≡ found ks next
      → IfOk r (λ s. s.0.ends ≡ ends_from 0 ks ++ replicate (64 - length ks) 0)
  pub history : (ks : List KernelLine) (next : ℕ) → kernels_at L b at ≡ found ks next → total ks ≤ D / 2 → h' ≡ over (file_history ks) h
  pub rest : drop (D / 2) h' ≡ drop (D / 2) h
