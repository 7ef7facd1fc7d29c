-- "then 12, 6, 5, then the kernel's first failing edge": the answers of a call on a pyramid that is lent with room, and with its sheets.
--   reduce_six, reduce_five, reduce_fails, reduce_zero == reduce, each answer where no earlier one is given
--   sweep_six, sweep_five, sweep_answers               == sweep: "A sweep that takes no edge is an empty kernel (answer 5)."
--   undo_twelve, undo_zero, unfold_twelve, unfold_zero == undo and unfold
use mathlib.Core.List.{List, [], ◌∷◌, ◌++◌}
use mathlib.Core.Logic.{◌≢◌, ◌⊎◌}
use mathlib.Core.Path.{◌≡◌}
use Prim.Native.Nat.{ℕ, ◌/◌, ◌<◌, ◌≤◌}
use lib.ListN.{length}
use Rattle.darts.specs.Operation.{Kind}
use Rattle.darts.specs.Kernel.{judge, stands, run}
use Rattle.darts.specs.State.{State}
use Rattle.darts.specs.Calls.{table_of, past_of}
use Rattle.laws.proofs.sentences.Order.{Answers}
use Rattle.laws.proofs.sentences.Edges.{Taken}
use Rattle.laws.proofs.sentences.Kernels as Kernels
use Rattle.laws.proofs.sentences.Sweep as Sweep
use Rattle.laws.proofs.sentences.Tops as Tops
use Rattle.sheets.specs.Sheets.{Sheets}
use Rattle.yarn.specs.Calls.{reduce_with, sweep_with, undo_with, unfold_with}
use Rattle.yarn.proofs.sentences.Judging.{Costed}
use Rattle.yarn.proofs.sentences.Plain.{reduce_plain, sweep_plain, undo_plain, unfold_plain}

module _ (s : State) (t h w : List ℕ) (S : Sheets) (C : Costed s t h w S) where
  -- 6, "64 levels are in use", whatever the kernel
  pub reduce_six : (k : Kind) (es : List ℕ) → 64 ≤ s.levels → Answers (reduce_with k es s t h w S).plain.answer 6 0
  reduce_six k es b = rw (reduce_plain s t h w S C.room (λ _. C.right) k es) (Kernels.reduce_six s t h w C.lent k es b)

  pub sweep_six : 64 ≤ s.levels → Answers (sweep_with s t h w S).plain.answer 6 0
  sweep_six b = rw (sweep_plain s t h w S C.room (λ _. C.right)) (Sweep.sweep_six s t h w C.lent b)

  module _ (room : s.levels < 64) where
    -- 5, "the kernel is empty"
    pub reduce_five : (k : Kind) → Answers (reduce_with k [] s t h w S).plain.answer 5 0
    reduce_five k = rw (reduce_plain s t h w S C.room (λ _. C.right) k []) (Kernels.reduce_five s t h w C.lent room k)

    -- "then the kernel's first failing edge": its answer, and "place in the kernel, from 0", whatever stands after it
    pub reduce_fails : (k : Kind) (fine : List ℕ) (e : ℕ) (rest : List ℕ) {u new : List ℕ} {n : ℕ}
        → run k s.darts (table_of s t) (past_of s h) fine ≡ stands u new → judge k s.darts u new e ≡ n → n ≢ 0
        → Answers (reduce_with k (fine ++ (e ∷ rest)) s t h w S).plain.answer n (length fine)
    reduce_fails k fine e rest r j bad =
        rw (reduce_plain s t h w S C.room (λ _. C.right) k (fine ++ (e ∷ rest)))
        (Kernels.reduce_fails s t h w C.lent room k fine e rest r j bad)

    pub reduce_zero : (k : Kind) (es : List ℕ) {u new : List ℕ} → es ≢ [] → run k s.darts (table_of s t) (past_of s h) es ≡ stands u new
        → Answers (reduce_with k es s t h w S).plain.answer 0 0
    reduce_zero k es some r =
        rw (reduce_plain s t h w S C.room (λ _. C.right) k es) (Kernels.reduce_zero s t h w C.lent room k es some r)

    pub sweep_five : ((e : ℕ) → e < s.darts / 2 → ¬ (Taken (table_of s t) (past_of s h) e)) → Answers (sweep_with s t h w S).plain.answer 5 0
    sweep_five none = rw (sweep_plain s t h w S C.room (λ _. C.right)) (Sweep.sweep_five s t h w C.lent room none)

    pub sweep_answers : ((sweep_with s t h w S).plain.answer.number ≡ 0) ⊎ ((sweep_with s t h w S).plain.answer.number ≡ 5)
    sweep_answers = rw (sweep_plain s t h w S C.room (λ _. C.right)) (Sweep.sweep_answers s t h w C.lent room)

  -- 12, "undo at the base, or k above the top", place "the top level"
  pub undo_twelve : s.levels ≡ 0 → Answers (undo_with s t h w S).plain.answer 12 0
  undo_twelve b = rw (undo_plain s t h w S C.room (λ _. C.right)) (Tops.undo_twelve s t h w C.lent b)

  pub undo_zero : s.levels ≢ 0 → Answers (undo_with s t h w S).plain.answer 0 0
  undo_zero n = rw (undo_plain s t h w S C.room (λ _. C.right)) (Tops.undo_zero s t h w C.lent n)

  pub unfold_twelve : (k : ℕ) → s.levels < k → Answers (unfold_with k s t h w S).plain.answer 12 s.levels
  unfold_twelve k b = rw (unfold_plain s t h w S C.room (λ _. C.right) k) (Tops.unfold_twelve s t h w C.lent k b)

  pub unfold_zero : (k : ℕ) → k ≤ s.levels → Answers (unfold_with k s t h w S).plain.answer 0 0
  unfold_zero k b = rw (unfold_plain s t h w S C.room (λ _. C.right) k) (Tops.unfold_zero s t h w C.lent k b)
