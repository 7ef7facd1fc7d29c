-- "The sweep is a removal kernel" (document 01), with both sheets; and "drop the clause and its branch from the sweep" (document 02, request Seven).
--   sweep_kernel == the sweep is the removal kernel of the edges that its pass takes, whatever is lent: the same answer, state, slices and sheets
--   sweep_only   == it answers 0, 1, 2, 4, 5 or 6, whatever is lent
use mathlib.Core.List.{List}
use mathlib.Core.Logic.{◌≢◌}
use mathlib.Core.Path.{◌≡◌, sym, ap, ◌∙◌, subst}
use Prim.Native.Nat.{ℕ, ◌/◌}
use native.Mathlib.Omega.{arith}
use Rattle.darts.specs.Answers.{Answer}
use Rattle.darts.specs.Operation.{removal}
use Rattle.darts.specs.State.{State}
use Rattle.darts.specs.Levels.{sweep}
use Rattle.darts.specs.Calls.{table_of, past_of}
use Rattle.laws.proofs.chained.OnLent.{by_kernel, by_sweep}
use Rattle.laws.proofs.sentences.Sweep.{Passed, Sweeps}
use Rattle.laws.proofs.sentences.Sweep as Plain
use Rattle.sheets.specs.Sheets.{Sheets}
use Rattle.yarn.specs.Calls.{judged, reduce_with, sweep_with}
use Rattle.yarn.proofs.CalledWith.{plain_tells}
use Rattle.yarn.proofs.sentences.Judging.{Judging, uncounted, cramped, narrow, other, strange, lent, judging, on_judged}
use Rattle.yarn.proofs.sentences.Plain.{sweep_plain}

module _ (s : State) (t h w : List ℕ) (S : Sheets) where
  -- "The sweep is a removal kernel": of exactly the edges that the pass takes
  pub sweep_kernel : {es u new : List ℕ} → Passed s.darts (table_of s t) (past_of s h) (s.darts / 2) es u new
      → sweep_with s t h w S ≡ reduce_with removal es s t h w S
  sweep_kernel {es} P = plain_tells by_sweep (by_kernel (record { kind = removal; edges = es })) s t h w S (Plain.sweep_kernel s t h w P)

  -- "Refusals: 10 remains for kernels given by hand."
  pub sweep_only : Sweeps (sweep_with s t h w S).plain.answer.number
  unfolding sweep_with
  sweep_only = go (judging s t h w S)
    where
      as_judged : {n : ℕ} → (judged s t h w S).number ≡ n → n ≢ 0 → Sweeps n → Sweeps (sweep_with s t h w S).plain.answer.number
      as_judged j some few =
          subst Sweeps (sym (ap (λ (a : Answer). a.number) (on_judged s t h w S sweep (λ z. some (sym j ∙ z))) ∙ j)) few

      go : Judging s t h w S → Sweeps (sweep_with s t h w S).plain.answer.number
      go (uncounted _ a) = as_judged (ap (λ (a : Answer). a.number) a) (λ z. omega arith) (omega arith, λ z. omega arith)
      go (cramped _ _ a) = as_judged (ap (λ (a : Answer). a.number) a) (λ z. omega arith) (omega arith, λ z. omega arith)
      go (narrow _ _ a) = as_judged (ap (λ (a : Answer). a.number) a) (λ z. omega arith) (omega arith, λ z. omega arith)
      go (other _ _ a) = as_judged (ap (λ (a : Answer). a.number) a) (λ z. omega arith) (omega arith, λ z. omega arith)
      go (strange _ _ a) = as_judged (ap (λ (a : Answer). a.number) a) (λ z. omega arith) (omega arith, λ z. omega arith)
      go (lent C _) = rw (sweep_plain s t h w S C.room (λ _. C.right)) (Plain.sweep_only s t h w)
