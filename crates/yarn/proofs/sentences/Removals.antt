-- A removal merges nothing: the sweep and a kernel of removals leave both sheets as they were.
--   removing_sheets, sweep_sheets == so it is, accepted or refused
use mathlib.Core.Bool.{Bool, true, false}
use mathlib.Core.List.{List, [], ◌∷◌, map, cons≢nil}
use mathlib.Core.Path.{◌≡◌, refl}
use Prim.Native.Nat.{ℕ}
use lib.Dec.{eqb}
use Rattle.std.proofs.Common.{if◌then◌else◌}
use Rattle.darts.specs.Operation.{Kind, removal, kind_of}
use Rattle.darts.specs.Kernel.{each}
use Rattle.darts.specs.State.{State, Result, gives, refuses, reduce}
use Rattle.darts.specs.Levels.{sweep}
use Rattle.darts.specs.Calls.{table_of, past_of}
use Rattle.laws.proofs.runs.Operations.{Told, told_kinds}
use Rattle.laws.proofs.runs.Reduces.{reduce_tells}
use Rattle.laws.proofs.runs.Sweeps.{loops, sweep_told}
use Rattle.sheets.specs.Sheets.{Sheets}
use Rattle.yarn.specs.Calls.{judged, base_of, carried_to, sheets_after, on_sheets, reduce_with, sweep_with}
use Rattle.yarn.proofs.sentences.Carried.{Removals, carried_removed}

heads : {k l : Kind} {ks ls : List Kind} → k ∷ ks ≡ l ∷ ls → (k ≡ l) × (ks ≡ ls)
heads e = (cc, cc)

kinds_removed : (numbers es : List ℕ) → map kind_of numbers ≡ map (λ (e : ℕ). removal) es → Removals numbers
kinds_removed [] es e = tt
kinds_removed (h ∷ hs) [] e = absurd (cons≢nil e)
kinds_removed (h ∷ hs) (x ∷ es) e = let (first, rest) = heads e in (first, kinds_removed hs es rest)

module _ (s : State) (S : Sheets) (es : List ℕ) (t past : List ℕ) where
  told_removed : {new : List ℕ} → Told past (each removal es) new → carried_to s.darts (base_of s t past) past new S ≡ S
  told_removed R =
      rw R.history (carried_removed s.darts (base_of s t past) past R.numbers S (kinds_removed R.numbers es (told_kinds removal es R.numbers R.told)))

  removed_after : (r : Result) → ((z : State) (u new : List ℕ) → r ≡ gives z u new → Told past (each removal es) new) → sheets_after s t past S r ≡ S
  unfolding sheets_after
  removed_after (gives z u new) told = told_removed (told z u new refl)
  removed_after (refuses a) told = refl

module _ (s : State) (t h w : List ℕ) (S : Sheets) where
  -- A STEP WHOSE OPERATIONS ARE REMOVALS CHANGES NEITHER SHEET
  step_sheets : (step : State → List ℕ → List ℕ → Result) (es : List ℕ)
      → ((z : State) (u new : List ℕ) → step s (table_of s t) (past_of s h) ≡ gives z u new → Told (past_of s h) (each removal es) new)
      → (on_sheets step s t h w S).sheets ≡ S
  unfolding on_sheets sheets_after
  step_sheets step es told = go (eqb (judged s t h w S).number 0)
    where
      go : (b : Bool) → sheets_after s (table_of s t) (past_of s h) S (if b then step s (table_of s t) (past_of s h) else refuses (judged s t h w S)) ≡ S
      go true = removed_after s S es (table_of s t) (past_of s h) _ told
      go false = refl

  pub removing_sheets : (es : List ℕ) → (reduce_with removal es s t h w S).sheets ≡ S
  unfolding reduce_with
  removing_sheets es = step_sheets (reduce removal es) es (λ z u new. reduce_tells s (table_of s t) (past_of s h) removal es)

  pub sweep_sheets : (sweep_with s t h w S).sheets ≡ S
  unfolding sweep_with
  sweep_sheets = step_sheets sweep (loops s (table_of s t) (past_of s h)) (λ z u new. sweep_told s (table_of s t) (past_of s h))
