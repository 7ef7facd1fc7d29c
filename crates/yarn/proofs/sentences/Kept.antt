-- The second sheet: "places past the count" are written by "a new contraction" alone.
--   undo_kept, unfold_kept == undo writes no kept record
--   reduce_kept            == a kernel leaves the records that earlier operations kept
use mathlib.Core.List.{List, ◌++◌, reverse}
use mathlib.Core.Path.{◌≡◌, refl, ap, ◌∙◌, subst, sym}
use Prim.Native.Nat.{ℕ, ◌<◌}
use native.Mathlib.Omega.{arith}
use lib.ListN.{length}
use Rattle.darts.specs.Operation.{Kind}
use Rattle.darts.specs.State.{State, Result, gives, refuses, reduce}
use Rattle.darts.specs.Levels.{undo_level, unfold_to}
use Rattle.darts.specs.Calls.{table_of, past_of}
use Rattle.laws.proofs.sentences.Steps.{Lessens, reduce_adds, undo_lessens, unfold_lessens}
use Rattle.sheets.specs.Records.{at}
use Rattle.sheets.specs.Sheets.{Sheets}
use Rattle.yarn.specs.Places.{merges}
use Rattle.yarn.specs.Calls.{base_of, carried_to, sheets_after, on_sheets, reduce_with, undo_with, unfold_with}
use Rattle.yarn.proofs.Returns.{returned_kept, merged_kept}
use Rattle.yarn.proofs.sentences.Judging.{outcome, outcome_gives}
use Rattle.yarn.proofs.sentences.Carried.{carried_more, carried_fewer}

module _ (s : State) (t h w : List ℕ) (S : Sheets) where
  fewer_kept : (b past new taken : List ℕ) → past ≡ taken ++ new → (carried_to s.darts b past new S).kept ≡ S.kept
  fewer_kept b past new taken e =
      subst (λ p. (carried_to s.darts b p new S).kept ≡ S.kept) (sym e)
      (ap (λ (Z : Sheets). Z.kept) (carried_fewer s.darts b new taken S) ∙ returned_kept (merges s.darts b (reverse (taken ++ new))) (length (taken ++ new)) (length taken) S)

  more_kept : (b past new added : List ℕ) → new ≡ added ++ past → (i : ℕ) → i < length past → at (carried_to s.darts b past new S).kept i ≡ at S.kept i
  more_kept b past new added e i l =
      subst (λ n. at (carried_to s.darts b past n S).kept i ≡ at S.kept i) (sym e)
      (ap (λ (Z : Sheets). at Z.kept i) (carried_more s.darts b past added S) ∙ merged_kept (merges s.darts b (reverse (added ++ past))) (length past) (length added) S i (λ m _. absurd (omega arith)))

  -- UNDO WRITES NO KEPT RECORD
  lessened_kept : (step : State → List ℕ → List ℕ → Result) → Lessens step → (on_sheets step s t h w S).sheets.kept ≡ S.kept
  unfolding on_sheets sheets_after
  lessened_kept step L = go (outcome s t h w S step) refl
    where
      go : (r : Result) → outcome s t h w S step ≡ r → (sheets_after s (table_of s t) (past_of s h) S r).kept ≡ S.kept
      go (refuses a) e = refl
      go (gives z u new) e =
          let (C, f) = outcome_gives s t h w S step e in
          let O = L.onto C.lent.pyramid f in
          fewer_kept (base_of s (table_of s t) (past_of s h)) (past_of s h) new O.more O.history

  pub undo_kept : (undo_with s t h w S).sheets.kept ≡ S.kept
  unfolding undo_with
  undo_kept = lessened_kept undo_level undo_lessens

  pub unfold_kept : (k : ℕ) → (unfold_with k s t h w S).sheets.kept ≡ S.kept
  unfolding unfold_with
  unfold_kept k = lessened_kept (unfold_to k) (unfold_lessens k)

  -- A KERNEL LEAVES WHAT EARLIER OPERATIONS KEPT
  pub reduce_kept : (k : Kind) (es : List ℕ) (i : ℕ) → i < length (past_of s h) → at (reduce_with k es s t h w S).sheets.kept i ≡ at S.kept i
  unfolding reduce_with on_sheets sheets_after
  reduce_kept k es i l = go (outcome s t h w S (reduce k es)) refl
    where
      go : (r : Result) → outcome s t h w S (reduce k es) ≡ r → at (sheets_after s (table_of s t) (past_of s h) S r).kept i ≡ at S.kept i
      go (refuses a) e = refl
      go (gives z u new) e =
          let (C, f) = outcome_gives s t h w S (reduce k es) e in
          let O = (reduce_adds k es).onto C.lent.pyramid f in
          more_kept (base_of s (table_of s t) (past_of s h)) (past_of s h) new O.more O.history i l
