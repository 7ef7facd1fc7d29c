-- "Store both numbers in the state. Every operation and every undo keeps them right, and a state whose numbers differ from the cycles is no pyramid."
-- (document 02, request Six), of the calls with sheets. Stores s t past == s stores the numbers of vertices and faces that counts_of takes from the cycles.
--   Wrong s t h     == the numbers that s stores are not those of the cycles
--   judged_decides  == a call is judged done exactly where the lengths fit, state, table and history are a pyramid with its numbers, and the sheets are given
--   state_wrong     == wrong numbers are answered 4, and change neither sheet, nor anything but the work area; instances for reduce, sweep, undo, unfold
--   StoresBy a      == the state that a leaves stores the numbers of the cycles that a leaves
--   called_stores   == so does that of every accepted call on a state; instances
--   start_stores    == and that of every accepted start
--   calls_store     == and that which any accepted calls after it leave
--   start_noughts   == a refused start hands back no vertices and no faces
use mathlib.Core.List.{List}
use mathlib.Core.Logic.{◌≢◌, ◌↔◌}
use mathlib.Core.Path.{◌≡◌, ap, ◌∙◌}
use Prim.Native.Nat.{ℕ}
use native.Mathlib.Omega.{arith}
use Rattle.darts.specs.Answers.{Answer, no_pyramid}
use Rattle.darts.specs.Operation.{Kind}
use Rattle.darts.specs.State.{State, counted, Result, reduce}
use Rattle.darts.specs.Levels.{sweep, undo_level, unfold_to}
use Rattle.darts.specs.Pyramid.{Pyramid}
use Rattle.darts.specs.Calls.{leaves, table_of, past_of, cleared, work_after, hands_back}
use Rattle.darts.proofs.Fitting.{count_facts}
use Rattle.laws.proofs.runs.Ends.{Stores}
use Rattle.laws.proofs.runs.Pyramids.{pyramid_built, pyramid_counted}
use Rattle.laws.proofs.chained.OnLent.{Call, by_kernel, by_sweep, by_undo, to_level}
use Rattle.sheets.specs.Sheets.{Sheets}
use Rattle.yarn.specs.Calls.{Costed, costed, judged, on_sheets, start_with, reduce_with, sweep_with, undo_with, unfold_with}
use Rattle.yarn.proofs.LentWith.{with_refused}
use Rattle.yarn.proofs.CalledWith.{called_with, LentBy, past_by, with_left}
use Rattle.yarn.proofs.ChainedWith.{calls_with, AllDone, above_calls}
use Rattle.yarn.proofs.StartWith.{start_begun, begun_lent, begun_above}
use Rattle.yarn.proofs.sentences.Lengths.{Fits}
use Rattle.yarn.proofs.sentences.Judging.{Right, judged_other, judged_costed, judged_done}
use Rattle.yarn.proofs.sentences.Start.{start_refused}

-- ---- "Refusals: 4 now covers that; the order is unchanged."

-- "a state whose numbers differ from the cycles"
abbrev pub Wrong : State → List ℕ → List ℕ → Type 0
Wrong s t h = ¬ (Stores s (table_of s t) (past_of s h))

module _ (s : State) (t h w : List ℕ) (S : Sheets) where
  -- figures that make a pyramid, with the numbers of its cycles
  abbrev Numbered : Type 0
  Numbered = Pyramid (counted s (table_of s t) (past_of s h)) (table_of s t) (past_of s h) × Stores s (table_of s t) (past_of s h)

  pub judged_decides : ((judged s t h w S).number ≡ 0) ↔ (Fits s.darts t h w S × (Numbered × Right s t h S))
  judged_decides = (
    λ e.
        let C = judged_done s t h w S e in
        let P = C.lent.pyramid in
        (record { count = count_facts s.darts P.count; lengths = C.lent.lengths; room = C.room }, (pyramid_counted.0 P, C.right)),
    λ (F, (N, g)).
        ap (λ (a : Answer). a.number)
        (judged_costed s t h w S (record { lent = record { pyramid = pyramid_counted.1 N; lengths = F.lengths }; room = F.room; right = g })),
  )

  module _ (F : Fits s.darts t h w S) (wrong : Wrong s t h) where
    abbrev refused : Costed
    refused = costed (leaves no_pyramid s t h (cleared s.darts w)) S

    judged_wrong : judged s t h w S ≡ no_pyramid
    judged_wrong = judged_other s t h w S F (λ P. wrong (pyramid_built P).stored)

    -- WRONG NUMBERS ARE ANSWERED 4: the state is handed back as it was given, and table, history and both sheets stay
    pub state_wrong : (step : State → List ℕ → List ℕ → Result) → on_sheets step s t h w S ≡ refused
    unfolding hands_back work_after
    state_wrong step =
        let some : (judged s t h w S).number ≢ 0 = rw judged_wrong (λ z. omega arith) in
        with_refused s t h w S step some ∙ rw judged_wrong

    pub reduce_wrong : (k : Kind) (es : List ℕ) → reduce_with k es s t h w S ≡ refused
    unfolding reduce_with
    reduce_wrong k es = state_wrong (reduce k es)

    pub sweep_wrong : sweep_with s t h w S ≡ refused
    unfolding sweep_with
    sweep_wrong = state_wrong sweep

    pub undo_wrong : undo_with s t h w S ≡ refused
    unfolding undo_with
    undo_wrong = state_wrong undo_level

    pub unfold_wrong : (k : ℕ) → unfold_with k s t h w S ≡ refused
    unfolding unfold_with
    unfold_wrong k = state_wrong (unfold_to k)

-- ---- "Every operation and every undo keeps them right"

abbrev pub StoresBy : Costed → Type 0
StoresBy a = Stores a.plain.state (table_of a.plain.state a.plain.table) (past_by a)

lent_stores : (a : Costed) → LentBy a → StoresBy a
lent_stores a L = (pyramid_built L.lent.pyramid).stored

module _ (s : State) (t h w : List ℕ) (S : Sheets) where
  -- WHERE A CALL ANSWERS 0, THE STATE THAT IT HANDS BACK STORES THE NUMBERS OF THE CYCLES
  pub called_stores : (c : Call) → (called_with c s t h w S).plain.answer.number ≡ 0 → StoresBy (called_with c s t h w S)
  called_stores c e = lent_stores (called_with c s t h w S) (with_left c s t h w S e).lent

  pub reduce_stores : (k : Kind) (es : List ℕ) → (reduce_with k es s t h w S).plain.answer.number ≡ 0 → StoresBy (reduce_with k es s t h w S)
  reduce_stores k es = called_stores (by_kernel (record { kind = k; edges = es }))

  pub sweep_stores : (sweep_with s t h w S).plain.answer.number ≡ 0 → StoresBy (sweep_with s t h w S)
  sweep_stores = called_stores by_sweep

  pub undo_stores : (undo_with s t h w S).plain.answer.number ≡ 0 → StoresBy (undo_with s t h w S)
  undo_stores = called_stores by_undo

  pub unfold_stores : (k : ℕ) → (unfold_with k s t h w S).plain.answer.number ≡ 0 → StoresBy (unfold_with k s t h w S)
  unfold_stores k = called_stores (to_level k)

module _ (D : ℕ) (t h w : List ℕ) (S : Sheets) where
  pub start_stores : (start_with D t h w S).plain.answer.number ≡ 0 → StoresBy (start_with D t h w S)
  start_stores e = lent_stores (start_with D t h w S) (begun_lent (start_begun D t h w S e))

  pub calls_store : (cs : List Call) → (start_with D t h w S).plain.answer.number ≡ 0 → AllDone cs (start_with D t h w S)
      → StoresBy (calls_with cs (start_with D t h w S))
  calls_store cs e d =
      let G = start_begun D t h w S e in
      lent_stores (calls_with cs (start_with D t h w S))
      (above_calls (record { sheet = G.sheet; kept = G.kept }) cs (start_with D t h w S) (begun_above G) d).lent

  -- "A refused start .. hands back a state of zeros."
  pub start_noughts : (start_with D t h w S).plain.answer.number ≢ 0
      → ((start_with D t h w S).plain.state.vertices ≡ 0) × ((start_with D t h w S).plain.state.faces ≡ 0)
  start_noughts n = let zero = start_refused D t h w S n in (ap (λ (s : State). s.vertices) zero, ap (λ (s : State). s.faces) zero)
