-- What undo and unfold return, as calls (document 01, "Levels and calls").
--   Returned r s t h w b == b answers r and hands back the state s, the whole table t and the whole history h; of the work area w the first 4D numbers
--                           are zero now, and the others as they were
--   undoing a            == undo, on what a leaves
--   reduce_then_undo, sweep_then_undo == what undo returns after an accepted kernel, and after an accepted sweep
--   unfold_to_top        == unfold to the top changes nothing but the work area
--   unfold_above         == unfold above the top is refused with 12
use mathlib.Core.List.{List}
use mathlib.Core.Path.{◌≡◌, refl, sym, ap, ◌∙◌, subst}
use Prim.Native.Nat.{ℕ, ◌*◌, ◌<◌}
use lib.Dec.{ltb, lt→ltb}
use lib.ListN.{take, drop, replicate}
use Rattle.permutations.specs.Choice.{T→true}
use Rattle.darts.specs.Answers.{Answer, answered}
use Rattle.darts.specs.Operation.{Kind}
use Rattle.darts.specs.State.{State, gives}
use Rattle.darts.specs.Levels.{undo_level, unfold_to}
use Rattle.darts.specs.Pyramid.{Pyramid}
use Rattle.darts.specs.Calls.{After, table_of, past_of, work_after, hands_back, reduce_by, sweep_by, undo_by, unfold_by}
use Rattle.laws.proofs.calls.Judging.{Lent, on_lent}
use Rattle.laws.proofs.calls.Cleared.{cleared_zero, cleared_rest}
use Rattle.laws.proofs.runs.Undo.{undo_returns, sweep_undo_returns, unfold_top}
use Rattle.laws.proofs.chained.Steps.{Step}
use Rattle.laws.proofs.chained.OnLent.{Left, Accepted, Call, by_kernel, by_sweep, by_undo, to_level, called, step_of, called_accepts, called_left}
use Rattle.slices.proofs.Over.{same_slice}
use Rattle.laws.proofs.sentences.NotWritten.{undo_history, unfold_history}

pub record Returned (r : Answer) (s : State) (t h w : List ℕ) (b : After) : Type 0 where
  pub answer : b.answer ≡ r
  pub state : b.state ≡ s
  pub table : b.table ≡ t
  pub history : b.history ≡ h
  pub zeros : take (4 * s.darts) b.work ≡ replicate (4 * s.darts) 0
  pub work : drop (4 * s.darts) b.work ≡ drop (4 * s.darts) w

-- an accepted call whose step gives the state s and the D numbers of t, on slices that past D are as t, and past 4D as w
pub returned : {f : Step} {z : State} {u v x : List ℕ} {b : After} → Accepted f z u v x b → (s : State) (t w : List ℕ) {past : List ℕ}
    → f z (table_of z u) (past_of z v) ≡ gives s (table_of s t) past → z.darts ≡ s.darts
    → drop s.darts u ≡ drop s.darts t → b.history ≡ v → drop (4 * s.darts) x ≡ drop (4 * s.darts) w → Returned (answered 0 0) s t v w b
unfolding table_of
returned {f} {z} {u} {v} {x} {b} B s t w e darts table history work =
    let back : gives b.state (take b.state.darts b.table) (past_of b.state b.history) ≡ gives s (take s.darts t) _ = sym B.gave ∙ e in
    let state : b.state ≡ s = cc in
    let first : take b.state.darts b.table ≡ take s.darts t = cc in
    let L = subst (λ (D : ℕ). Left D u v x b) darts B.left in
    record {
      answer = L.answer;
      state = state;
      table = same_slice s.darts b.table t (ap (λ (D : ℕ). take D b.table) (sym L.darts) ∙ first) (L.table ∙ table);
      history = history;
      zeros = L.zeros;
      work = L.work ∙ work;
    }

-- ---- a call, and its undo

abbrev pub undoing : After → After
undoing a = undo_by a.state a.table a.history a.work

module _ (c : Call) (s : State) (t h w : List ℕ) where
  abbrev a : After
  a = called c s t h w

  then_undo : ((z : State) (u new : List ℕ) → Pyramid s (table_of s t) (past_of s h) → step_of c s (table_of s t) (past_of s h) ≡ gives z u new
      → undo_level z u new ≡ gives s (table_of s t) (past_of s h))
      → a.answer.number ≡ 0 → Returned (answered 0 0) s t a.history w (undoing a)
  then_undo back e =
      let A = called_left c s t h w e in
      let u = back _ _ _ A.before.pyramid A.gave in
      let B = called_left by_undo _ _ _ _ (called_accepts by_undo a.state a.table a.history a.work A.left.lent u) in
      returned B s t w u A.left.darts A.left.table (undo_history a.state a.table a.history a.work) A.left.work

module _ (s : State) (t h w : List ℕ) where
  -- "Calls on the state hand the state back, so that they can be chained: a kernel, then a sweep, then an undo." WHERE A KERNEL IS ACCEPTED, UNDO RETURNS
  -- THE STATE, EVERY NUMBER OF THE LENT TABLE, AND THE HISTORY AS THE KERNEL LEFT IT
  pub reduce_then_undo : (k : Kind) (es : List ℕ) → (reduce_by k es s t h w).answer.number ≡ 0
      → Returned (answered 0 0) s t (reduce_by k es s t h w).history w (undoing (reduce_by k es s t h w))
  reduce_then_undo k es = then_undo (by_kernel (record { kind = k; edges = es })) s t h w (λ z u new P. undo_returns P k es)

  pub sweep_then_undo : (sweep_by s t h w).answer.number ≡ 0 → Returned (answered 0 0) s t (sweep_by s t h w).history w (undoing (sweep_by s t h w))
  sweep_then_undo = then_undo by_sweep s t h w (λ z u new P. sweep_undo_returns P)

  -- ---- "unfold to level k (k at or below the top; .. the top itself changes nothing)"

  pub unfold_to_top : Lent s t h w → Returned (answered 0 0) s t h w (unfold_by s.levels s t h w)
  unfold_to_top L =
      let top = unfold_top s (table_of s t) (past_of s h) in
      let B = called_left (to_level s.levels) s t h w (called_accepts (to_level s.levels) s t h w L top) in
      returned B s t w top refl refl (unfold_history s t h w s.levels) refl

  -- "12: .. k above the top", place "the top level"
  pub unfold_above : Lent s t h w → (k : ℕ) → s.levels < k → Returned (answered 12 s.levels) s t h w (unfold_by k s t h w)
  unfolding unfold_by unfold_to hands_back work_after
  unfold_above L k above =
      rw (on_lent s t h w (unfold_to k) L, T→true (ltb s.levels k) (lt→ltb s.levels k above)) (record {
        answer = refl;
        state = refl;
        table = refl;
        history = refl;
        zeros = cleared_zero s.darts w;
        work = cleared_rest s.darts w;
      })
