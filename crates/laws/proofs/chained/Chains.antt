-- Calls one after another, each on what the last one left: "Calls on the state hand the state back, so that they can be chained".
--   calls cs a        == the calls cs, the first on what a leaves
--   AllDone cs a      == a answers 0, and so does each of the calls cs
--   over_calls        == accepted calls stay over their base
--   Above D t w a     == a leaves a pyramid of D darts, lent with room, over the base that the table t holds; past it the slices are as t and w
--   start_then_unfold == unfold to level 0 returns the table that was started from, whatever calls were accepted on the way
use mathlib.Core.List.{List, [], ◌∷◌}
use mathlib.Core.Path.{◌≡◌, ◌∙◌, subst}
use Prim.Native.Nat.{ℕ, ◌*◌}
use lib.ListN.{take, drop}
use Rattle.darts.specs.Answers.{answered}
use Rattle.darts.specs.State.{base_state}
use Rattle.darts.specs.Calls.{After, table_of, start}
use Rattle.laws.proofs.chained.OnLent.{Left, Call, to_level, call_on, called_accepts, called_left}
use Rattle.laws.proofs.chained.Begins.{start_left}
use Rattle.laws.proofs.chained.Based.{Over, start_based, based_over, over_call}
use Rattle.laws.proofs.sentences.NotWritten.{unfold_history}
use Rattle.laws.proofs.chained.Undo.{Returned, returned}

abbrev pub calls : List Call → After → After
calls [] a = a
calls (c ∷ cs) a = calls cs (call_on c a)

abbrev pub AllDone : List Call → After → Type 0
AllDone [] a = a.answer.number ≡ 0
AllDone (c ∷ cs) a = (a.answer.number ≡ 0) × AllDone cs (call_on c a)

pub first_done : (cs : List Call) (a : After) → AllDone cs a → a.answer.number ≡ 0
first_done [] a d = d
first_done (c ∷ cs) a d = d.0

-- ---- over one base

pub over_calls : {D : ℕ} {b : List ℕ} {a : After} → Over D b a → (cs : List Call) → AllDone cs a → Over D b (calls cs a)
over_calls O [] d = O
over_calls {a = a} O (c ∷ cs) d = over_calls {a = call_on c a} (over_call O c (first_done cs (call_on c a) d.1)) cs d.1

record Above (D : ℕ) (t w : List ℕ) (a : After) : Type 0 where
  over : Over D (take D t) a
  table : drop D a.table ≡ drop D t
  work : drop (4 * D) a.work ≡ drop (4 * D) w

above_start : (D : ℕ) (t h w : List ℕ) → (start D t h w).answer.number ≡ 0 → Above D t w (start D t h w)
above_start D t h w e =
    let L = (start_left D t h w e).left in
    record { over = based_over (start_based D t h w e); table = L.table; work = L.work }

above_call : {D : ℕ} {t w : List ℕ} {a : After} → Above D t w a → (c : Call) → (call_on c a).answer.number ≡ 0 → Above D t w (call_on c a)
above_call {D} {t} {w} {a} O c e =
    let A = called_left c a.state a.table a.history a.work e in
    let L = subst (λ (D : ℕ). Left D a.table a.history a.work (call_on c a)) O.over.darts A.left in
    record { over = over_call O.over c e; table = L.table ∙ O.table; work = L.work ∙ O.work }

above_calls : {D : ℕ} {t w : List ℕ} {a : After} → Above D t w a → (cs : List Call) → AllDone cs a → Above D t w (calls cs a)
above_calls O [] d = O
above_calls {a = a} O (c ∷ cs) d = above_calls {a = call_on c a} (above_call O c (first_done cs (call_on c a) d.1)) cs d.1

-- START, ANY ACCEPTED CALLS, UNFOLD TO LEVEL 0: THE WHOLE LENT TABLE IS AS IT WAS
pub start_then_unfold : (D : ℕ) (t h w : List ℕ) (cs : List Call) → AllDone cs (start D t h w)
    → Returned (answered 0 0) (base_state D (take D t)) t (calls cs (start D t h w)).history w (call_on (to_level 0) (calls cs (start D t h w)))
unfolding table_of
start_then_unfold D t h w cs d =
    let a = calls cs (start D t h w) in
    let A = above_calls (above_start D t h w (first_done cs (start D t h w) d)) cs d in
    let O = A.over in
    let B = called_left (to_level 0) _ _ _ _ (called_accepts (to_level 0) a.state a.table a.history a.work O.lent O.ground) in
    returned B (base_state D (take D t)) t w O.ground O.darts A.table (unfold_history a.state a.table a.history a.work 0) A.work
