-- "Any accepted list of operations is accepted in any other order and in any cut into levels, and every surviving dart ends with the same successor.", as
-- calls on lent slices.
--   kernels ks           == the calls of reduce by the kernels ks
--   Rises c              == the call c is a kernel or a sweep: it undoes nothing
--   operations_by cs a    == the operations of the calls cs from a on: a kernel's edges, each of its kind; the edges that a sweep takes at its turn, each a
--                           removal
--   operations_in a       == the operations that the history which a leaves tells, first to last
--   calls_told           == of calls that undo nothing it tells theirs, after those that it told before
--   based_told           == and from a base on, theirs alone
--   past_in a             == the history that a leaves, the last operation first
--   EndsAs D u past cs x == the calls cs from x on are accepted, and they end as the table u and its past: the same darts survive, with the same successors,
--                           by as many operations, and the state stores their numbers of vertices and faces
--   EndsAlike D a cs x   == and so they end as a does
--   list_by_calls        == kernels that hold the operations of an accepted list, in any order, end as the list does, whatever leaves the base
--   over_by_calls        == and those that the history of a pyramid tells
--   history_by_calls     == so of whatever accepted calls, undo and unfold too
--   any_order_of_calls   == and so of accepted kernels and sweeps, by their own operations
--   again_by_calls       == a pyramid unfolded to level 0, and its operations done again in any order
--   both_by_calls        == accepted calls of every kind whose histories tell the same operations, in any order, end alike
--   any_order_by_calls   == of kernels, from start to start
use mathlib.Core.List.{List, [], ◌∷◌, ◌++◌, map, reverse, reverse-reverse, append-nil, append_assoc, Permᴰ}
use mathlib.Core.Path.{◌≡◌, refl, sym, ap, ◌∙◌, subst, subst₂}
use Prim.Native.Nat.{ℕ, ◌≤◌, ◌<◌}
use lib.Dec.{T}
use lib.ListN.{length, take}
use Rattle.darts.specs.Map.{successor, survives}
use Rattle.darts.specs.Operation.{removal}
use Rattle.darts.specs.Kernel.{Operation, each, stands}
use Rattle.darts.specs.State.{State, base_state, Result, gives}
use Rattle.darts.specs.Counts.{Counts, counts_of}
use Rattle.darts.specs.Pyramid.{Kernel, build}
use Rattle.darts.specs.Calls.{After, table_of, past_of, start}
use Rattle.darts.specs.OneByOne.{one_by_one, operation_of, operations_of, NoneEmpty}
use Rattle.darts.proofs.Fitting.{Lengths}
use Rattle.laws.proofs.Lists.{Each}
use Rattle.laws.proofs.runs.Operations.{told_history}
use Rattle.laws.proofs.runs.Results.{then, same_result}
use Rattle.laws.proofs.runs.Reduces.{reduce_told}
use Rattle.laws.proofs.runs.Sweeps.{loops, sweep_told}
use Rattle.laws.proofs.runs.Pyramids.{pyramid_built}
use Rattle.laws.proofs.claims.AnyOrder.{Alike, Agrees, other_order, any_order, pyramid_listed}
use Rattle.laws.proofs.chained.OnLent.{Call, by_kernel, by_sweep, by_undo, to_level, call_on, step_of, called_accepts, called_left}
use Rattle.laws.proofs.chained.Begins.{entry_front, start_left, start_accepts}
use Rattle.laws.proofs.chained.Based.{LentOn, Based, Over, base_count, base_size, base_permutation, start_based, lent_over, based_over, over_base, unfold_based}
use Rattle.laws.proofs.chained.Chains.{calls, AllDone, first_done, over_calls}

abbrev pub kernels : List Kernel → List Call
kernels = map by_kernel

-- ---- the operations of calls

pub data Rises : Call → Type 0 where
  kernel : {k : Kernel} → Rises (by_kernel k)
  sweeping : Rises by_sweep

abbrev pub operations_on : Call → After → List Operation
operations_on (by_kernel k) a = each k.kind k.edges
operations_on by_sweep a = each removal (loops a.state (table_of a.state a.table) (past_of a.state a.history))
operations_on by_undo a = []
operations_on (to_level k) a = []

abbrev pub operations_by : List Call → After → List Operation
operations_by [] a = []
operations_by (c ∷ cs) a = operations_on c a ++ operations_by cs (call_on c a)

abbrev pub operations_in : After → List Operation
operations_in a = map operation_of (take a.state.operations a.history)

abbrev pub past_in : After → List ℕ
past_in a = reverse (take a.state.operations a.history)

told_past : (a : After) → map operation_of (reverse (past_of a.state a.history)) ≡ operations_in a
unfolding past_of
told_past a = ap (map operation_of) (reverse-reverse (take a.state.operations a.history))

call_told : (c : Call) → Rises c → (a : After) → (call_on c a).answer.number ≡ 0 → operations_in (call_on c a) ≡ operations_in a ++ operations_on c a
call_told (by_kernel k) kernel a e =
    let A = called_left (by_kernel k) a.state a.table a.history a.work e in
    rw (← told_past (call_on (by_kernel k) a), ← told_past a) (reduce_told a.state _ _ k.kind k.edges A.gave)
call_told by_sweep sweeping a e =
    let A = called_left by_sweep a.state a.table a.history a.work e in
    rw (← told_past (call_on by_sweep a), ← told_past a) (told_history (sweep_told a.state _ _ A.gave))
call_told by_undo rise a e = elim rise [ ]
call_told (to_level _) rise a e = elim rise [ ]

-- THE HISTORY THAT CALLS LEAVE TELLS THEIR OPERATIONS, IN ORDER, AFTER THOSE THAT IT TOLD BEFORE
pub calls_told : (cs : List Call) → Each Rises cs → (a : After) → AllDone cs a → operations_in (calls cs a) ≡ operations_in a ++ operations_by cs a
calls_told [] rise a d = sym (append-nil (operations_in a))
calls_told (c ∷ cs) rise a d =
    let b = call_on c a in
    calls_told cs rise.1 b d.1 ∙ ap (λ l. l ++ operations_by cs b) (call_told c rise.0 a (first_done cs b d.1))
    ∙ append_assoc (operations_in a) (operations_on c a) (operations_by cs b)

-- from a base on, it tells their operations and no others
pub based_told : {D : ℕ} {b : List ℕ} {a : After} → Based D b a → (cs : List Call) → Each Rises cs → AllDone cs a
    → operations_in (calls cs a) ≡ operations_by cs a
based_told {a = a} A cs rise d =
    calls_told cs rise a d ∙ ap (λ s. map operation_of (take s.operations a.history) ++ operations_by cs a) A.state

pub kernels_rise : (ks : List Kernel) → Each Rises (kernels ks)
kernels_rise [] = tt
kernels_rise (k ∷ ks) = (kernel, kernels_rise ks)

pub kernels_told : (ks : List Kernel) (a : After) → operations_by (kernels ks) a ≡ operations_of ks
kernels_told [] a = refl
kernels_told (k ∷ ks) a = ap (λ l. each k.kind k.edges ++ l) (kernels_told ks (call_on (by_kernel k) a))

same_run : (P : List ℕ → List ℕ → Type 0) {t past u new : List ℕ} → stands t past ≡ stands u new → P t past → P u new
same_run P {t} {past} {u} {new} e h =
    let table : t ≡ u = cc in
    let history : past ≡ new = cc in
    subst₂ P table history h

-- ---- how calls end

pub record EndsAs (D : ℕ) (u past : List ℕ) (cs : List Call) (x : After) : Type 0 where
  pub accepted : AllDone cs x
  -- the same darts survive
  pub survivors : (d : ℕ) → d < D → survives (past_in (calls cs x)) d ≡ survives past d
  -- "every surviving dart ends with the same successor", in the lent table
  pub successors : (d : ℕ) → d < D → T (survives past d) → successor (calls cs x).table d ≡ successor u d
  pub operations : (calls cs x).state.operations ≡ length past
  -- "Store both numbers in the state."
  pub vertices : (calls cs x).state.vertices ≡ (counts_of D u past).vertices
  pub faces : (calls cs x).state.faces ≡ (counts_of D u past).faces

pub record EndsAlike (D : ℕ) (a : After) (cs : List Call) (x : After) : Type 0 where
  pub accepted : AllDone cs x
  pub survivors : (d : ℕ) → d < D → survives (past_in (calls cs x)) d ≡ survives (past_in a) d
  pub successors : (d : ℕ) → d < D → T (survives (past_in a) d) → successor (calls cs x).table d ≡ successor a.table d
  pub operations : (calls cs x).state.operations ≡ a.state.operations
  pub vertices : (calls cs x).state.vertices ≡ a.state.vertices
  pub faces : (calls cs x).state.faces ≡ a.state.faces

-- what a pyramid stores, by its table and past
record Holds (D : ℕ) (u past : List ℕ) (a : After) : Type 0 where
  successors : (d : ℕ) → d < D → successor u d ≡ successor a.table d
  operations : a.state.operations ≡ length past
  vertices : a.state.vertices ≡ (counts_of D u past).vertices
  faces : a.state.faces ≡ (counts_of D u past).faces

over_holds : {D : ℕ} {b : List ℕ} {a : After} → Over D b a → Holds D (table_of a.state a.table) (past_of a.state a.history) a
unfolding table_of
over_holds {D} {b} {a} O =
    let B = pyramid_built O.lent.pyramid in
    record {
      successors = λ d dart. rw O.darts (entry_front D a.table d dart);
      operations = B.layered.count;
      vertices = rw (← O.darts) B.stored.vertices;
      faces = rw (← O.darts) B.stored.faces;
    }

-- calls that are accepted, with a table and past like u and its past at their end
alike_ends : {D : ℕ} {b : List ℕ} (cs : List Call) {x : After} {u past : List ℕ} → AllDone cs x → Over D b (calls cs x)
    → Alike D u past (table_of (calls cs x).state (calls cs x).table) (past_of (calls cs x).state (calls cs x).history) → EndsAs D u past cs x
unfolding past_of
alike_ends cs done O A =
    let H = over_holds O in
    record {
      accepted = done;
      survivors = A.survivors;
      successors = λ d dart lives. sym (H.successors d dart) ∙ A.successors d dart lives;
      operations = H.operations ∙ A.operations;
      vertices = H.vertices ∙ ap (λ (c : Counts). c.vertices) A.counts;
      faces = H.faces ∙ ap (λ (c : Counts). c.faces) A.counts;
    }

ends_alike : {D : ℕ} {b : List ℕ} {a : After} → Over D b a → (cs : List Call) {x : After}
    → EndsAs D (table_of a.state a.table) (past_of a.state a.history) cs x → EndsAlike D a cs x
unfolding past_of
ends_alike O cs E =
    let H = over_holds O in
    record {
      accepted = E.accepted;
      survivors = E.survivors;
      successors = λ d dart lives. E.successors d dart lives ∙ H.successors d dart;
      operations = E.operations ∙ sym H.operations;
      vertices = E.vertices ∙ sym H.vertices;
      faces = E.faces ∙ sym H.faces;
    }

-- ---- calls of reduce build what the kernels build

abbrev build_on : After → List Kernel → Result
build_on a = build a.state (table_of a.state a.table) (past_of a.state a.history)

calls_build : (ks : List Kernel) (a : After) → LentOn a → AllDone (kernels ks) a
    → build_on a ks ≡ gives (calls (kernels ks) a).state (table_of (calls (kernels ks) a).state (calls (kernels ks) a).table)
    (past_of (calls (kernels ks) a).state (calls (kernels ks) a).history)
unfolding build
calls_build [] a L d = refl
calls_build (k ∷ ks) a L d =
    let b = call_on (by_kernel k) a in
    let A = called_left (by_kernel k) a.state a.table a.history a.work (first_done (kernels ks) b d.1) in
    rw A.gave (calls_build ks b A.left.lent d.1)

build_calls : (ks : List Kernel) (a : After) → LentOn a → a.answer.number ≡ 0 → {z : State} {u new : List ℕ} → build_on a ks ≡ gives z u new
    → AllDone (kernels ks) a
unfolding build
build_calls [] a L d e = d
build_calls (k ∷ ks) a L d e =
    let first = then (step_of (by_kernel k) a.state (table_of a.state a.table) (past_of a.state a.history)) (λ s t past. build s t past ks) e in
    let zero = called_accepts (by_kernel k) a.state a.table a.history a.work L first.first in
    let A = called_left (by_kernel k) a.state a.table a.history a.work zero in
    (d, build_calls ks (call_on (by_kernel k) a) A.left.lent zero (rw A.gave at e))

-- where what the kernels build from a base agrees with u and its past, their calls end so
module _ {D : ℕ} {b : List ℕ} {y : After} (B : Based D b y) (ls : List Kernel) where
  base_build : build (base_state D b) b [] ls ≡ build_on y ls
  unfolding table_of past_of
  base_build = rw (B.state, B.table)

  agrees_ends : {u past : List ℕ} → Agrees D u past (build (base_state D b) b [] ls) → EndsAs D u past (kernels ls) y
  agrees_ends {u} {past} G =
      let done = build_calls ls y B.lent B.answer (sym base_build ∙ G.accepted) in
      alike_ends (kernels ls) done (over_calls (based_over B) (kernels ls) done)
      (same_result (λ z t new. Alike D u past t new) (sym G.accepted ∙ base_build ∙ calls_build ls y B.lent done) G.alike)

-- ---- any order, any cut

-- the operations that the history of a pyramid tells are an accepted list on its base
history_listed : {D : ℕ} {b : List ℕ} {a : After} → Over D b a
    → one_by_one D b [] (operations_in a) ≡ stands (table_of a.state a.table) (past_of a.state a.history)
history_listed {a = a} O =
    subst₂ (λ n l. one_by_one n l [] (operations_in a) ≡ stands (table_of a.state a.table) (past_of a.state a.history)) O.darts (over_base O)
    (rw (told_past a) at (pyramid_listed O.lent.pyramid))

-- y leaves the base b, in whatever slices, and of the kernels ls none is empty, and they are 64 at most
module _ {D : ℕ} {b : List ℕ} {y : After} (B : Based D b y) (ls : List Kernel) (some : NoneEmpty ls) (few : length ls ≤ 64) where
  -- THE KERNELS HOLD THE OPERATIONS OF AN ACCEPTED LIST, kinds mixed as they come
  pub list_by_calls : (os : List Operation) {u past : List ℕ} → one_by_one D b [] os ≡ stands u past → Permᴰ os (operations_of ls)
      → EndsAs D u past (kernels ls) y
  list_by_calls os e rearranged = agrees_ends B ls (any_order D b (base_count B) (base_size B) (base_permutation B) os e ls rearranged some few)

  -- THE KERNELS HOLD THE OPERATIONS THAT A PYRAMID'S HISTORY TELLS
  pub over_by_calls : {a : After} → Over D b a → Permᴰ (operations_in a) (operations_of ls) → EndsAlike D a (kernels ls) y
  over_by_calls {a} O rearranged = ends_alike O (kernels ls) (list_by_calls (operations_in a) (history_listed O) rearranged)

  module _ {a : After} (A : Based D b a) (cs : List Call) (done : AllDone cs a) where
    -- WHATEVER ACCEPTED CALLS, UNDO AND UNFOLD TOO: the kernels hold what the history that they leave tells
    pub history_by_calls : Permᴰ (operations_in (calls cs a)) (operations_of ls) → EndsAlike D (calls cs a) (kernels ls) y
    history_by_calls = over_by_calls (over_calls (based_over A) cs done)

    -- ANY ORDER, ANY CUT INTO LEVELS: the kernels hold the operations of accepted kernels and sweeps
    pub any_order_of_calls : Each Rises cs → Permᴰ (operations_by cs a) (operations_of ls) → EndsAlike D (calls cs a) (kernels ls) y
    any_order_of_calls rise rearranged = history_by_calls (rw (based_told A cs rise done) rearranged)

-- A PYRAMID LENT WITH ROOM, whatever left it, such as a read of a file with levels: unfolded to level 0, and its operations done again in any order and cut
pub again_by_calls : (a : After) → LentOn a → (ls : List Kernel) → NoneEmpty ls → length ls ≤ 64 → Permᴰ (operations_in a) (operations_of ls)
    → EndsAlike a.state.darts a (kernels ls) (call_on (to_level 0) a)
again_by_calls a L ls some few = over_by_calls (unfold_based (lent_over a L)) ls some few (lent_over a L)

-- WHATEVER ACCEPTED CALLS ON BOTH SIDES, sweeps and undos too: where their histories tell the same operations, in some order, they end alike
pub both_by_calls : {D : ℕ} {b : List ℕ} {a y : After} → Based D b a → Based D b y → (cs ds : List Call) → AllDone cs a → AllDone ds y
    → Permᴰ (operations_in (calls cs a)) (operations_in (calls ds y)) → EndsAlike D (calls cs a) ds y
both_by_calls {D} {b} {a} {y} A B cs ds first second rearranged =
    let O = over_calls (based_over A) cs first in
    let Z = over_calls (based_over B) ds second in
    let G = other_order D b (base_count B) (base_size B) (base_permutation B) (operations_in (calls cs a)) (history_listed O)
    (operations_in (calls ds y)) rearranged in
    ends_alike O ds (alike_ends ds second Z (same_run (Alike D _ _) (sym G.accepted ∙ history_listed Z) G.alike))

-- THE SAME OF KERNELS ALONE, FROM START TO START
pub any_order_by_calls : (D : ℕ) (t h w : List ℕ) (ks ls : List Kernel) → AllDone (kernels ks) (start D t h w)
    → Permᴰ (operations_of ks) (operations_of ls) → NoneEmpty ls → length ls ≤ 64
    → (t' h' w' : List ℕ) → take D t' ≡ take D t → Lengths D (length t') (length h') (length w')
    → EndsAlike D (calls (kernels ks) (start D t h w)) (kernels ls) (start D t' h' w')
any_order_by_calls D t h w ks ls done rearranged some few t' h' w' same room =
    let x = start D t h w in
    let begun = first_done (kernels ks) x done in
    let S = start_left D t h w begun in
    let zero = start_accepts D t' h' w' S.count room (rw same S.permutation) in
    any_order_of_calls (subst (λ b. Based D b (start D t' h' w')) same (start_based D t' h' w' zero)) ls some few
    (start_based D t h w begun) (kernels ks) done (kernels_rise ks) (rw (kernels_told ks x) rearranged)
