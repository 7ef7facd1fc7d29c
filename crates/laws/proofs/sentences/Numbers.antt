-- "Stop recounting": the numbers of vertices and faces that a state stores, as a caller sees them (document 02, request Six), and the Euler number.
--   counts_on a       == counts, on what a leaves
--   Right a          == the numbers in the state that a leaves are those of the cycles of the table and history that it leaves, and `counts` answers these
--   start_right, called_right, read_right == so it is after every accepted start, call on a state, and read
--   reduce_takes, sweep_takes == what an accepted kernel and an accepted sweep take of them; undo gives them back, in the whole state (reduce_then_undo and
--                       sweep_then_undo, chained/Undo)
--   Differ s t past  == a number of s is not that of the cycles of this table and past
--   differ_pyramid   == then it is no pyramid
--   differ_called, differ_counts, differ_write == and with room every call on it answers 4 and changes nothing but the work area, which is cleared
--   unfit_called, unfit_counts, unfit_write    == without a count of darts or without room it is 1 or 2, whatever the numbers
--   edges_left past n == how many of the first n edges survive
--   Euler n c        == of the counts c, the darts are those of n edges, and the Euler number is vertices minus these edges plus faces
--   counts_euler     == so it is of the surviving edges, where `counts` answers 0
use mathlib.Core.Bool.{Bool, true, false, not}
use mathlib.Core.List.{List}
use mathlib.Core.Logic.{◌≢◌, ◌⊎◌, inl, inr}
use mathlib.Core.Path.{◌≡◌, refl, sym, ap, ◌∙◌}
use Prim.Native.Nat.{ℕ, zero, suc, ◌+◌, ◌*◌, ◌/◌, ◌%◌}
use native.Mathlib.Omega.{arith}
use lib.IntN.{pos, ◌+ℤ◌, ◌-ℤ◌}
use lib.ListN.{length}
use Rattle.permutations.specs.Choice.{pick, eqb_other}
use Rattle.std.proofs.Common.{if◌then◌else◌}
use Rattle.darts.specs.Answers.{Answer, done, no_pyramid}
use Rattle.darts.specs.Map.{survives}
use Rattle.darts.specs.Operation.{Kind, removal}
use Rattle.darts.specs.State.{State}
use Rattle.darts.specs.Counts.{Counts, surviving, counts_of, no_counts}
use Rattle.darts.specs.Pyramid.{Pyramid}
use Rattle.darts.specs.Calls.{After, Counted, leaves, fitting, table_of, past_of, cleared, work_after, judged, hands_back, start, reduce_by, sweep_by, counts, read, write}
use Rattle.darts.proofs.Fitting.{Count, Lengths, count_facts}
use Rattle.laws.proofs.bridge.StandsBy.{gone_edge}
use Rattle.laws.proofs.runs.Ends.{Stores}
use Rattle.laws.proofs.runs.Sweeps.{loops}
use Rattle.laws.proofs.runs.Pyramids.{pyramid_built}
use Rattle.laws.proofs.claims.NumbersTaken.{Takes, kernel_less, sweep_less}
use Rattle.laws.proofs.calls.Judging.{Judging, uncounted, cramped, other, lent, judging, fits_zero, judged_unfit, judged_done, on_refused}
use Rattle.laws.proofs.calls.Numbers.{wrong_judged, lent_counts}
use Rattle.laws.proofs.chained.OnLent.{Call, by_kernel, by_sweep, called, step_of, called_on, called_left}
use Rattle.laws.proofs.chained.Begins.{start_left, read_left}
use Rattle.laws.proofs.chained.Based.{LentOn}

-- ---- "Every operation and every undo keeps them right"

abbrev pub counts_on : After → Counted
counts_on a = counts a.state a.table a.history a.work

pub record Right (a : After) : Type 0 where
  pub vertices : a.state.vertices ≡ (counts_of a.state.darts (table_of a.state a.table) (past_of a.state a.history)).vertices
  pub faces : a.state.faces ≡ (counts_of a.state.darts (table_of a.state a.table) (past_of a.state a.history)).faces
  -- "The status line asks for vertices and faces after each operation"
  pub shown : (counts_on a).answer ≡ done
  pub shown_vertices : (counts_on a).counts.vertices ≡ a.state.vertices
  pub shown_faces : (counts_on a).counts.faces ≡ a.state.faces

lent_right : (a : After) → LentOn a → Right a
lent_right a L =
    let N = (pyramid_built L.pyramid).stored in
    let C = lent_counts a.state a.table a.history a.work L in
    record { vertices = N.vertices; faces = N.faces; shown = C.answer; shown_vertices = C.vertices; shown_faces = C.faces }

pub start_right : (D : ℕ) (t h w : List ℕ) → (start D t h w).answer.number ≡ 0 → Right (start D t h w)
start_right D t h w e = lent_right (start D t h w) (start_left D t h w e).left.lent

pub read_right : (b t h w : List ℕ) → (read b t h w).answer.number ≡ 0 → Right (read b t h w)
read_right b t h w e = lent_right (read b t h w) (read_left b t h w e).left.lent

module _ (s : State) (t h w : List ℕ) where
  -- AFTER EVERY ACCEPTED KERNEL, SWEEP, UNDO AND UNFOLD THE STORED NUMBERS ARE THOSE OF THE CYCLES
  pub called_right : (c : Call) → (called c s t h w).answer.number ≡ 0 → Right (called c s t h w)
  called_right c e = lent_right (called c s t h w) (called_left c s t h w e).left.lent

  -- A VERTEX FOR EACH CONTRACTION, A FACE FOR EACH REMOVAL
  pub reduce_takes : (k : Kind) (es : List ℕ) → (reduce_by k es s t h w).answer.number ≡ 0
      → Takes k (length es) s.vertices s.faces (reduce_by k es s t h w).state.vertices (reduce_by k es s t h w).state.faces
  reduce_takes k es e =
      let A = called_left (by_kernel (record { kind = k; edges = es })) s t h w e in
      kernel_less A.before.pyramid k es A.gave

  pub sweep_takes : (sweep_by s t h w).answer.number ≡ 0
      → Takes removal (length (loops s (table_of s t) (past_of s h))) s.vertices s.faces (sweep_by s t h w).state.vertices (sweep_by s t h w).state.faces
  sweep_takes e = let A = called_left by_sweep s t h w e in sweep_less A.before.pyramid A.gave

-- ---- "a state whose numbers differ from the cycles is no pyramid"

abbrev pub Differ : State → List ℕ → List ℕ → Type 0
Differ s t past = (s.vertices ≢ (counts_of s.darts t past).vertices) ⊎ (s.faces ≢ (counts_of s.darts t past).faces)

module _ (s : State) (t past : List ℕ) where
  differ_stores : Differ s t past → ¬ (Stores s t past)
  differ_stores (inl n) N = n N.vertices
  differ_stores (inr n) N = n N.faces

  pub differ_pyramid : Differ s t past → ¬ (Pyramid s t past)
  differ_pyramid d P = differ_stores d (pyramid_built P).stored

module _ (s : State) (t h w : List ℕ) where
  -- what is not judged done is handed back as it was given
  judged_called : (c : Call) {a : Answer} → judged s t h w ≡ a → a.number ≢ 0 → called c s t h w ≡ leaves a s t h (work_after a s.darts w)
  unfolding hands_back
  judged_called c j n = rw (called_on c) (on_refused s t h w (step_of c) (rw j n) ∙ rw j)

  judged_counts : {a : Answer} → judged s t h w ≡ a → a.number ≢ 0
      → counts s t h w ≡ record { answer = a; counts = no_counts; table = t; history = h; work = work_after a s.darts w }
  unfolding counts
  judged_counts j n = rw (j, eqb_other n)

  judged_write : (o : List ℕ) {a : Answer} → judged s t h w ≡ a → a.number ≢ 0
      → write s t h w o ≡ record { answer = a; table = t; history = h; work = work_after a s.darts w; output = o }
  unfolding write
  judged_write o j n = rw (j, eqb_other n)

  -- "4 now covers that": lent with room, and a number differs
  module _ (C : Count s.darts) (L : Lengths s.darts (length t) (length h) (length w)) (differ : Differ s (table_of s t) (past_of s h)) where
    differ_judged : judged s t h w ≡ no_pyramid
    differ_judged = wrong_judged s t h w C L (differ_stores s (table_of s t) (past_of s h) differ)

    -- WITH WRONG NUMBERS EVERY CALL ANSWERS 4, WHATEVER IT IS ASKED, AND CHANGES NOTHING BUT THE WORK AREA
    pub differ_called : (c : Call) → called c s t h w ≡ leaves no_pyramid s t h (cleared s.darts w)
    unfolding work_after
    differ_called c = judged_called c differ_judged (λ z. omega arith)

    pub differ_counts : counts s t h w
        ≡ record { answer = no_pyramid; counts = record { darts = 0; vertices = 0; faces = 0; euler = pos 0 }; table = t; history = h; work = cleared s.darts w }
    unfolding work_after
    differ_counts = judged_counts differ_judged (λ z. omega arith)

    pub differ_write : (o : List ℕ)
        → write s t h w o ≡ record { answer = no_pyramid; table = t; history = h; work = cleared s.darts w; output = o }
    unfolding work_after
    differ_write o = judged_write o differ_judged (λ z. omega arith)

  -- "the order is unchanged": 1 and 2 come first, whatever the numbers, and write nothing
  module _ (unfit : (fitting s.darts (length t) (length h) (length w)).number ≢ 0) where
    abbrev first : Answer
    first = fitting s.darts (length t) (length h) (length w)

    first_work : work_after first s.darts w ≡ w
    unfolding work_after
    first_work = go (judging s t h w)
      where
        says : {a : Answer} → judged s t h w ≡ a → first ≡ a
        says j = sym (judged_unfit s t h w unfit) ∙ j

        go : Judging s t h w → work_after first s.darts w ≡ w
        go (uncounted c j) = rw (says j)
        go (cramped c l j) = rw (says j)
        go (other c l p j) = absurd (unfit (fits_zero s t h w c l))
        go (lent G j) = absurd (unfit (ap (λ (a : Answer). a.number) (says j)))

    -- WITHOUT A COUNT OF DARTS, OR WITHOUT ROOM, EVERY CALL ANSWERS 1 OR 2 AND CHANGES NOTHING
    pub unfit_called : (c : Call) → called c s t h w ≡ leaves first s t h w
    unfit_called c = judged_called c (judged_unfit s t h w unfit) unfit ∙ ap (leaves first s t h) first_work

    pub unfit_counts : counts s t h w
        ≡ record { answer = first; counts = record { darts = 0; vertices = 0; faces = 0; euler = pos 0 }; table = t; history = h; work = w }
    unfit_counts = judged_counts (judged_unfit s t h w unfit) unfit ∙ ap (λ v. record { answer = first; counts = no_counts; table = t; history = h; work = v }) first_work

    pub unfit_write : (o : List ℕ) → write s t h w o ≡ record { answer = first; table = t; history = h; work = w; output = o }
    unfit_write o = judged_write o (judged_unfit s t h w unfit) unfit ∙ ap (λ v. record { answer = first; table = t; history = h; work = v; output = o }) first_work

-- ---- "the Euler number, vertices minus edges plus faces, a signed number that may fall below zero"

-- "Edge e has darts 2e and 2e+1.": it survives where its first dart does
unfoldable pub edges_left : List ℕ → ℕ → ℕ
edges_left past zero = 0
edges_left past (suc e) = if survives past (2 * e) then suc (edges_left past e) else edges_left past e

-- and so does its second
pub both_survive : (past : List ℕ) (e : ℕ) → survives past (2 * e + 1) ≡ survives past (2 * e)
unfolding survives
both_survive past e = ap not (gone_edge past (2 * e + 1) (2 * e) (omega arith))

two_each : (past : List ℕ) (n : ℕ) → surviving past (2 * n) ≡ 2 * edges_left past n
unfolding surviving edges_left
two_each past zero = refl
two_each past (suc n) =
    let more : 2 * suc n ≡ suc (suc (2 * n)) = omega arith in
    let pair : survives past (suc (2 * n)) ≡ survives past (2 * n) = ap (survives past) (omega arith) ∙ both_survive past n in
    rw (more, pair, two_each past n) (go (survives past (2 * n)) (edges_left past n))
  where
    go : (b : Bool) (k : ℕ) → pick b (suc (pick b (suc (2 * k)) (2 * k))) (pick b (suc (2 * k)) (2 * k)) ≡ 2 * pick b (suc k) k
    go true k = omega arith
    go false k = refl

pub record Euler (n : ℕ) (c : Counts) : Type 0 where
  pub darts : c.darts ≡ 2 * n
  pub euler : c.euler ≡ pos c.vertices -ℤ pos n +ℤ pos c.faces

euler_of : (D : ℕ) (t past : List ℕ) → D % 2 ≡ 0 → Euler (edges_left past (D / 2)) (counts_of D t past)
unfolding counts_of
euler_of D t past even =
    let twice : surviving past D ≡ 2 * edges_left past (D / 2) = ap (surviving past) (omega arith) ∙ two_each past (D / 2) in
    let half : surviving past D / 2 ≡ edges_left past (D / 2) = omega arith in
    record { darts = twice; euler = rw half }

-- WHERE COUNTS ANSWERS 0, IT IS VERTICES MINUS SURVIVING EDGES PLUS FACES
pub counts_euler : (s : State) (t h w : List ℕ) → (counts s t h w).answer.number ≡ 0
    → Euler (edges_left (past_of s h) (s.darts / 2)) (counts s t h w).counts
unfolding counts
counts_euler s t h w e =
    let C = count_facts s.darts (judged_done s t h w e).pyramid.count in
    rw e (euler_of s.darts (table_of s t) (past_of s h) C.even)
