-- The eight public calls: for each, one function from what it is given to what it leaves (document 01, "Levels and calls", "Answer numbers").
-- t, h, w and o are the lent table, history, work area and output, whole.
--   After, Counted, Written == what a call leaves: its answer, what it hands back, every lent slice
--   room t h w D            == slices of these lengths are long enough for D darts
--   fitting D t h w         == answers 1 and 2 over slices of these lengths, or done
--   judged s t h w          == answers 1, 2 and 4 of a call on a state, or done
--   start, reduce_by, sweep_by, undo_by, unfold_by, counts, read, write == the calls
use Rattle.std.specs.Prelude.{Bool, not, ◌&&◌, List, reverse, ℕ, ◌*◌, ◌/◌, eqb, leb, ltb, length, take, replicate}
use Rattle.slices.specs.Over.{over}
use Rattle.std.specs.Prelude.{if◌then◌else◌}
use Rattle.darts.specs.Answers.{Answer, done, wrote, no_dart_count, too_short, needs, no_permutation, no_pyramid}
use Rattle.darts.specs.Map.{Verdict, permutes, culprits, permutation_test}
use Rattle.darts.specs.Operation.{Kind}
use Rattle.darts.specs.State.{State, zeros, base_state, Result, gives, refuses, reduce}
use Rattle.darts.specs.Levels.{sweep, undo_level, unfold_to}
use Rattle.darts.specs.Pyramid.{dart_count, is_pyramid}
use Rattle.darts.specs.Counts.{Counts, counts_of, no_counts}
use Rattle.darts.specs.File.{file_of}
use Rattle.darts.specs.Read.{Read, means, faulty, read_file}

pub record After : Type 0 where
  pub answer : Answer
  pub state : State
  pub table : List ℕ
  pub history : List ℕ
  pub work : List ℕ

pub record Counted : Type 0 where
  pub answer : Answer
  pub counts : Counts
  pub table : List ℕ
  pub history : List ℕ
  pub work : List ℕ

pub record Written : Type 0 where
  pub answer : Answer
  pub table : List ℕ
  pub history : List ℕ
  pub work : List ℕ
  pub output : List ℕ

abbrev pub leaves : Answer → State → List ℕ → List ℕ → List ℕ → After
leaves a s t h w = record { answer = a; state = s; table = t; history = h; work = w }

-- "Each call on this page is lent the table with at least D numbers, the history with D/2 and the work area with 4D; less is answer 2."
unfoldable pub room : ℕ → ℕ → ℕ → ℕ → Bool
room t h w D = leb D t && (leb (D / 2) h && leb (4 * D) w)

-- "Order: 1, 2, then 3 or 4"
unfoldable pub fitting : ℕ → ℕ → ℕ → ℕ → Answer
fitting D t h w =
    if not (dart_count D) then no_dart_count
    else if not (room t h w D) then too_short
    else done

-- "Numbers of a lent table past D are neither read nor written": the D numbers of a lent table
unfoldable pub table_of : State → List ℕ → List ℕ
table_of s t = take s.darts t

-- "History past the count is not looked at": the past of a lent history, the last operation first
unfoldable pub past_of : State → List ℕ → List ℕ
past_of s h = reverse (take s.operations h)

unfoldable pub cleared : ℕ → List ℕ → List ℕ
cleared D w = over (replicate (4 * D) 0) w

-- "After every call except those answered 1 or 2 the work area's first 4D numbers are zero; 1 and 2 write nothing at all"
unfoldable pub work_after : Answer → ℕ → List ℕ → List ℕ
work_after a D w = if eqb a.number 1 then w else if eqb a.number 2 then w else cleared D w

unfoldable pub judged : State → List ℕ → List ℕ → List ℕ → Answer
judged s t h w =
    let a : Answer = fitting s.darts (length t) (length h) (length w) in
    if not (eqb a.number 0) then a else if is_pyramid s (table_of s t) (past_of s h) then done else no_pyramid

-- "A refused start or read, which was given none, hands back a state of zeros." The start call passes both culprits on.
unfoldable pub begins : ℕ → List ℕ → List ℕ → List ℕ → Verdict → After
begins D t h w permutes = leaves done (base_state D (take D t)) t h (cleared D w)
begins D t h w (culprits d c) = leaves (no_permutation d c) zeros t h (cleared D w)

unfoldable pub start : ℕ → List ℕ → List ℕ → List ℕ → After
start D t h w =
    let a : Answer = fitting D (length t) (length h) (length w) in
    if not (eqb a.number 0) then leaves a zeros t h w else begins D t h w (permutation_test D t)

-- "A refused call hands back the state it was given." "A refusal changes nothing but the work area."
unfoldable pub hands_back : State → List ℕ → List ℕ → List ℕ → Result → After
hands_back s t h w (gives z u past) = leaves done z (over u t) (over (reverse past) h) (cleared s.darts w)
hands_back s t h w (refuses a) = leaves a s t h (work_after a s.darts w)

-- a step of a pyramid as a call on a state
unfoldable pub on_state : (State → List ℕ → List ℕ → Result) → State → List ℕ → List ℕ → List ℕ → After
on_state step s t h w =
    let a : Answer = judged s t h w in
    let r : Result = step s (table_of s t) (past_of s h) in
    hands_back s t h w (if eqb a.number 0 then r else refuses a)

-- "reduce by a kernel; sweep; undo one level; unfold to level k"
unfoldable pub reduce_by : Kind → List ℕ → State → List ℕ → List ℕ → List ℕ → After
reduce_by k es = on_state (reduce k es)

unfoldable pub sweep_by : State → List ℕ → List ℕ → List ℕ → After
sweep_by = on_state sweep

unfoldable pub undo_by : State → List ℕ → List ℕ → List ℕ → After
undo_by = on_state undo_level

unfoldable pub unfold_by : ℕ → State → List ℕ → List ℕ → List ℕ → After
unfold_by k = on_state (unfold_to k)

-- "counts of the present level". "Refused counts are four zeros."
unfoldable pub counts : State → List ℕ → List ℕ → List ℕ → Counted
counts s t h w =
    let a : Answer = judged s t h w in
    let c : Counts = counts_of s.darts (table_of s t) (past_of s h) in
    record {
      answer = a;
      counts = if eqb a.number 0 then c else no_counts;
      table = t;
      history = h;
      work = work_after a s.darts w;
    }

-- "The reader writes table and history only when it accepts". "The reader, which learns D late, follows the same sentence for its D".
unfoldable pub read_into : List ℕ → List ℕ → List ℕ → Read → After
read_into t h w (means s u past) = leaves done s (over u t) (over (reverse past) h) (cleared s.darts w)
read_into t h w (faulty D a) = leaves a zeros t h (cleared D w)

unfoldable pub read : List ℕ → List ℕ → List ℕ → List ℕ → After
read b t h w = read_into t h w (read_file (room (length t) (length h) (length w)) b)

-- "The writer judges its output's length after 4." "1 and 2 write nothing at all, save that the writer's refusal of its output's length leaves those
-- 4D numbers zero too." "an accepted write alters only its own bytes of the output"
unfoldable pub write : State → List ℕ → List ℕ → List ℕ → List ℕ → Written
write s t h w o =
    let a : Answer = judged s t h w in
    let b : List ℕ = file_of s (table_of s t) (past_of s h) in
    let refused : Written = record { answer = a; table = t; history = h; work = work_after a s.darts w; output = o } in
    let short : Written = record { answer = needs (length b); table = t; history = h; work = cleared s.darts w; output = o } in
    let written : Written = record { answer = wrote (length b); table = t; history = h; work = cleared s.darts w; output = over b o } in
    if not (eqb a.number 0) then refused else if ltb (length o) (length b) then short else written
