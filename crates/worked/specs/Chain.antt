-- Calls one after another, and what a worked example says of the last.
--   after r                  == what the last call of the run r left
--   started, reduced, swept, undone, unfolded == a start, and each call on what the call before it left
--   stored x y a             == no call: x vertices and y faces in the state
--   left_of a                == answer number, place and second place, table and history, and the state's numbers of vertices and faces
--   left_is n u v s          == the same, as an example claims them
use Rattle.std.specs.Prelude.{List, ℕ, replicate}
use Rattle.darts.specs.Operation.{Kind}
use Rattle.darts.specs.Calls.{After, leaves, start, reduce_by, sweep_by, undo_by, unfold_by}
use Rattle.pyramid.specs.Values.{figures_with, left}
use Rattle.worked.specs.declared.chain.Run.{Run}

abbrev pub after : Run → After
after r = left r.outcome r.table r.history r.work

-- the work area has rubbish in it
abbrev pub started : ℕ → List ℕ → After
started D base = start D base (replicate 4 0) (replicate 32 9)

abbrev pub reduced : Kind → List ℕ → After → After
reduced k kernel a = reduce_by k kernel a.state a.table a.history a.work

abbrev pub swept : After → After
swept a = sweep_by a.state a.table a.history a.work

abbrev pub undone : After → After
undone a = undo_by a.state a.table a.history a.work

abbrev pub unfolded : ℕ → After → After
unfolded k a = unfold_by k a.state a.table a.history a.work

abbrev pub stored : ℕ → ℕ → After → After
stored x y a = leaves a.answer (figures_with a.state x y) a.table a.history a.work

pub record Left : Type 0 where
  pub answer : ℕ × ℕ × ℕ
  pub table : List ℕ
  pub history : List ℕ
  pub stored : ℕ × ℕ

abbrev pub left_of : After → Left
left_of a = record {
  answer = (a.answer.number, a.answer.place, a.answer.second);
  table = a.table;
  history = a.history;
  stored = (a.state.vertices, a.state.faces);
}

abbrev pub left_is : ℕ × ℕ × ℕ → List ℕ → List ℕ → ℕ × ℕ → Left
left_is n u v s = record { answer = n; table = u; history = v; stored = s }
