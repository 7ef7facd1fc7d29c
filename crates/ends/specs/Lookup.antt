-- The call: the successor of a dart at a level (document 02, request Four). t, h and w are the lent table, ends and work area, whole.
--   Looked              == what the call leaves: its answer, the dart and the count, every lent slice
--   table_of D t         == the table that is looked at; ends_of D h the ends
--   judged D k x t h w  == the answer
--   successor_at         == the call
use Rattle.std.specs.Prelude.{not, List, ℕ, ◌/◌, eqb, leb, ltb, length, take}
use Rattle.std.specs.Prelude.{if◌then◌else◌}
use Rattle.darts.specs.Answers.{Answer, done, no_pyramid, no_level, no_edge, gone_already}
use Rattle.darts.specs.Calls.{fitting, work_after}
use Rattle.ends.specs.Ends.{gone_by, top}
use Rattle.ends.specs.Walk.{Found, nothing, walk}
use Rattle.ends.specs.Comes.{comes}

pub record Looked : Type 0 where
  pub answer : Answer
  -- "The answer carries the number of gone darts passed"
  pub found : Found
  pub table : List ℕ
  pub ends : List ℕ
  pub work : List ℕ

-- "Numbers of a lent table past D are neither read nor written"
abbrev pub table_of : ℕ → List ℕ → List ℕ
table_of D t = take D t

-- "The ends are lent as D/2 places"
abbrev pub ends_of : ℕ → List ℕ → List ℕ
ends_of D h = take (D / 2) h

-- "Refusals: after 1 and 2, 4 if the table and ends come from no pyramid, then 12 for k, then 7 for a dart of D or more, then 8 for a dart gone by
-- then; 7 and 8 have place 0"
unfoldable pub judged : ℕ → ℕ → ℕ → List ℕ → List ℕ → List ℕ → Answer
judged D k x t h w =
    let a : Answer = fitting D (length t) (length h) (length w) in
    if not (eqb a.number 0) then a
    else if not (comes D (table_of D t) (ends_of D h)) then no_pyramid
    else if ltb (top (ends_of D h)) k then no_level (top (ends_of D h))
    else if leb D x then no_edge 0
    else if gone_by k (ends_of D h) x then gone_already 0
    else done

-- "Table and work area are as on page 01." Table and ends are only read.
unfoldable pub successor_at : ℕ → ℕ → ℕ → List ℕ → List ℕ → List ℕ → Looked
successor_at D k x t h w =
    let a : Answer = judged D k x t h w in
    let f : Found = walk D k (table_of D t) (ends_of D h) x in
    record {
      answer = a;
      found = if eqb a.number 0 then f else nothing;
      table = t;
      ends = h;
      work = work_after a D w;
    }
