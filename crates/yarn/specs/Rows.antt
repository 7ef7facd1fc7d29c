-- Calls with sheets as rows of a table: what they are lent, and what they leave. And the sheets of such rows.
--   Lent        == what a call is given and leaves: state, table, history, sheets
--   Call        == a call
--   Row         == one call, and all that it leaves; or what several leave
--   right r     == the definitions give what the row says
--   all_right rs == so do all of these rows
--   zone n m, unmeasured n, half n == records of n stitches
--   rubbish     == a record that no base has
--   sheets a b c d ks == map T's records a, b, c and d, and the kept ones ks; wherever no call looks, rubbish
--   fewer m n S == the first m and n places of the sheets S
--   longer m n S == the sheets S with m and n places more
use Rattle.std.specs.Prelude.{Bool, true, false, ◌&&◌, List, [], ◌∷◌, ◌++◌, ℕ, eqb, negsuc, replicate, take, Float, Some, None}
use Rattle.std.specs.Float.{nan, fin}
use Rattle.slices.specs.Over.{over}
use Rattle.darts.specs.Operation.{contraction, removal}
use Rattle.darts.specs.State.{State}
use Rattle.darts.specs.Pyramid.{same_numbers, same_state}
use Rattle.darts.specs.Worked.{answers_both}
use Rattle.sheets.specs.declared.Zone.{Zone}
use Rattle.sheets.specs.Records.{same_zone}
use Rattle.sheets.specs.Sheets.{Sheets}
use Rattle.yarn.specs.Calls.{Costed, start_with, reduce_with, sweep_with, undo_with, unfold_with}

pub record Lent : Type 0 where
  pub state : State
  pub table : List ℕ
  pub history : List ℕ
  pub sheets : Sheets

pub data Call : Type 0 where
  starting : ℕ → Call
  contracting removing : List ℕ → Call
  sweeping undoing : Call
  to_level : ℕ → Call

pub data Row : Type 0 where
  -- a call and what it is lent; then the answer's number, place and second place, what it leaves, and how many zeros are written over the first ones
  -- of a work area of 33 numbers, all 9
  calls : Call → Lent → ℕ → ℕ → ℕ → Lent → ℕ → Row
  -- what is lent to each of the calls on a state: all give this answer at place 0, hand back what they were lent, and write so many zeros
  refusing : Lent → ℕ → ℕ → Row
  -- a start of so many darts and what it is lent, then some calls, each on what the last one leaves: the last answer's number, and the vertices and
  -- faces in the state handed back
  numbers : ℕ → Lent → List Call → ℕ → ℕ → ℕ → Row

abbrev called : Call → Lent → Costed
called (starting D) l = start_with D l.table l.history (replicate 33 9) l.sheets
called (contracting es) l = reduce_with contraction es l.state l.table l.history (replicate 33 9) l.sheets
called (removing es) l = reduce_with removal es l.state l.table l.history (replicate 33 9) l.sheets
called sweeping l = sweep_with l.state l.table l.history (replicate 33 9) l.sheets
called undoing l = undo_with l.state l.table l.history (replicate 33 9) l.sheets
called (to_level k) l = unfold_with k l.state l.table l.history (replicate 33 9) l.sheets

abbrev same_zones : List Zone → List Zone → Bool
same_zones [] [] = true
same_zones [] (b ∷ bs) = false
same_zones (a ∷ rest) [] = false
same_zones (a ∷ rest) (b ∷ bs) = same_zone a b && same_zones rest bs

abbrev leaves : ℕ → ℕ → ℕ → Lent → ℕ → Costed → Bool
leaves n p s l z c =
    answers_both n p s c.plain.answer
    && (same_state c.plain.state l.state
    && (same_numbers c.plain.table l.table
    && (same_numbers c.plain.history l.history
    && (same_numbers c.plain.work (over (replicate z 0) (replicate 33 9))
    && (same_zones c.sheets.sheet l.sheets.sheet && same_zones c.sheets.kept l.sheets.kept)))))

-- none looks at its kernel or its level before
abbrev on_state : List Call
on_state = contracting (3 ∷ []) ∷ removing [] ∷ sweeping ∷ undoing ∷ to_level 9 ∷ []

abbrev all_refuse : List Call → Lent → ℕ → ℕ → Bool
all_refuse [] l n z = true
all_refuse (c ∷ cs) l n z = leaves n 0 0 l z (called c l) && all_refuse cs l n z

abbrev left_by : Costed → Lent
left_by c = record { state = c.plain.state; table = c.plain.table; history = c.plain.history; sheets = c.sheets }

abbrev then : List Call → Costed → Costed
then [] c = c
then (k ∷ ks) c = then ks (called k (left_by c))

abbrev right : Row → Bool
right (calls c l n p s m z) = leaves n p s m z (called c l)
right (refusing l n z) = all_refuse on_state l n z
right (numbers D l cs n v f) =
    let c : Costed = then cs (called (starting D) l) in
    eqb c.plain.answer.number n && (eqb c.plain.state.vertices v && eqb c.plain.state.faces f)

abbrev pub all_right : List Row → Bool
all_right [] = true
all_right (r ∷ rs) = right r && all_right rs

-- ---- records

abbrev pub zone : ℕ → Float → Zone
zone n m = record { stitches = n; yarn = Some m }

abbrev pub unmeasured : ℕ → Zone
unmeasured n = record { stitches = n; yarn = None }

abbrev pub half : ℕ → Zone
half n = zone n (fin false 1 (negsuc 0))

-- no base has this record: it stands wherever no call looks
abbrev pub rubbish : Zone
rubbish = zone 70000 nan

-- ---- sheets: the records of T's vertices are at places 0, 1, 3 and 7; a sheet has one place more than is asked, and so has the other

abbrev sheet_of : Zone → Zone → Zone → Zone → List Zone
sheet_of a b c d = a ∷ b ∷ rubbish ∷ c ∷ rubbish ∷ rubbish ∷ rubbish ∷ d ∷ rubbish ∷ []

abbrev kept_of : List Zone → List Zone
kept_of ks = take 5 (ks ++ replicate 5 rubbish)

abbrev pub sheets : Zone → Zone → Zone → Zone → List Zone → Sheets
sheets a b c d ks = record { sheet = sheet_of a b c d; kept = kept_of ks }

abbrev pub fewer : ℕ → ℕ → Sheets → Sheets
fewer m n S = record { sheet = take m S.sheet; kept = take n S.kept }

abbrev pub longer : ℕ → ℕ → Sheets → Sheets
longer m n S = record { sheet = S.sheet ++ replicate m rubbish; kept = S.kept ++ replicate n rubbish }
