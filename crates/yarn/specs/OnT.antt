-- Map T of document 01 lent with sheets, as the rows of the table have it.
--   state n es v f    == n operations, the level ends es, v vertices and f faces
--   T, T3, T5, T6, T7 == the tables: the base, once edge 0 is contracted, then edge 1, in the other order, and once edge 2 is removed too
--   h5, h7, past hs   == the history numbers of K5 and of K7; a history of 5 numbers, these first
--   K5, K7            == the kernels of K5 and of K7
--   at_t, at_k5, at_k7   == T, and T after K5 and after K7, lent with these history numbers and sheets
--   zeros l           == what is lent, and a state of zeros handed back
--   misnumbered v f l == what is lent, with other numbers of vertices and faces
--   keeps, silent, refused, begun == rows of one shape
--   S0, S1, S5, back  == sheets: of T, after one operation of K5, after both, and once they are undone
use Rattle.std.specs.Prelude.{false, List, [], ◌∷◌, ℕ, pos, negsuc, length, replicate}
use Rattle.std.specs.Float.{fin}
use Rattle.slices.specs.Over.{over}
use Rattle.darts.specs.State.{State, zeros as zeroState}
use Rattle.sheets.specs.declared.Zone.{Zone}
use Rattle.sheets.specs.Sheets.{Sheets}
use Rattle.yarn.specs.Rows.{Lent, Call, starting, contracting, removing, Row, calls, zone, half, sheets}

-- ---- what is lent

abbrev pub lent : State → List ℕ → List ℕ → Sheets → Lent
lent s t h S = record { state = s; table = t; history = h; sheets = S }

abbrev pub state_of : ℕ → ℕ → List ℕ → ℕ → ℕ → State
state_of D n es v f = record { darts = D; operations = n; levels = length es; ends = over es (replicate 64 0); vertices = v; faces = f }

abbrev pub state : ℕ → List ℕ → ℕ → ℕ → State
state = state_of 8

-- "Base T (D = 8): 5 2 1 4 6 0 3 7", and a number that is not looked at; nor is history past the count
abbrev pub T : List ℕ
T = 5 ∷ 2 ∷ 1 ∷ 4 ∷ 6 ∷ 0 ∷ 3 ∷ 7 ∷ 9 ∷ []

abbrev pub T3 : List ℕ
T3 = 5 ∷ 2 ∷ 5 ∷ 4 ∷ 6 ∷ 2 ∷ 3 ∷ 7 ∷ 9 ∷ []

abbrev pub T5 : List ℕ
T5 = 5 ∷ 2 ∷ 5 ∷ 4 ∷ 6 ∷ 4 ∷ 5 ∷ 7 ∷ 9 ∷ []

abbrev pub T6 : List ℕ
T6 = 5 ∷ 4 ∷ 1 ∷ 4 ∷ 6 ∷ 4 ∷ 5 ∷ 7 ∷ 9 ∷ []

abbrev pub T7 : List ℕ
T7 = 5 ∷ 2 ∷ 5 ∷ 4 ∷ 6 ∷ 4 ∷ 6 ∷ 7 ∷ 9 ∷ []

abbrev pub h5 : List ℕ
h5 = 1 ∷ 5 ∷ []

abbrev pub h7 : List ℕ
h7 = 1 ∷ 5 ∷ 10 ∷ []

abbrev pub past : List ℕ → List ℕ
past hs = over hs (replicate 5 9)

abbrev pub K5 : List Call
K5 = contracting (0 ∷ 1 ∷ []) ∷ []

abbrev pub K7 : List Call
K7 = contracting (0 ∷ 1 ∷ []) ∷ removing (2 ∷ []) ∷ []

abbrev pub at_t : List ℕ → Sheets → Lent
at_t hs S = lent (state 0 [] 4 2) T (past hs) S

abbrev pub at_k5 : List ℕ → Sheets → Lent
at_k5 hs S = lent (state 2 (2 ∷ []) 2 2) T5 (past hs) S

abbrev pub at_k7 : List ℕ → Sheets → Lent
at_k7 hs S = lent (state 3 (2 ∷ 3 ∷ []) 2 1) T7 (past hs) S

abbrev pub zeros : Lent → Lent
zeros l = lent zeroState l.table l.history l.sheets

abbrev pub misnumbered : ℕ → ℕ → Lent → Lent
misnumbered v f l =
    let s : State = l.state in
    let other : State = record { darts = s.darts; operations = s.operations; levels = s.levels; ends = s.ends; vertices = v; faces = f } in
    lent other l.table l.history l.sheets

-- ---- rows of one shape

-- a call that hands back what it was lent, the work area cleared; and one that does not begin
abbrev pub keeps : Call → Lent → ℕ → ℕ → Row
keeps c l n p = calls c l n p 0 l 32

abbrev pub silent : Call → Lent → ℕ → Row
silent c l n = calls c l n 0 0 l 0

-- a start that refuses; and one that does not begin
abbrev pub refused : Lent → ℕ → ℕ → ℕ → Row
refused l n p s = calls (starting 8) l n p s (zeros l) 32

abbrev pub unbegun : ℕ → Lent → ℕ → Row
unbegun D l n = calls (starting D) l n 0 0 (zeros l) 0

-- a start of T with these sheets that is done
abbrev pub begun : Sheets → Row
begun S = keeps (starting 8) (at_t [] S) 0 0

-- ---- the sheets

-- stitches 1, 2, 3 and 4, and metres 0.5 on all
abbrev pub S0 : Sheets
S0 = sheets (half 1) (half 2) (half 3) (half 4) []

-- K5 merges the record at place 1 into the one at place 0, then the one at place 3
abbrev pub three : Zone
three = zone 3 (fin false 1 (pos 0))

abbrev pub six : Zone
six = zone 6 (fin false 3 (negsuc 0))

abbrev pub kept5 : List Zone
kept5 = half 1 ∷ three ∷ []

abbrev pub S1 : List Zone → Sheets
S1 ks = sheets three (half 2) (half 3) (half 4) ks

abbrev pub S5 : Sheets
S5 = sheets six (half 2) (half 3) (half 4) kept5

-- what was kept stays where it is
abbrev pub back : Sheets
back = sheets (half 1) (half 2) (half 3) (half 4) kept5
