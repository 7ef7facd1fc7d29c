-- What the words of a line say.
--   word_of command   == the word of a command
--   Takes command n   == a command takes n numbers, or a number and n - 1 records
--   ReadsNumber k s r == a call that answers r for the word s: where that is a number, s is its digits, with no sign, and it has at most k bits
--   IsFigure b y      == the metres y of a figure b: "M its metres as the number of their 64 bits", or "-" for not measured
--   ReadsZone s r     == a call that answers r for the word s: where that is a record, s is `S:M` or `S:-`
use lib.Ieee.{Float, binary64}
use Rattle.std.specs.Prelude.{◌≡◌, ◌<◌, ◌≤◌, ◌^◌, ◌++◌, ◌∷◌, ℕ, List, Option, Some, None, IfSome, codes, from_bits}
use Rattle.std.specs.Str.Parse.{IsNumeral, digits_value}
use Rattle.sheets.specs.declared.Zone.{Zone}
use Rattle.script.specs.declared.words.Command.{Command}
use Rattle.script.specs.declared.words.Command.TheVariants.{Lend, Sheets, Table, History, Work, Plan, Ends, Fill, State, Stored, Start}
use Rattle.script.specs.declared.words.Command.TheVariants.{Contract, Remove, Sweep, Undo, Unfold, Read, FlatAreas, Flat, Counts, Successor, Write}
use Rattle.script.specs.declared.words.Command.TheVariants.{Show, Bytes, Sheet, Kept, YarnStart, YarnContract, YarnRemove, YarnSweep, YarnUndo, YarnUnfold, Costs}

abbrev pub word_of : Command → List ℕ
word_of Lend = codes "lend"
word_of Sheets = codes "sheets"
word_of Table = codes "table"
word_of History = codes "history"
word_of Work = codes "work"
word_of Plan = codes "plan"
word_of Ends = codes "ends"
word_of Fill = codes "fill"
word_of State = codes "state"
word_of Stored = codes "stored"
word_of Start = codes "start"
word_of Contract = codes "contract"
word_of Remove = codes "remove"
word_of Sweep = codes "sweep"
word_of Undo = codes "undo"
word_of Unfold = codes "unfold"
word_of Read = codes "read"
word_of FlatAreas = codes "flatareas"
word_of Flat = codes "flat"
word_of Counts = codes "counts"
word_of Successor = codes "successor"
word_of Write = codes "write"
word_of Show = codes "show"
word_of Bytes = codes "bytes"
word_of Sheet = codes "sheet"
word_of Kept = codes "kept"
word_of YarnStart = codes "yarnstart"
word_of YarnContract = codes "yarncontract"
word_of YarnRemove = codes "yarnremove"
word_of YarnSweep = codes "yarnsweep"
word_of YarnUndo = codes "yarnundo"
word_of YarnUnfold = codes "yarnunfold"
word_of Costs = codes "costs"

abbrev pub Takes : Command → ℕ → Type 0
Takes Lend n = n ≡ 3
Takes Sheets n = n ≡ 2
Takes Table n = 1 ≤ n
Takes History n = 1 ≤ n
Takes Work n = 1 ≤ n
Takes Plan n = 1 ≤ n
Takes Ends n = 1 ≤ n
Takes Fill n = n ≡ 1
Takes State n = (3 ≤ n) × (n ≤ 67)
Takes Stored n = n ≡ 2
Takes Start n = n ≡ 1
Takes Contract n = n ≤ 32772
Takes Remove n = n ≤ 32772
Takes Sweep n = n ≡ 0
Takes Undo n = n ≡ 0
Takes Unfold n = n ≡ 1
Takes Read n = n ≡ 1
Takes FlatAreas n = n ≡ 3
Takes Flat n = n ≡ 3
Takes Counts n = n ≡ 0
Takes Successor n = n ≡ 3
Takes Write n = n ≡ 1
Takes Show n = n ≡ 0
Takes Bytes n = n ≡ 0
Takes Sheet n = 1 ≤ n
Takes Kept n = 1 ≤ n
Takes YarnStart n = n ≡ 1
Takes YarnContract n = n ≤ 32772
Takes YarnRemove n = n ≤ 32772
Takes YarnSweep n = n ≡ 0
Takes YarnUndo n = n ≡ 0
Takes YarnUnfold n = n ≡ 1
Takes Costs n = n ≡ 0

abbrev pub ReadsNumber : ℕ → List ℕ → Option ℕ → Type 0
ReadsNumber k s r = IfSome r (λ n. IsNumeral 10 s × (n ≡ digits_value 10 s) × (n < 2 ^ k))

abbrev pub IsFigure : List ℕ → Option Float → Type 0
IsFigure b None = b ≡ codes "-"
IsFigure b (Some m) = IsNumeral 10 b × (m ≡ from_bits binary64 (digits_value 10 b))

abbrev pub ReadsZone : List ℕ → Option Zone → Type 0
ReadsZone s r = IfSome r (λ z. (a b : List ℕ) × (s ≡ a ++ 58 ∷ b) × IsNumeral 10 a × (z.stitches ≡ digits_value 10 a) × IsFigure b z.yarn)
