-- What the loops over the sheets read in the work area of D darts after n operations: notes of what each operation merges, from 3D + D/2 on, and links, which
-- say what each record came from, at the first D + n numbers.
--   note_of m            == the note of a merge: 0 for none, else low * 65,536 + high
--   merge_in v           == the merge that the note v tells
--   notes_in D w t       == what operation t merges
--   record_at D S i      == the record at place i of the two sheets, the sheet's D places first
--   sound_at D w S i     == the record at place i is right: its link is D where it is not looked at, 0 where it is a base's, 1 + t where operation t left it
--   right_in D w S m i   == the m records from place i on are right
--   Linked D n w        == links and notes lead to places of the sheets
--   unfit_in D w S n x   == of the n places from x on the first that is its own label, from 2D on, and whose record is not fit; the one after them where there is none
--   Noted D n m w       == the notes of operations n to m lead to places of the sheets
--   Fits w D t c S      == each of the c merges from operation t on has stitches that fit 32 bits, at its turn
use Rattle.std.specs.Prelude.{Bool, true, not, ◌&&◌, List, ◌⊎◌, ◌≡◌, ℕ, zero, suc, ◌+◌, ◌-◌, ◌*◌, ◌/◌, ◌%◌, ◌^◌, ◌≤◌, ◌<◌, eqb, ltb, get_or, length}
use Rattle.permutations.specs.Choice.{pick}
use Rattle.sheets.specs.declared.Zone.{Zone}
use Rattle.sheets.specs.Records.{fit_of, at}
use Rattle.sheets.specs.Sheets.{Sheets, Merge, none, into, merged, sound}

unfoldable pub note_of : Merge → ℕ
note_of none = 0
note_of (into low high) = low * 65536 + high

unfoldable pub merge_in : ℕ → Merge
merge_in v = pick (eqb v 0) none (into (v / 65536) (v % 65536))

unfoldable pub notes_in : ℕ → List ℕ → ℕ → Merge
notes_in D w t = merge_in (get_or w (3 * D + D / 2 + t) 0)

unfoldable pub record_at : ℕ → Sheets → ℕ → Zone
record_at D S i = pick (ltb i D) (at S.sheet i) (at S.kept (i - D))

unfoldable pub sound_at : ℕ → List ℕ → Sheets → ℕ → Bool
sound_at D w S i = pick (eqb (get_or w i 0) D) true (sound (notes_in D w) S (get_or w i 0) (record_at D S i))

unfoldable pub right_in : ℕ → List ℕ → Sheets → ℕ → ℕ → Bool
right_in D w S zero i = true
right_in D w S (suc m) i = sound_at D w S i && right_in D w S m (suc i)

pub record Linked (D n : ℕ) (w : List ℕ) : Type 0 where
  pub some : 0 < D
  pub small : D ≤ 65536
  pub few : n ≤ D / 2
  pub fits : 4 * D ≤ length w
  pub links : (i : ℕ) → i < D + n → (get_or w i 0 ≤ n) ⊎ (get_or w i 0 ≡ D)
  pub highs : (t : ℕ) → t < n → get_or w (3 * D + D / 2 + t) 0 % 65536 < D

unfoldable pub unfit_in : ℕ → List ℕ → Sheets → ℕ → ℕ → ℕ
unfit_in D w S zero x = x
unfit_in D w S (suc n) x = pick (eqb (get_or w (2 * D + x) 0) x && not (fit_of (at S.sheet x))) x (unfit_in D w S n (suc x))

pub record Noted (D n m : ℕ) (w : List ℕ) : Type 0 where
  pub small : D ≤ 65536
  pub rises : n ≤ m
  pub few : m ≤ D / 2
  pub fits : 4 * D ≤ length w
  pub lows : (t : ℕ) → n ≤ t → t < m → get_or w (3 * D + D / 2 + t) 0 / 65536 < D
  pub highs : (t : ℕ) → n ≤ t → t < m → get_or w (3 * D + D / 2 + t) 0 % 65536 < D

abbrev pub FitsOne : Merge → Sheets → Type 0
FitsOne none S = Unit {0}
FitsOne (into low high) S = (at S.sheet low).stitches + (at S.sheet high).stitches < 2 ^ 32

abbrev pub Fits : (ℕ → Merge) → ℕ → ℕ → Sheets → Type 0
Fits ms t zero S = Unit {0}
Fits ms t (suc c) S = FitsOne (ms t) S × Fits ms (suc t) c (merged (ms t) t S)
