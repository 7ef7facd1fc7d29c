-- What one turn of each loop over the sheets does, on lists alone. A loop keeps that what is looked for from the start is what is looked for from here.
--   both s k                   == the two sheets s and k
--   at_any                     == inside a sheet it does not matter which record stands past its end
--   right_at D w S i           == place i is not looked at, or its record is sound
--   right_unseen               == a place that is not looked at is passed over
--   right_sound                == right_at is what the definition says of a place
--   right_listed               == right_in is that of each place in turn
--   unfit_at D w S x           == x is its own label and its record is not fit
--   unfit_found                == what unfit_in is, where such a place is the first one below D, and where there is none
--   note_none, note_into       == what a note of 0 tells, and what any other
--   merge_turn, fits_turn      == the merges from operation t on: the one of t, then those after it
--   merges_done                == past the last operation none is left
--   back_turn, back_done       == the same for the records that are put back, the last one first
use mathlib.Core.Bool.{Bool, true, false, not, ◌&&◌, ◌||◌}
use mathlib.Core.List.{List}
use mathlib.Core.Logic.{◌≢◌}
use mathlib.Core.Path.{◌≡◌, refl, sym, ◌∙◌, ap, subst}
use Prim.Native.Nat.{ℕ, zero, suc, ◌+◌, ◌-◌, ◌*◌, ◌/◌, ◌%◌, ◌<◌, ◌≤◌}
use native.Mathlib.Numerals.{suc-eq-add-one}
use native.Mathlib.Omega.{arith}
use lib.Dec.{eqb}
use lib.ListN.{length, get_or}
use Rattle.std.proofs.lemmas.List.{get_or_default}
use Rattle.std.specs.Prelude.{Option, Some, None, MatchOption}
use Rattle.std.specs.List.{list_all, range_with_len}
use Rattle.permutations.specs.Choice.{pick, eqb_same, eqb_other}
use Rattle.sheets.specs.declared.Zone.{Zone}
use Rattle.sheets.specs.Records.{fit_of, at}
use Rattle.sheets.specs.Sheets.{Sheets, Merge, none, into, merged, returned, merged_by, returned_by, sound}
use Rattle.sheets.specs.Notes.{merge_in, notes_in, record_at, sound_at, right_in, unfit_in, FitsOne, Fits}

abbrev pub both : List Zone → List Zone → Sheets
both s k = record { sheet = s; kept = k }

-- one turn less is left, at the next number
less : (e i : ℕ) → i < e → e - i ≡ suc (e - (i + 1))
less e i h = omega arith

-- ---- the record at a place

pub at_any : (s : List Zone) (i : ℕ) (past : Zone) → i < length s → get_or s i past ≡ at s i
at_any s i past h = get_or_default s i past _ h

-- ---- what is looked at

abbrev pub right_at : ℕ → List ℕ → Sheets → ℕ → Bool
right_at D w S i = eqb (get_or w i 0) D || sound (notes_in D w) S (get_or w i 0) (record_at D S i)

module _ (D : ℕ) (w : List ℕ) (S : Sheets) (e i : ℕ) where
  pub right_unseen : (l : ℕ) → i < e → l ≡ get_or w i 0 → l ≡ D → right_in D w S (e - i) i ≡ right_in D w S (e - (i + 1)) (i + 1)
  unfolding right_in sound_at
  right_unseen l h is_link unseen =
      let passed : eqb (get_or w i 0) D ≡ true = eqb_same (sym is_link ∙ unseen) in
      rw (less e i h, suc-eq-add-one i, passed) refl

module _ (D : ℕ) (w : List ℕ) (S : Sheets) where
  pub right_sound : (i : ℕ) → right_at D w S i ≡ sound_at D w S i
  unfolding sound_at
  right_sound i = one_way (eqb (get_or w i 0) D) _
    where
      one_way : (p q : Bool) → (p || q) ≡ pick p true q
      one_way true q = refl
      one_way false q = refl

  pub right_listed : (m i : ℕ) → list_all (right_at D w S) (range_with_len i m) ≡ right_in D w S m i
  unfolding right_in
  right_listed zero i = refl
  right_listed (suc m) i = rw (right_sound i, right_listed m (i + 1), suc-eq-add-one i) refl

-- ---- the first place whose record is not fit

abbrev pub unfit_at : ℕ → List ℕ → Sheets → ℕ → Bool
unfit_at D w S x = eqb (get_or w (2 * D + x) 0) x && not (fit_of (at S.sheet x))

module _ (D : ℕ) (w : List ℕ) (S : Sheets) where
  -- none from x on and below y is one
  abbrev Passed : ℕ → ℕ → Type 0
  Passed x y = (k : ℕ) → x ≤ k → k < y → unfit_at D w S k ≡ false

  -- of c places from x on, those below y are passed over
  unfit_passed : (m n x c y : ℕ) → c ≡ m + n → y ≡ x + m → Passed x y → unfit_in D w S c x ≡ unfit_in D w S n y
  unfolding unfit_in
  unfit_passed zero n x c y e f passed =
      let all : c ≡ n = omega arith in
      let here : y ≡ x = omega arith in
      rw (all, here) refl
  unfit_passed (suc m) n x c y e f passed =
      let rest = unfit_passed m n (suc x) (m + n) y refl (omega arith) (λ k h l. passed k (omega arith) l) in
      let more : c ≡ suc (m + n) = omega arith in
      rw (more, passed x (omega arith) (omega arith)) rest

  pub unfit_found : (r : Option ℕ)
      → MatchOption r (Passed 0 D) (λ i. (0 ≤ i) × (i < D) × (unfit_at D w S i ≡ true) × Passed 0 i)
      → MatchOption r (D ≡ unfit_in D w S D 0) (λ x. (x < D) × (x ≡ unfit_in D w S D 0))
  unfolding unfit_in
  unfit_found None passed = sym (unfit_passed D 0 0 D D (omega arith) (omega arith) passed)
  unfit_found (Some i) (h, l, is, passed) =
      let here = unfit_passed i (suc (D - i - 1)) 0 D i (omega arith) (omega arith) passed in
      (l, sym (rw is at here))

-- ---- the merges

pub note_none : (D : ℕ) (w : List ℕ) (t v : ℕ) → v ≡ get_or w (3 * D + D / 2 + t) 0 → v ≡ 0 → notes_in D w t ≡ none
unfolding notes_in merge_in
note_none D w t v is-note e = ap (λ (u : ℕ). merge_in u) (sym is-note ∙ e)

pub note_into : (D : ℕ) (w : List ℕ) (t v : ℕ) → v ≡ get_or w (3 * D + D / 2 + t) 0 → v ≢ 0 → notes_in D w t ≡ into (v / 65536) (v % 65536)
unfolding notes_in merge_in
note_into D w t v is-note other =
    ap (λ (u : ℕ). merge_in u) (sym is-note) ∙ ap (λ (b : Bool). pick b none (into (v / 65536) (v % 65536))) (eqb_other other)

module _ (ms : ℕ → Merge) (t m : ℕ) (S : Sheets) where
  pub merge_turn : t < m → merged_by ms t (m - t) S ≡ merged_by ms (t + 1) (m - (t + 1)) (merged (ms t) t S)
  unfolding merged_by
  merge_turn h = ap (λ (c : ℕ). merged_by ms t c S) (less m t h) ∙ ap (λ (u : ℕ). merged_by ms u (m - (t + 1)) (merged (ms t) t S)) (suc-eq-add-one t)

  pub fits_turn : t < m → Fits ms t (m - t) S → FitsOne (ms t) S × Fits ms (t + 1) (m - (t + 1)) (merged (ms t) t S)
  fits_turn h fits =
      let at_turn : Fits ms t (suc (m - (t + 1))) S = subst (λ (c : ℕ). Fits ms t c S) (less m t h) fits in
      (at_turn.0, subst (λ (u : ℕ). Fits ms u (m - (t + 1)) (merged (ms t) t S)) (suc-eq-add-one t) at_turn.1)

  pub merges_done : m ≤ t → merged_by ms t (m - t) S ≡ S
  unfolding merged_by
  merges_done h =
      let none_left : m - t ≡ 0 = omega arith in
      ap (λ (c : ℕ). merged_by ms t c S) none_left

-- ---- what is put back

module _ (ms : ℕ → Merge) (t m : ℕ) (S : Sheets) where
  pub back_turn : m < t → returned_by ms t (t - m) S ≡ returned_by ms (t - 1) (t - 1 - m) (returned (ms (t - 1)) (t - 1) S)
  unfolding returned_by
  back_turn h =
      let one_more : t - m ≡ suc (t - 1 - m) = omega arith in
      ap (λ (c : ℕ). returned_by ms t c S) one_more

  pub back_done : t ≤ m → returned_by ms t (t - m) S ≡ S
  unfolding returned_by
  back_done h =
      let none_left : t - m ≡ 0 = omega arith in
      ap (λ (c : ℕ). returned_by ms t c S) none_left
