-- Unfolding with sheets: what the contractions above a level kept is put back.
--   operations_lowered == one level less has at a lower level as many operations
--   unfolded_count     == so many operations there are at that level
--   unfold_noted       == the notes of the operations above it lead to places of the sheets
--   unfolded_sheets    == what is put back by the notes is what unfolding gives
--   with_unfold        == unfolding, once it is judged
--   undo_with_lem      == undo is unfold to the level below
use mathlib.Core.List.{List, reverse}
use mathlib.Core.Logic.{◌≢◌}
use mathlib.Core.Path.{◌≡◌, refl, sym, ap, ap₂, ◌∙◌}
use Prim.Native.Nat.{ℕ, zero, suc, ◌+◌, ◌-◌, ◌/◌, ◌≤◌, ◌<◌}
use native.Mathlib.Decide.{ℕ_discrete, dec_le}
use native.Mathlib.Omega.{arith}
use borrow.Author.Tests.{le-leb, lt-leb, eq-eqb, ne_eqb, le-ltb}
use lib.Dec.{eqb}
use lib.ListN.{length, length-reverse, length-append}
use lib.Seq.{get_or-set_other}
use Rattle.permutations.specs.Choice.{pick}
use Rattle.darts.specs.Answers.{Answer}
use Rattle.darts.specs.State.{State, Result, gives, refuses}
use Rattle.darts.specs.Levels.{end_below, lowered, undo_level, undo_levels, unfold_to}
use Rattle.darts.specs.Pyramid.{Pyramid}
use Rattle.darts.specs.Calls.{After, table_of, past_of, unfold_by}
use Rattle.laws.proofs.runs.Pyramids.{pyramid_built}
use Rattle.laws.proofs.runs.Results.{refuses≢gives, then, same_result}
use Rattle.laws.proofs.runs.Undo.{unfold_pyramid, undo_is_unfold}
use Rattle.laws.proofs.chained.Steps.{unfold_undoes}
use Rattle.sheets.specs.Sheets.{Sheets, Merge, returned_by}
use Rattle.sheets.specs.Notes.{notes_in, Noted}
use Rattle.yarn.specs.Places.{merges}
use Rattle.yarn.specs.Calls.{costed, base_of, carried_to, sheets_after, on_sheets, undo_with, unfold_with}
use Rattle.yarn.proofs.Agree.{First, returned_same}
use Rattle.yarn.proofs.Apart.{base_apart, base_standing, pyramid_inside}
use Rattle.yarn.proofs.Moved.{Grown, undos_grown, carried_shrunk}
use Rattle.yarn.proofs.Noted.{noted_within}
use Rattle.yarn.proofs.Untouched.{base_merging}
use Rattle.pyramid.specs.Costs.{StoodWith, JudgedWith, operations_at, merges_for, unsettled_costs}
use Rattle.pyramid.specs.Values.{unsettled}
use Rattle.pyramid.proofs.BackInside.{plain_unfold}
use Rattle.pyramid.proofs.Judges.{lent_of}
use Rattle.pyramid.proofs.Making.{within_merging}
use Rattle.pyramid.proofs.OnSheets.{with_done}

-- ---- how many operations a level has

operations_lowered : (k : ℕ) (s : State) (t past : List ℕ) → k < s.levels → operations_at k (lowered s t past) ≡ operations_at k s
unfolding operations_at lowered end_below
operations_lowered k s t past h = go (ℕ_discrete k (s.levels - 1)) (ℕ_discrete k 0)
  where
    go : Dec (k ≡ s.levels - 1) → Dec (k ≡ 0) → operations_at k (lowered s t past) ≡ operations_at k s
    go (yes e) (yes z) = rw (le-leb (s.levels - 1) k (omega arith), lt-leb s.levels k h, eq-eqb k 0 z, le-leb s.levels 1 (omega arith))
    go (yes e) (no n) =
        let i : s.levels - 2 ≡ k - 1 = omega arith in
        rw (le-leb (s.levels - 1) k (omega arith), lt-leb s.levels k h, ne_eqb k 0 n, lt-leb s.levels 1 (omega arith), i)
    go (no m) (yes z) = rw (lt-leb (s.levels - 1) k (omega arith), lt-leb s.levels k h, eq-eqb k 0 z)
    go (no m) (no n) =
        rw (lt-leb (s.levels - 1) k (omega arith), lt-leb s.levels k h, ne_eqb k 0 n)
        (get_or-set_other s.ends (s.levels - 1) (k - 1) 0 0 (λ e. omega arith))

at_top : (k : ℕ) (s : State) → s.levels ≤ k → operations_at k s ≡ s.operations
unfolding operations_at
at_top k s h = rw (le-leb s.levels k h)

-- undo gives the level below
lowers : (s : State) (t past : List ℕ) {z : State} {u new : List ℕ} → undo_level s t past ≡ gives z u new → (0 < s.levels) × (z ≡ lowered s u new)
unfolding undo_level
lowers s t past {z} {u} {new} e = go (ℕ_discrete s.levels 0)
  where
    go : Dec (s.levels ≡ 0) → (0 < s.levels) × (z ≡ lowered s u new)
    go (yes h) = absurd (refuses≢gives (rw h at e))
    go (no n) = (omega arith, same_result (λ z u new. z ≡ lowered s u new) (rw (ne_eqb s.levels 0 n) at e) refl)

undos_count : (j k : ℕ) (s : State) (t past : List ℕ) {z : State} {u new : List ℕ} → j + k ≡ s.levels → undo_levels j s t past ≡ gives z u new
    → z.operations ≡ operations_at k s
unfolding undo_levels lowered
undos_count zero k s t past l e = same_result (λ z u new. z.operations ≡ operations_at k s) e (sym (at_top k s (omega arith)))
undos_count (suc j) k s t past l e =
    let first = then (undo_level s t past) (undo_levels j) e in
    let (some, is) = lowers s t past first.first in
    let below : j + k ≡ (lowered s first.table first.past).levels = omega arith in
    undos_count j k first.state first.table first.past (below ∙ ap (λ (y : State). y.levels) (sym is)) first.next
    ∙ ap (operations_at k) is ∙ operations_lowered k s first.table first.past (omega arith)

module _ {s : State} {t past : List ℕ} (P : Pyramid s t past) (k : ℕ) {z : State} {u new : List ℕ} (e : unfold_to k s t past ≡ gives z u new) where
  pub unfolded_count : length new ≡ operations_at k s
  unfolded_count =
      let (l, undone) = unfold_undoes k s t past e in
      sym (pyramid_built (unfold_pyramid P k e)).layered.count ∙ undos_count (s.levels - k) k s t past (omega arith) undone

-- a pyramid has each level that is not above its top
levels_there : (j : ℕ) (s : State) (t past : List ℕ) {a : Answer} → j ≤ s.levels → undo_levels j s t past ≡ refuses a → ⊥
unfolding undo_levels undo_level lowered
levels_there zero s t past l e = refuses≢gives (sym e)
levels_there (suc j) s t past l e =
    let n : s.levels ≢ 0 = λ z. omega arith in
    levels_there j (lowered s _ _) _ _ (omega arith) (rw (ne_eqb s.levels 0 n) at e)

unfold_reaches : {s : State} {t past : List ℕ} → Pyramid s t past → (k : ℕ) → k ≤ s.levels → {a : Answer} → unfold_to k s t past ≡ refuses a → ⊥
unfolding unfold_to
unfold_reaches {s} {t} {past} P k l e = levels_there (s.levels - k) s t past (omega arith) (rw (le-ltb s.levels k l) at e)

-- ---- what is put back

module _ {s : State} {t h w : List ℕ} (Z : StoodWith s t h w) (k : ℕ) where
  abbrev D : ℕ
  D = s.darts

  abbrev n : ℕ
  n = s.operations

  abbrev past : List ℕ
  past = past_of s h

  abbrev ms : ℕ → Merge
  ms = merges_for s t h

  P : Pyramid s (table_of s t) past
  P = (lent_of Z.stood refl).pyramid

  past_count : length past ≡ n
  past_count = sym (pyramid_built P).layered.count

  noted : First (notes_in D w) ms n
  noted = record { same = Z.notes }

  few : n ≤ D / 2
  few = ((Z.stood.checked refl).area refl).few

  -- where the level is reached
  module _ {z : State} {u new : List ℕ} (e : unfold_to k s (table_of s t) past ≡ gives z u new) where
    shrunk : Grown new past
    shrunk = undos_grown (s.levels - k) s (table_of s t) past (unfold_undoes k s (table_of s t) past e).1

    more_count : length shrunk.more ≡ n - operations_at k s
    more_count =
        let a = ap length shrunk.grown ∙ length-append (reverse new) shrunk.more in
        let c = unfolded_count P k e in
        omega (arith, length-reverse past, length-reverse new, past_count)

    reached_below : operations_at k s ≤ n
    reached_below =
        let a = ap length shrunk.grown ∙ length-append (reverse new) shrunk.more in
        let c = unfolded_count P k e in
        omega (arith, length-reverse past, length-reverse new, past_count)

    carried_back : (S : Sheets) → carried_to D (base_of s (table_of s t) past) past new S ≡ returned_by ms n (n - operations_at k s) S
    carried_back S =
        carried_shrunk shrunk D (base_of s (table_of s t) past) S
        ∙ ap (λ l. returned_by (merges D (base_of s (table_of s t) past) l) (length l) (length shrunk.more) S) (sym shrunk.grown)
        ∙ ap₂ (λ i c. returned_by ms i c S) (length-reverse past ∙ past_count) more_count

  -- at the top, or above it, nothing is put back
  none_back : s.levels ≤ k → (f : ℕ → Merge) (S : Sheets) → returned_by f n (n - operations_at k s) S ≡ S
  unfolding returned_by
  none_back l f S = let z : n - operations_at k s ≡ 0 = omega (arith, at_top k s l) in rw z

  below_of : (r : Result) → unfold_to k s (table_of s t) past ≡ r → operations_at k s ≤ n
  below_of (gives z u new) e = reached_below e
  below_of (refuses a) e = go (dec_le k s.levels)
    where
      go : Dec (k ≤ s.levels) → operations_at k s ≤ n
      go (no m) = omega (arith, at_top k s (omega arith))
      go (yes l) = absurd (unfold_reaches P k l e)

  pub operations_below : operations_at k s ≤ n
  operations_below = below_of (unfold_to k s (table_of s t) past) refl

  pub unfold_noted : Noted D (operations_at k s) n w
  unfold_noted =
      let R = ((Z.stood.checked refl).area refl).room in
      noted_within ms R.some R.small operations_below few R.fits (λ i _ l. Z.notes i l)
      (λ i _ l. within_merging (base_merging (base_standing P) (reverse past) (pyramid_inside P) (base_apart P)) i (omega (arith, length-reverse past, past_count)))

  after : (S : Sheets) (r : Result) → unfold_to k s (table_of s t) past ≡ r
      → returned_by (notes_in D w) n (n - operations_at k s) S ≡ sheets_after s (table_of s t) past S r
  unfolding sheets_after
  after S (gives z u new) e =
      let l = reached_below e in
      returned_same noted n (n - operations_at k s) (omega arith) (omega arith) S ∙ sym (carried_back e S)
  after S (refuses a) e = go (dec_le k s.levels)
    where
      go : Dec (k ≤ s.levels) → returned_by (notes_in D w) n (n - operations_at k s) S ≡ S
      go (no m) = none_back (omega arith) (notes_in D w) S
      go (yes l) = absurd (unfold_reaches P k l e)

  -- WHAT IS PUT BACK BY THE NOTES IS WHAT UNFOLDING GIVES
  pub unfolded_sheets : (S : Sheets) → returned_by (notes_in D w) n (n - operations_at k s) S
      ≡ sheets_after s (table_of s t) past S (unfold_to k s (table_of s t) past)
  unfolded_sheets S = after S (unfold_to k s (table_of s t) past) refl

pub with_unfold : (k : ℕ) {s : State} {t h w v : List ℕ} {S : Sheets} {a : Answer} → JudgedWith s t h w v S a → a.number ≡ 0
    → {m : ℕ} → m ≡ operations_at k s → {x : After} → x ≡ unsettled (unfold_by k s t h v)
    → {Z : Sheets} → returned_by (notes_in s.darts v) s.operations (s.operations - m) S ≡ Z → costed x Z ≡ unsettled_costs (unfold_with k s t h w S)
unfolding unfold_by unfold_with
with_unfold k {S = S} J fine at e back =
    with_done (unfold_to k) J fine (plain_unfold _ _ _ _) e (sym back ∙ rw at (unfolded_sheets (J.stood fine) k S))

pub undo_with_lem : {k : ℕ} (s : State) (t h w : List ℕ) (S : Sheets) → k ≡ pick (eqb s.levels 0) 1 (s.levels - 1) → unfold_with k s t h w S ≡ undo_with s t h w S
unfolding unfold_with undo_with on_sheets
undo_with_lem s t h w S e = rw (e, ← (undo_is_unfold s (table_of s t) (past_of s h)))
