-- "The total of stitches at any level equals the base's." (document 02, request Five), and "32 bits hold every sum of stitches".
--   stitches_figure  == stitches are added up where records are merged
--   total_stays      == the total over places stays, whatever is merged at two of them
--   total_level      == THE TOTAL AT ANY LEVEL EQUALS THE BASE'S
--   total_seen       == and so it is on the sheets as they stand
--   total_base       == the base's is at most 65,535 a dart
--   total_fits       == so that of given sheets fits 32 bits
--   places_fit       == where the total fits 32 bits, so does each merge at its turn
--   merges_fit       == MERGES OF GIVEN SHEETS FIT 32 BITS
--   pyramid_turns    == each contraction of a pyramid finds two places at its turn
--   pyramid_total    == so the total of stitches at any of its levels equals the base's
use mathlib.Core.Bool.{true, ◌&&◌}
use mathlib.Core.List.{List, [], ◌∷◌, ◌++◌, reverse}
use mathlib.Core.Path.{◌≡◌, refl, sym, ap, ◌∙◌}
use Prim.Native.Nat.{ℕ, suc, ◌+◌, ◌*◌, ◌^◌, ◌≤◌, ◌<◌}
use native.Mathlib.Decide.{ℕ_discrete}
use native.Mathlib.Omega.{arith}
use lib.Dec.{T, leb, leb→le}
use lib.ListN.{length}
use Rattle.permutations.specs.Choice.{pick, eqb_same, eqb_other, eqb_iff, and_left}
use Rattle.darts.specs.Operation.{Kind, contraction, removal, kind_of, edge_of}
use Rattle.darts.specs.State.{State}
use Rattle.darts.specs.Pyramid.{Pyramid}
use Rattle.sheets.specs.declared.Zone.{Zone}
use Rattle.sheets.specs.Records.{fit_of, at}
use Rattle.sheets.specs.Sheets.{Sheets, Merge, merged, merged_by}
use Rattle.sheets.specs.Notes.{FitsOne, Fits}
use Rattle.yarn.specs.Places.{lowest, is_place, zoned, places_after, zone_of, merge_by, merges}
use Rattle.yarn.specs.Given.{Looked, Fit, Given}
use Rattle.yarn.specs.Calls.{base_of}
use Rattle.yarn.specs.Totals.{summed, own, over, stitches_at, total}
use Rattle.yarn.proofs.Sums.{plus, both, sum_same, sum_bounded, two_within}
use Rattle.yarn.proofs.Settled.{Settled, low, high, zoned_settled, after_settled, lowest_settled}
use Rattle.yarn.proofs.Apart.{base_standing, base_apart, pyramid_inside}
use Rattle.yarn.proofs.Turns.{Turn, Turns, Two, turn_two, own_after, From, from_first, from_rest, from_start, from_on}
use Rattle.yarn.proofs.Turns.{turn_edge, turn_now, turns_rest, turns_first, turns_then}
use Rattle.yarn.proofs.Gathered.{Figure, merged_length, gathered_by, gathered_zoned}

-- "stitches add"
pub stitches_figure : Figure ◌+◌ 0 (λ (z : Zone). z.stitches)
stitches_figure = record { adds = plus; merges = λ a b. refl }

-- a test that picks all changes nothing
picked : (D : ℕ) (R : ℕ → ℕ) (S : Sheets) → summed ◌+◌ 0 (over (λ y. own R y && true) 0 (stitches_at S)) D ≡ total D R S
unfolding total
picked D R S = sum_same plus _ _ D (λ x h. ap (λ b. pick b (stitches_at S x) 0) (both.nothing (own R x)))

module _ {D : ℕ} {R : ℕ → ℕ} where
  -- the total looks at the places alone
  pub total_looked : (S Z : Sheets) → ((x : ℕ) → x < D → R x ≡ x → at S.sheet x ≡ at Z.sheet x) → total D R S ≡ total D R Z
  unfolding total
  total_looked S Z same = sum_same plus _ _ D (λ x h. go x h (ℕ_discrete (R x) x))
    where
      go : (x : ℕ) → x < D → Dec (R x ≡ x) → over (own R) 0 (stitches_at S) x ≡ over (own R) 0 (stitches_at Z) x
      go x h (yes e) = rw (eqb_same e) (ap (λ (z : Zone). z.stitches) (same x h e))
      go x h (no n) = rw (eqb_other n)

  total_bounded : (S : Sheets) (m : ℕ) → ((x : ℕ) → x < D → R x ≡ x → stitches_at S x ≤ m) → total D R S ≤ D * m
  unfolding total
  total_bounded S m few = sum_bounded _ m D (λ x h. go x h (ℕ_discrete (R x) x))
    where
      go : (x : ℕ) → x < D → Dec (R x ≡ x) → over (own R) 0 (stitches_at S) x ≤ m
      go x h (yes e) = rw (eqb_same e) (few x h e)
      go x h (no n) = rw (eqb_other n) (omega arith)

  -- TWO ZONES HAVE NO MORE STITCHES THAN ALL
  total_two : (S : Sheets) {low high : ℕ} → Two D R low high → stitches_at S low + stitches_at S high ≤ total D R S
  unfolding total
  total_two S {low} {high} two =
      rw (eqb_same two.low_own, eqb_same two.high_own) at
      (two_within (over (own R) 0 (stitches_at S)) low high D two.low_dart two.high_dart two.two)

  total_zoned : (k : Kind) (e : ℕ) → Settled D R → (k ≡ contraction → Turn D R e) → (t : ℕ) (S : Sheets) → D ≤ length S.sheet
      → total D (zoned k R e) (merged (merge_by k R e) t S) ≡ total D R S
  total_zoned k e Q turn t S long =
      sym (picked D _ _) ∙ gathered_zoned stitches_figure D k e Q turn t S long (λ x. true) (λ x y z. refl) ∙ picked D R S

  -- THE TOTAL STAYS
  pub total_stays : {ms : ℕ → Merge} {t : ℕ} (hs : List ℕ) → From ms t R hs → Settled D R → Turns D R hs → (S : Sheets) → D ≤ length S.sheet
      → total D (places_after R hs) (merged_by ms t (length hs) S) ≡ total D R S
  total_stays hs from Q A S long = sym (picked D _ _) ∙ gathered_by stitches_figure D hs from Q A S long (λ x. true) (λ x y z. refl) ∙ picked D R S

-- ---- 32 bits hold every sum of stitches

fits_one : {D : ℕ} {R : ℕ → ℕ} (k : Kind) (e : ℕ) → Settled D R → (k ≡ contraction → Turn D R e) → (S : Sheets) → total D R S < 2 ^ 32
    → FitsOne (merge_by k R e) S
unfolding merge_by
fits_one {D} {R} contraction e Q turn S small =
    let within : stitches_at S (low R e) + stitches_at S (high R e) ≤ total D R S = total_two S (turn_two Q (turn refl)) in
    omega (arith, within, small)
fits_one removal e Q turn S small = tt

-- WHERE THE TOTAL FITS, EACH MERGE DOES AT ITS TURN
pub places_fit : {D : ℕ} {ms : ℕ → Merge} {t : ℕ} {R : ℕ → ℕ} (hs : List ℕ) → From ms t R hs → Settled D R → Turns D R hs → (S : Sheets)
    → D ≤ length S.sheet → total D R S < 2 ^ 32 → Fits ms t (length hs) S
places_fit [] from Q A S long small = tt
places_fit {D} {ms} {t} {R} (h ∷ hs) from Q A S long small =
    let k = kind_of h in
    let e = edge_of h in
    let size : length (merged (ms t) t S).sheet ≡ length S.sheet = merged_length (ms t) t S in
    let same : total D (zoned k R e) (merged (ms t) t S) ≡ total D R S = rw (from_first from) (total_zoned k e Q (turn_now A) t S long) in (
      rw (from_first from) (fits_one k e Q (turn_now A) S small),
      places_fit {t = suc t} {R = zoned k R e} hs (from_rest from) (zoned_settled Q k e (turn_edge A)) (turns_rest A) (merged (ms t) t S) (omega arith) (rw same small),
    )

-- ---- the levels of a base b

module _ (D : ℕ) (b : List ℕ) (Q : Settled D (lowest D b)) where
  -- THE TOTAL OF STITCHES AT ANY LEVEL EQUALS THE BASE'S
  pub total_level : (hs : List ℕ) → Turns D (lowest D b) hs → (S : Sheets) → D ≤ length S.sheet
      → total D (zone_of D b hs) (merged_by (merges D b hs) 0 (length hs) S) ≡ total D (lowest D b) S
  unfolding zone_of merges
  total_level hs A S long = total_stays hs (from_start (lowest D b) hs) Q A S long

  place : (x : ℕ) → lowest D b x ≡ x → T (is_place D b x)
  unfolding is_place
  place x e = (eqb_iff (lowest D b x) x).1 e

  -- of sheets S that look like what the operations give of the sheets F, too
  pub total_seen : (hs : List ℕ) → Turns D (lowest D b) hs → (F S : Sheets) → D ≤ length F.sheet
      → Looked D b hs (merged_by (merges D b hs) 0 (length hs) F) S → total D (zone_of D b hs) S ≡ total D (lowest D b) F
  unfolding zone_of
  total_seen hs A F S long σ =
      total_looked S _ (λ x h e. sym (σ.sheet x h (place x (own_after Q hs x h e)))) ∙ total_level hs A F long

  -- "stitches, up to 65,535"
  pub total_base : {S : Sheets} → Fit D b S → total D (lowest D b) S ≤ D * 65535
  total_base {S} F = total_bounded S 65535 (λ x h e. few (at S.sheet x) (F.each x h (place x e)))
    where
      few : (z : Zone) → T (fit_of z) → z.stitches ≤ 65535
      few z h = leb→le _ _ (and_left (leb z.stitches 65535) _ h)

  -- "32 bits hold every sum of stitches": THE TOTAL OF GIVEN SHEETS FITS
  pub total_fits : D ≤ 65536 → (hs : List ℕ) → Turns D (lowest D b) hs → {S : Sheets} → Given D b hs S → total D (zone_of D b hs) S < 2 ^ 32
  total_fits small hs A {S} G =
      let level = total_seen hs A G.first S G.long G.looked in
      let most = total_base G.fit in
      omega arith

  -- AND SO DO MERGES OF GIVEN SHEETS, each at its turn
  pub merges_fit : D ≤ 65536 → (hs new : List ℕ) → Turns D (lowest D b) (hs ++ new) → {S : Sheets} → Given D b hs S → D ≤ length S.sheet
      → Fits (merges D b (hs ++ new)) (length hs) (length new) S
  unfolding merges zone_of
  merges_fit small hs new A {S} G long =
      let first = turns_first D (lowest D b) hs new A in
      places_fit new (from_on (lowest D b) hs new) (after_settled hs Q first.inside) (turns_then D (lowest D b) hs new A) S long
      (total_fits small hs first G)

-- ---- the levels of a pyramid

module _ {s : State} {t past : List ℕ} (P : Pyramid s t past) where
  abbrev base : List ℕ
  base = base_of s t past

  -- each contraction of a pyramid finds two places at its turn
  pub pyramid_turns : Turns s.darts (lowest s.darts base) (reverse past)
  pyramid_turns = record { inside = pyramid_inside P; apart = base_apart P }

  -- THE TOTAL OF STITCHES AT ANY LEVEL EQUALS THE BASE'S: hs are the operations up to that level
  pub pyramid_total : (hs more : List ℕ) → reverse past ≡ hs ++ more → (S : Sheets) → s.darts ≤ length S.sheet
      → total s.darts (zone_of s.darts base hs) (merged_by (merges s.darts base hs) 0 (length hs) S) ≡ total s.darts (lowest s.darts base) S
  pyramid_total hs more e =
      total_level s.darts base (lowest_settled (base_standing P)) hs
      (turns_first s.darts (lowest s.darts base) hs more (rw e at pyramid_turns))
