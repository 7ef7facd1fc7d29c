-- What zones have together, operation by operation: a figure of records that is added up where two are merged, as stitches are by _+_, and as being measured
-- is by _&&_.
--   Figure add unit v  == v is such a figure
--   figure_at v S x     == the figure of the record at x
--   gathered_by        == over all places that a test picks which cannot tell zones apart that are joined, the figure stays
--   gathered_at        == a zone's figure at the end is that of all zones which went into it
use mathlib.Core.Bool.{Bool, true, false, ◌&&◌}
use mathlib.Core.List.{List, [], ◌∷◌}
use mathlib.Core.Logic.{◌≢◌}
use mathlib.Core.Path.{◌≡◌, refl, sym, ap, ◌∙◌}
use Prim.Native.Nat.{ℕ, suc, ◌≤◌, ◌<◌}
use native.Mathlib.Decide.{ℕ_discrete}
use native.Mathlib.Omega.{arith}
use lib.Dec.{eqb}
use lib.ListN.{length, length-set}
use lib.Seq.{get_or-set_same, get_or-set_other}
use Rattle.permutations.specs.Choice.{pick, eqb_same, eqb_other}
use Rattle.darts.specs.Operation.{Kind, contraction, removal, kind_of, edge_of}
use Rattle.sheets.specs.declared.Zone.{Zone}
use Rattle.sheets.specs.Records.{merge_of, at}
use Rattle.sheets.specs.Sheets.{Sheets, Merge, none, into, merged, merged_by}
use Rattle.yarn.specs.Places.{joins, zoned, places_after, merge_by}
use Rattle.yarn.specs.Totals.{summed, own, over, went_to}
use Rattle.yarn.proofs.Sums.{Adds, sum_moved, sum_one}
use Rattle.yarn.proofs.Settled.{Settled, low, high, zoned_settled}
use Rattle.yarn.proofs.Turns.{Turn, Turns, Two, turn_two, low_stays, high_goes, own_stays, high_left, together_after, From, from_first, from_rest}
use Rattle.yarn.proofs.Turns.{turn_edge, turn_now, turns_rest}

pub record Figure {A : Type 0} (add : A → A → A) (unit : A) (v : Zone → A) : Type 0 where
  pub adds : Adds add unit
  pub merges : (a b : Zone) → v (merge_of a b) ≡ add (v a) (v b)

abbrev pub figure_at : {A : Type 0} → (Zone → A) → Sheets → ℕ → A
figure_at v S x = v (at S.sheet x)

-- ---- the sheet keeps its length

pub merged_length : (m : Merge) (t : ℕ) (S : Sheets) → length (merged m t S).sheet ≡ length S.sheet
unfolding merged
merged_length none t S = refl
merged_length (into low _) t S = length-set S.sheet low _

module _ {A : Type 0} {add : A → A → A} {unit : A} {v : Zone → A} (F : Figure add unit v) (D : ℕ) where
  -- the figure, over the places R that p picks
  abbrev over_picked : (ℕ → ℕ) → (ℕ → Bool) → Sheets → ℕ → A
  over_picked R p S = over (λ y. own R y && p y) unit (figure_at v S)

  abbrev gathered : (ℕ → ℕ) → (ℕ → Bool) → Sheets → A
  gathered R p S = summed add unit (over_picked R p S) D

  -- ---- one operation

  module _ {R : ℕ → ℕ} {e : ℕ} (Q : Settled D R) (turn : Turn D R e) (t : ℕ) (S : Sheets)
      (long : D ≤ length S.sheet) (p : ℕ → Bool) (alike : p (low R e) ≡ p (high R e)) where
    abbrev after : Sheets
    after = merged (into (low R e) (high R e)) t S

    abbrev two : Two D R (low R e) (high R e)
    two = turn_two Q turn

    low_record : figure_at v after (low R e) ≡ add (figure_at v S (low R e)) (figure_at v S (high R e))
    unfolding merged
    low_record = ap v (get_or-set_same S.sheet (low R e) _ _ (omega (arith, two.low_dart))) ∙ F.merges _ _

    other_record : (x : ℕ) → x ≢ low R e → figure_at v after x ≡ figure_at v S x
    unfolding merged
    other_record x n = ap v (get_or-set_other S.sheet (low R e) x _ _ n)

    at_low : over_picked (joins R e) p after (low R e) ≡ add (over_picked R p S (low R e)) (over_picked R p S (high R e))
    at_low =
        let l : own R (low R e) ≡ true = eqb_same two.low_own in
        let k : own R (high R e) ≡ true = eqb_same two.high_own in
        let m : own (joins R e) (low R e) ≡ true = eqb_same (low_stays Q turn) in
        rw (m, l, k, ← alike) (go (p (low R e)))
      where
        go : (b : Bool) → pick b (figure_at v after (low R e)) unit ≡ add (pick b (figure_at v S (low R e)) unit) (pick b (figure_at v S (high R e)) unit)
        go true = low_record
        go false = sym (F.adds.nothing unit)

    at_high : over_picked (joins R e) p after (high R e) ≡ unit
    at_high = rw (high_left Q turn)

    elsewhere : (x : ℕ) → x < D → x ≢ low R e → x ≢ high R e → over_picked (joins R e) p after x ≡ over_picked R p S x
    elsewhere x h n m = rw (own_stays Q turn x m, other_record x n)

    gathered_merged : gathered (joins R e) p after ≡ gathered R p S
    gathered_merged = sum_moved F.adds _ _ (low R e) (high R e) D two.low_dart two.high_dart two.two at_low at_high elsewhere

  pub gathered_zoned : {R : ℕ → ℕ} (k : Kind) (e : ℕ) → Settled D R → (k ≡ contraction → Turn D R e)
      → (t : ℕ) (S : Sheets) → D ≤ length S.sheet → (p : ℕ → Bool) → ((x y : ℕ) → zoned k R e x ≡ zoned k R e y → p x ≡ p y)
      → gathered (zoned k R e) p (merged (merge_by k R e) t S) ≡ gathered R p S
  unfolding zoned merge_by merged
  gathered_zoned {R} contraction e Q turn t S long p alike =
      let same = low_stays Q (turn refl) ∙ sym (high_goes Q (turn refl)) in
      gathered_merged Q (turn refl) t S long p (alike (low R e) (high R e) same)
  gathered_zoned removal e Q turn t S long p alike = refl

  -- ---- many

  -- OVER THE PLACES THAT p PICKS THE FIGURE STAYS, where p cannot tell darts apart that have one place in the end
  pub gathered_by : {ms : ℕ → Merge} {t : ℕ} {R : ℕ → ℕ} (hs : List ℕ) → From ms t R hs → Settled D R → Turns D R hs → (S : Sheets) → D ≤ length S.sheet
      → (p : ℕ → Bool) → ((x y : ℕ) → places_after R hs x ≡ places_after R hs y → p x ≡ p y)
      → gathered (places_after R hs) p (merged_by ms t (length hs) S) ≡ gathered R p S
  unfolding places_after merged_by
  gathered_by [] from Q A S long p alike = refl
  gathered_by {ms} {t} {R} (h ∷ hs) from Q A S long p alike =
      let k = kind_of h in
      let e = edge_of h in
      let next = merged (ms t) t S in
      let size : length next.sheet ≡ length S.sheet = merged_length (ms t) t S in
      gathered_by {t = suc t} {R = zoned k R e} hs (from_rest from) (zoned_settled Q k e (turn_edge A)) (turns_rest A) next (omega arith) p alike
      ∙ rw (from_first from) (gathered_zoned k e Q (turn_now A) t S long p (λ x y z. alike x y (together_after (zoned k R e) hs x y z)))

  -- A ZONE'S FIGURE IS THAT OF ALL ZONES WHICH WENT INTO IT
  pub gathered_at : {ms : ℕ → Merge} {t : ℕ} {R : ℕ → ℕ} (hs : List ℕ) → From ms t R hs → Settled D R → Turns D R hs → (S : Sheets) → D ≤ length S.sheet
      → (x : ℕ) → x < D → places_after R hs x ≡ x
      → figure_at v (merged_by ms t (length hs) S) x ≡ summed add unit (over (went_to R (places_after R hs) x) unit (figure_at v S)) D
  gathered_at {ms} {t} {R} hs from Q A S long x h e =
      sym (sum_one F.adds _ x D h others ∙ rw (eqb_same e))
      ∙ gathered_by hs from Q A S long (λ y. eqb (places_after R hs y) x) (λ y z k. ap (λ w. eqb w x) k)
    where
      others : (y : ℕ) → y < D → y ≢ x → over_picked (places_after R hs) (λ y. eqb (places_after R hs y) x) (merged_by ms t (length hs) S) y ≡ unit
      others y l n = go (ℕ_discrete (places_after R hs y) y)
        where
          go : Dec (places_after R hs y ≡ y)
              → over_picked (places_after R hs) (λ y. eqb (places_after R hs y) x) (merged_by ms t (length hs) S) y ≡ unit
          go (yes z) =
              let away : eqb (places_after R hs y) x ≡ false = eqb_other (λ w. n (sym z ∙ w)) in
              rw (eqb_same z) (rw away)
          go (no z) = rw (eqb_other z)
