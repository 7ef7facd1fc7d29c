-- "Demand 3 covers, for each zone at the end, stitches and whether yarn is measured; the last bits of metres depend on the order and are left out of it."
-- (document 02, request Five), as calls that are lent both sheets.
--   BasedWith D b F y     == y is done, and leaves the base b of D darts, lent with room, and sheets whose base records are those of F
--   based_with            == what it takes; begun_based, unfolded_based == so does an accepted start, and unfold to level 0
--   told_past             == the operations that the history which a leaves tells
--   ZonesAs D b hs F y    == y leaves the zones that merging the records of F by the operations hs gives: each with the same place and stitches, and
--                            measured or not alike
--   ZonesAlike D b a y    == y leaves the zones that a leaves, in the same sense
--   EndsAs D b F u past cs y == the calls cs from y on are accepted, and end as the table u and its past do, as plain calls and in their zones
--   EndsAlike D b a cs y  == the same of the end a
--   list_by_calls         == kernels that hold the operations of an accepted list, in any order, end as the list does
--   history_by_calls      == and those that a history tells, whatever accepted calls left it
--   any_order_of_calls    == and those of accepted kernels and sweeps
--   list_from_start       == an accepted list, from an accepted start on
--   any_order_by_calls    == kernels alone, from start to start
use mathlib.Core.List.{List, [], map, reverse, reverse-reverse, Permᴰ}
use mathlib.Core.Path.{◌≡◌, refl, sym, ap, ◌∙◌, subst}
use Prim.Native.Nat.{ℕ, ◌/◌, ◌≤◌, ◌<◌}
use native.Mathlib.Omega.{arith}
use lib.Dec.{T}
use lib.ListN.{length, take}
use Rattle.permutations.specs.Choice.{eqb_iff}
use Rattle.darts.specs.Operation.{undone}
use Rattle.darts.specs.Kernel.{Operation, stands}
use Rattle.darts.specs.State.{State}
use Rattle.darts.specs.Pyramid.{Kernel}
use Rattle.darts.specs.Calls.{After, table_of, past_of, start}
use Rattle.darts.specs.OneByOne.{one_by_one, operation_of, operations_of, NoneEmpty}
use Rattle.laws.specs.Standing.{Standing}
use Rattle.laws.proofs.Lists.{Each}
use Rattle.laws.proofs.chained.OnLent.{Call, to_level}
use Rattle.laws.proofs.chained.Based.{Based, start_based}
use Rattle.laws.proofs.chained.Chains.{calls, AllDone as PlainDone}
use Rattle.laws.proofs.chained.AnyOrder.{kernels, Rises, operations_by, operations_in, based_told, kernels_rise, kernels_told}
use Rattle.laws.proofs.chained.AnyOrder as Plain
use Rattle.sheets.specs.declared.Zone.{Zone}
use Rattle.sheets.specs.Records.{measured, at}
use Rattle.sheets.specs.Sheets.{Sheets, merged_by}
use Rattle.yarn.specs.Places.{lowest, is_place, zone_of}
use Rattle.yarn.specs.Given.{Looked}
use Rattle.yarn.specs.Totals.{stitches_at, measured_at}
use Rattle.yarn.specs.Calls.{Costed, base_of, start_with}
use Rattle.yarn.proofs.CalledWith.{LentBy, past_by, with_left}
use Rattle.yarn.proofs.ChainedWith.{call_with, calls_with, AllDone, done_plain, plain_done, Above, above_standing, above_turns, above_calls}
use Rattle.yarn.proofs.StartWith.{Begun, begun_lent, start_begun}
use Rattle.yarn.proofs.GroundWith.{start_then_unfold}
use Rattle.yarn.proofs.Redone.{Long}
use Rattle.yarn.proofs.Settled.{lowest_settled}
use Rattle.yarn.proofs.Turns.{Turns, own_after}
use Rattle.yarn.proofs.Listed.{listed_turns, listed_told}
use Rattle.yarn.proofs.AnyOrder.{laid_out, zones_any_order}

-- ---- a base with its records

pub record BasedWith (D : ℕ) (b : List ℕ) (F : Sheets) (y : Costed) : Type 0 where
  pub plain : Based D b y.plain
  pub above : Above D b F y

-- A BASE, GIVEN SHEETS, AND THE BASE RECORDS OF F ON THEM
pub based_with : {D : ℕ} {b : List ℕ} {F : Sheets} {y : Costed} → Based D b y.plain → LentBy y → Looked D b [] F y.sheets → BasedWith D b F y
unfolding merged_by base_of undone table_of past_of
based_with {D} {b} {F} {y} B L looks =
    let none : past_by y ≡ [] = ap (λ (s : State). past_of s y.plain.history) B.state in
    record {
      plain = B;
      above = record {
        darts = ap (λ (s : State). s.darts) B.state;
        base = rw B.state B.table;
        lent = L;
        looked = rw none looks;
      };
    }

-- A START THAT IS ACCEPTED ON THE BASE b, with such sheets
pub begun_based : {D : ℕ} {t h w : List ℕ} {S : Sheets} {y : Costed} → Begun D t h w S y → {b : List ℕ} {F : Sheets} → take D t ≡ b → Looked D b [] F S
    → BasedWith D b F y
begun_based {D} {t} {h} {w} {S} {y} G {b} same looks =
    based_with (rw G.plain (subst (λ b. Based D b (start D t h w)) same (start_based D t h w G.accepted))) (begun_lent G) (rw G.sheets looks)

-- AND UNFOLD TO LEVEL 0, whatever calls were accepted after a start
pub unfolded_based : (D : ℕ) (t h w : List ℕ) (S : Sheets) (cs : List Call) → (start_with D t h w S).plain.answer.number ≡ 0 → AllDone cs (start_with D t h w S)
    → BasedWith D (take D t) S (call_with (to_level 0) (calls_with cs (start_with D t h w S)))
unfolded_based D t h w S cs e d =
    let a = calls_with cs (start_with D t h w S) in
    let R = start_then_unfold D t h w S cs e d in
    let zero : (call_with (to_level 0) a).plain.answer.number ≡ 0 = rw R.plain.answer refl in
    let L = (with_left (to_level 0) a.plain.state a.plain.table a.plain.history a.plain.work a.sheets zero).lent in
    based_with (record { answer = zero; state = R.plain.state; table = ap (take D) R.plain.table; lent = L.lent }) L
    (record { sheet = λ x n p. ap (λ s. at s x) (sym R.sheet); kept = λ i n k. absurd (omega arith) })

told_past : (a : Costed) → map operation_of (reverse (past_by a)) ≡ operations_in a.plain
unfolding past_of
told_past a = ap (map operation_of) (reverse-reverse (take a.plain.state.operations a.plain.history))

-- ---- zones at the end

pub record ZonesAs (D : ℕ) (b hs : List ℕ) (F : Sheets) (y : Costed) : Type 0 where
  pub places : zone_of D b (reverse (past_by y)) ≡ zone_of D b hs
  pub stitches : (x : ℕ) → x < D → zone_of D b hs x ≡ x → stitches_at y.sheets x ≡ stitches_at (laid_out D b hs F) x
  pub measured : (x : ℕ) → x < D → zone_of D b hs x ≡ x → measured_at y.sheets x ≡ measured_at (laid_out D b hs F) x

-- two ends over one base: "for each zone at the end, stitches and whether yarn is measured"
pub record ZonesAlike (D : ℕ) (b : List ℕ) (a y : Costed) : Type 0 where
  pub places : zone_of D b (reverse (past_by y)) ≡ zone_of D b (reverse (past_by a))
  pub stitches : (x : ℕ) → x < D → zone_of D b (reverse (past_by a)) x ≡ x → stitches_at y.sheets x ≡ stitches_at a.sheets x
  pub measured : (x : ℕ) → x < D → zone_of D b (reverse (past_by a)) x ≡ x → measured_at y.sheets x ≡ measured_at a.sheets x

-- a zone's place is one of the base's
own_place : {D : ℕ} {b : List ℕ} → Standing D b [] → (hs : List ℕ) (x : ℕ) → x < D → zone_of D b hs x ≡ x → T (is_place D b x)
unfolding zone_of is_place
own_place {D} {b} B hs x d own = (eqb_iff (lowest D b x) x).1 (own_after (lowest_settled B) hs x d own)

module _ {D : ℕ} {b : List ℕ} {F : Sheets} (long : D ≤ length F.sheet) {y : Costed} (Y : Above D b F y) where
  zones_as : (hs : List ℕ) → Turns D (lowest D b) hs → Permᴰ (map operation_of hs) (map operation_of (reverse (past_by y))) → ZonesAs D b hs F y
  zones_as hs A rearranged =
      let B = above_standing Y in
      let Z = zones_any_order B hs (reverse (past_by y)) A (above_turns Y) rearranged F long in
      record {
        places = Z.places;
        stitches = λ x d own. ap (λ (z : Zone). z.stitches) (sym (Y.looked.sheet x d (own_place B hs x d own))) ∙ Z.stitches x d own;
        measured = λ x d own. ap measured (sym (Y.looked.sheet x d (own_place B hs x d own))) ∙ Z.measured x d own;
      }

  zones_alike : {a : Costed} → Above D b F a → Permᴰ (map operation_of (reverse (past_by a))) (map operation_of (reverse (past_by y))) → ZonesAlike D b a y
  zones_alike {a} A rearranged =
      let Z = zones_as (reverse (past_by a)) (above_turns A) rearranged in
      let place = own_place (above_standing A) (reverse (past_by a)) in
      record {
        places = Z.places;
        stitches = λ x d own. Z.stitches x d own ∙ ap (λ (z : Zone). z.stitches) (A.looked.sheet x d (place x d own));
        measured = λ x d own. Z.measured x d own ∙ ap measured (A.looked.sheet x d (place x d own));
      }

-- ---- how calls end

pub record EndsAs (D : ℕ) (b : List ℕ) (F : Sheets) (u past : List ℕ) (cs : List Call) (y : Costed) : Type 0 where
  pub accepted : AllDone cs y
  -- they leave what the plain calls leave
  pub same : (calls_with cs y).plain ≡ calls cs y.plain
  -- the same darts survive, with the same successors, and the state stores their numbers
  pub plain : Plain.EndsAs D u past cs y.plain
  pub zones : ZonesAs D b (reverse past) F (calls_with cs y)

pub record EndsAlike (D : ℕ) (b : List ℕ) (a : Costed) (cs : List Call) (y : Costed) : Type 0 where
  pub accepted : AllDone cs y
  pub same : (calls_with cs y).plain ≡ calls cs y.plain
  pub plain : Plain.EndsAlike D a.plain cs y.plain
  pub zones : ZonesAlike D b a (calls_with cs y)

-- ---- any order, any cut

-- y leaves the base b, in whatever slices, with the base records of F; of the kernels ls none is empty, and they are 64 at most
module _ {D : ℕ} {b : List ℕ} {F : Sheets} {y : Costed} (long : Long D (D / 2) F) (Y : BasedWith D b F y) (ls : List Kernel) where
  record Ended : Type 0 where
    accepted : AllDone (kernels ls) y
    same : (calls_with (kernels ls) y).plain ≡ calls (kernels ls) y.plain
    above : Above D b F (calls_with (kernels ls) y)
    told : map operation_of (reverse (past_by (calls_with (kernels ls) y))) ≡ operations_of ls

  -- calls that are accepted without sheets are so with them
  ended : PlainDone (kernels ls) y.plain → Ended
  ended d =
      let P = plain_done (kernels ls) y Y.above.lent d in
      record {
        accepted = P.done;
        same = P.same;
        above = above_calls long (kernels ls) y Y.above P.done;
        told = told_past (calls_with (kernels ls) y) ∙ ap operations_in P.same ∙ based_told Y.plain (kernels ls) (kernels_rise ls) d
            ∙ kernels_told ls y.plain;
      }

  module _ (some : NoneEmpty ls) (few : length ls ≤ 64) where
    -- THE KERNELS HOLD THE OPERATIONS OF AN ACCEPTED LIST, kinds mixed as they come: each zone ends as merging by the list in its own order gives it
    pub list_by_calls : (os : List Operation) {u past : List ℕ} → one_by_one D b [] os ≡ stands u past → Permᴰ os (operations_of ls)
        → EndsAs D b F u past (kernels ls) y
    list_by_calls os {past = past} e rearranged =
        let B = above_standing Y.above in
        let plain = Plain.list_by_calls Y.plain ls some few os e rearranged in
        let E = ended plain.accepted in
        record {
          accepted = E.accepted;
          same = E.same;
          plain = plain;
          zones = zones_as long.sheet E.above (reverse past) (listed_turns B os e) (rw (listed_told B os e, E.told) rearranged);
        }

    module _ {a : Costed} (A : BasedWith D b F a) (cs : List Call) (done : AllDone cs a) where
      -- WHATEVER ACCEPTED CALLS, UNDO AND UNFOLD TOO: the kernels hold what the history that they leave tells
      pub history_by_calls : Permᴰ (operations_in (calls_with cs a).plain) (operations_of ls) → EndsAlike D b (calls_with cs a) (kernels ls) y
      history_by_calls rearranged =
          let first = done_plain cs a A.above.lent A.plain.answer done in
          let plain = Plain.history_by_calls Y.plain ls some few A.plain cs first.plain
          (subst (λ (x : After). Permᴰ (operations_in x) (operations_of ls)) first.same rearranged) in
          let E = ended plain.accepted in
          record {
            accepted = E.accepted;
            same = E.same;
            plain = rw first.same plain;
            zones = zones_alike long.sheet E.above (above_calls long cs a A.above done) (rw (told_past (calls_with cs a), E.told) rearranged);
          }

      -- ANY ORDER, ANY CUT INTO LEVELS: the kernels hold the operations of accepted kernels and sweeps
      pub any_order_of_calls : Each Rises cs → Permᴰ (operations_by cs a.plain) (operations_of ls) → EndsAlike D b (calls_with cs a) (kernels ls) y
      any_order_of_calls rise rearranged =
          let first = done_plain cs a A.above.lent A.plain.answer done in
          let told : operations_in (calls_with cs a).plain ≡ operations_by cs a.plain =
          ap operations_in first.same ∙ based_told A.plain cs rise first.plain in
          history_by_calls (rw told rearranged)

-- ---- from an accepted start on

own_records : {D : ℕ} {b : List ℕ} {S : Sheets} → Looked D b [] S S
own_records = record { sheet = λ x d p. refl; kept = λ t h k. refl }

-- A LIST THAT IS ACCEPTED ONE BY ONE ON THE BASE, kinds mixed as they come, AND KERNELS THAT HOLD IT IN ANY ORDER, FROM AN ACCEPTED START ON
pub list_from_start : (D : ℕ) (t h w : List ℕ) (S : Sheets) → (start_with D t h w S).plain.answer.number ≡ 0
    → (os : List Operation) {u past : List ℕ} → one_by_one D (take D t) [] os ≡ stands u past
    → (ls : List Kernel) → Permᴰ os (operations_of ls) → NoneEmpty ls → length ls ≤ 64 → EndsAs D (take D t) S u past (kernels ls) (start_with D t h w S)
list_from_start D t h w S zero os e ls rearranged some few =
    let G = start_begun D t h w S zero in
    list_by_calls (record { sheet = G.sheet; kept = G.kept }) (begun_based G refl own_records) ls some few os e rearranged

-- KERNELS ALONE, FROM START TO START: a and y leave one base, in whatever slices, with the same base records on their sheets
pub any_order_by_calls : {D : ℕ} {t h w t' h' w' : List ℕ} {S S' : Sheets} {a y : Costed} → Begun D t h w S a → Begun D t' h' w' S' y
    → take D t' ≡ take D t → Looked D (take D t) [] S S'
    → (ks ls : List Kernel) → AllDone (kernels ks) a → Permᴰ (operations_of ks) (operations_of ls) → NoneEmpty ls → length ls ≤ 64
    → EndsAlike D (take D t) (calls_with (kernels ks) a) (kernels ls) y
any_order_by_calls {a = a} G H same looks ks ls done rearranged some few =
    any_order_of_calls (record { sheet = G.sheet; kept = G.kept }) (begun_based H same looks) ls some few
    (begun_based G refl own_records) (kernels ks) done (kernels_rise ks)
    (rw (kernels_told ks a.plain) rearranged)
