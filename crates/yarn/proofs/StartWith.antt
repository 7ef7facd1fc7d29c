-- A base that a start accepts, with its sheets.
--   fit_front    == the records of the base in a table are those of the base in its first D numbers
--   fit_given    == before any operation sheets are given exactly where the base's records are fit
--   Begun D t h w S a == a leaves what the plain start leaves of the base in t, and the sheets S, with room, and fit
--   start_begun  == so it is where a start with sheets answers 0
--   begun_above  == from there calls with sheets can be made
--   start_total  == and whatever calls are accepted, the total of stitches stays the base's
use mathlib.Core.Bool.{Bool, true, false, not, ◌||◌, ◌&&◌}
use mathlib.Core.List.{List, [], reverse}
use mathlib.Core.Logic.{◌↔◌}
use mathlib.Core.Path.{◌≡◌, refl, sym, ap, ap₂, ◌∙◌, subst, subst₂}
use Prim.Native.Nat.{ℕ, zero, suc, ◌+◌, ◌/◌, ◌≤◌, ◌<◌}
use native.Mathlib.Omega.{arith}
use native.Mathlib.Decide.{ℕ_discrete}
use native.Mathlib.Nat.{zero-add}
use lib.Dec.{T, eqb, leb, leb→le, not_T}
use lib.ListN.{length, take}
use Rattle.permutations.specs.Choice.{pick, T?, not_T→false, and_intro, and_left, and_right, eqb_same, eqb_other}
use Rattle.permutations.specs.Cycle.{meets_in}
use Rattle.darts.specs.Map.{successor, same_vertex, Verdict, permutes, culprits, permutation_test}
use Rattle.darts.specs.Answers.{Answer}
use Rattle.darts.specs.Operation.{undone}
use Rattle.darts.specs.Calls.{fitting as fittingPlain, table_of, past_of, begins, start}
use Rattle.laws.specs.Standing.{Standing}
use Rattle.laws.proofs.chained.OnLent.{Call}
use Rattle.laws.proofs.chained.Begins.{entry_front, Started, start_left}
use Rattle.sheets.specs.Records.{fit_of, at}
use Rattle.sheets.specs.Sheets.{Sheets, merged_by}
use Rattle.yarn.specs.Places.{lowest_from, lowest, is_place, zone_of}
use Rattle.yarn.specs.Given.{Fit, given}
use Rattle.yarn.specs.Totals.{total}
use Rattle.yarn.specs.Calls.{Costed, fitting, fitting_of, base_of, unfit_from, first_unfit, begins_with, start_with}
use Rattle.yarn.proofs.Apart.{base_standing}
use Rattle.yarn.proofs.Decided.{given_decided}
use Rattle.yarn.proofs.CalledWith.{LentBy, past_by, base_by}
use Rattle.yarn.proofs.ChainedWith.{calls_with, AllDone, Above, above_calls, above_total}

-- ---- the base in the first D numbers of a table

module _ (D : ℕ) (t : List ℕ) (B : Standing D (take D t) []) where
  -- a walk meets darts alone, and their entries are the same
  walk_front : (n x y : ℕ) → x < D → meets_in (successor (take D t)) n x y ≡ meets_in (successor t) n x y
  unfolding meets_in
  walk_front zero x y d = refl
  walk_front (suc n) x y d =
      let next : successor (take D t) x ≡ successor t x = entry_front D t x d in
      let more = walk_front n (successor t x) y (rw next at (B.inside x d)) in
      rw next (ap (λ b. eqb x y || b) more)

  lowest_front : (x n y : ℕ) → y + n ≤ D → lowest_from D (take D t) x n y ≡ lowest_from D t x n y
  unfolding lowest_from same_vertex
  lowest_front x zero y l = refl
  lowest_front x (suc n) y l =
      ap₂ (λ (b : Bool) (z : ℕ). pick b y z) (walk_front D y x (omega arith)) (lowest_front x n (suc y) (omega arith))

  place_front : (x : ℕ) → is_place D (take D t) x ≡ is_place D t x
  unfolding is_place lowest
  place_front x = ap (λ z. eqb z x) (lowest_front x D 0 (omega arith))

  fit_front : {S : Sheets} → Fit D t S → Fit D (take D t) S
  fit_front F = record { each = λ x d p. F.each x d (subst T (place_front x) p) }

-- ---- sheets of a base

pub fit_given : {D : ℕ} {b : List ℕ} → Standing D b [] → (S : Sheets) → D ≤ length S.sheet → Fit D b S ↔ T (given D b [] S)
unfolding merged_by
fit_given B S long =
    let decided = given_decided B [] tt tt S long (omega arith) in (
      λ F. decided.1 (record { first = S; long = long; keeps = omega arith; fit = F; looked = record { sheet = λ x d p. refl; kept = λ t h k. refl } }),
      λ g. let G = decided.0 g in record { each = λ x d p. rw (← G.looked.sheet x d p) (G.fit.each x d p) },
    )

pub record Begun (D : ℕ) (t h w : List ℕ) (S : Sheets) (a : Costed) : Type 0 where
  pub plain : a.plain ≡ start D t h w
  pub accepted : (start D t h w).answer.number ≡ 0
  pub sheets : a.sheets ≡ S
  pub sheet : D ≤ length S.sheet
  pub kept : D / 2 ≤ length S.kept
  pub fit : Fit D t S

module _ {D : ℕ} {t h w : List ℕ} {S : Sheets} {a : Costed} (G : Begun D t h w S a) where
  pub begun : Started D t h w a.plain
  begun = rw G.plain (start_left D t h w G.accepted)

  pub begun_past : past_by a ≡ []
  unfolding past_of
  begun_past = ap₂ past_of begun.state begun.history

  begun_base : base_by a ≡ take D t
  unfolding base_of undone table_of
  begun_base = rw begun_past (ap₂ table_of begun.state begun.table)

  darts : a.plain.state.darts ≡ D
  darts = begun.left.darts

  front : Standing D (take D t) []
  front = subst₂ (λ (n : ℕ) (b : List ℕ). Standing n b []) darts begun_base (base_standing begun.left.lent.pyramid)

  pub begun_lent : LentBy a
  begun_lent =
      let B = base_standing begun.left.lent.pyramid in
      let fits = subst (λ (n : ℕ). Fit n (base_by a) a.sheets) (sym darts) (rw (begun_base, G.sheets) (fit_front D t front G.fit)) in
      let long : a.plain.state.darts ≤ length a.sheets.sheet = rw (G.sheets, darts) G.sheet in
      record {
        lent = begun.left.lent;
        sheet = long;
        kept = rw (G.sheets, darts) G.kept;
        given = subst (λ p. T (given a.plain.state.darts (base_by a) (reverse p) a.sheets)) (sym begun_past) ((fit_given B a.sheets long).0 fits);
      }

  -- a base, and its own sheets
  pub begun_above : Above D (take D t) S a
  unfolding merged_by
  begun_above = record {
    darts = darts;
    base = begun_base;
    lent = begun_lent;
    looked = rw (begun_past, G.sheets) (record { sheet = λ x d p. refl; kept = λ i k n. refl });
  }

-- ---- a start that answers 0

module _ (D : ℕ) (b : List ℕ) (S : Sheets) where
  abbrev unfit : ℕ → Bool
  unfit x = is_place D b x && not (fit_of (at S.sheet x))

  fit_unless : (x : ℕ) → unfit x ≡ false → T (is_place D b x) → T (fit_of (at S.sheet x))
  fit_unless x e p = go (T? (fit_of (at S.sheet x)))
    where
      go : Dec (T (fit_of (at S.sheet x))) → T (fit_of (at S.sheet x))
      go (yes f) = f
      go (no n) = absurd (subst T e (and_intro (is_place D b x) (not (fit_of (at S.sheet x))) p (not_T (fit_of (at S.sheet x)) n)))

  -- where the search ends at the end, it passed fit records alone
  all_fit : (n x : ℕ) → unfit_from D b S n x ≡ x + n → (y : ℕ) → x ≤ y → y < x + n → T (is_place D b y) → T (fit_of (at S.sheet y))
  unfolding unfit_from
  all_fit zero x e y l h p = absurd (omega arith)
  all_fit (suc n) x e y l h p = go (unfit x) refl (λ k m. all_fit n (suc x) k y m (omega arith) p)
    where
      go : (u : Bool) → unfit x ≡ u → (unfit_from D b S n (suc x) ≡ suc x + n → suc x ≤ y → T (fit_of (at S.sheet y))) → T (fit_of (at S.sheet y))
      go true u more = absurd (let z : x ≡ x + suc n = rw u at e in omega arith)
      go false u more = pass (ℕ_discrete x y)
        where
          rest : unfit_from D b S n (suc x) ≡ suc x + n
          rest = (rw u at e) ∙ (let z : x + suc n ≡ suc x + n = omega arith in z)

          pass : Dec (x ≡ y) → T (fit_of (at S.sheet y))
          pass (yes k) = subst (λ z. T (fit_of (at S.sheet z))) k (fit_unless x u (subst (λ z. T (is_place D b z)) (sym k) p))
          pass (no k) = more rest (omega arith)

  search_fit : first_unfit D b S ≡ D → Fit D b S
  unfolding first_unfit
  search_fit e = record { each = λ x d p. all_fit D 0 (e ∙ sym (zero-add D)) x (omega arith) (omega arith) p }

module _ (D : ℕ) (t h w : List ℕ) (S : Sheets) where
  abbrev plainly : Answer
  plainly = fittingPlain D (length t) (length h) (length w)

  abbrev long : Bool
  long = leb D (length S.sheet)

  abbrev keeps : Bool
  keeps = leb (D / 2) (length S.kept)

  record Room : Type 0 where
    plain : plainly.number ≡ 0
    sheet : D ≤ length S.sheet
    kept : D / 2 ≤ length S.kept

  fits_room : (fitting_of D t h w S).number ≡ 0 → Room
  unfolding fitting_of fitting
  fits_room e = go (ℕ_discrete plainly.number 0) (T? (long && keeps))
    where
      go : Dec (plainly.number ≡ 0) → Dec (T (long && keeps)) → Room
      go (no n) r = absurd (n (rw (eqb_other n) at e))
      go (yes z) (no r) = absurd (let two : 2 ≡ 0 = rw (eqb_same z, not_T→false (long && keeps) r) at e in omega arith)
      go (yes z) (yes r) = record {
        plain = z;
        sheet = leb→le D (length S.sheet) (and_left long keeps r);
        kept = leb→le (D / 2) (length S.kept) (and_right long keeps r);
      }

  -- WHERE A START WITH SHEETS ANSWERS 0, IT LEAVES WHAT THE PLAIN START LEAVES, AND THE SHEETS, ALL BASE RECORDS OF WHICH ARE FIT
  pub start_begun : (start_with D t h w S).plain.answer.number ≡ 0 → Begun D t h w S (start_with D t h w S)
  unfolding start_with begins_with begins start
  start_begun e = go (ℕ_discrete (fitting_of D t h w S).number 0)
    where
      go : Dec ((fitting_of D t h w S).number ≡ 0) → Begun D t h w S (start_with D t h w S)
      go (no n) = absurd (n (rw (eqb_other n) at e))
      go (yes z) = said (permutation_test D t) refl (ℕ_discrete (first_unfit D t S) D)
        where
          said : (v : Verdict) → permutation_test D t ≡ v → Dec (first_unfit D t S ≡ D) → Begun D t h w S (start_with D t h w S)
          said (culprits d c) k u = absurd (let three : 3 ≡ 0 = rw (eqb_same z, k) at e in omega arith)
          said permutes k (no u) = absurd (let sixteen : 16 ≡ 0 = rw (eqb_same z, k, eqb_other u) at e in omega arith)
          said permutes k (yes u) =
              let R = fits_room z in
              record {
                plain = rw (eqb_same z, eqb_same R.plain, k, eqb_same u);
                accepted = rw (eqb_same R.plain, k);
                sheets = refl;
                sheet = R.sheet;
                kept = R.kept;
                fit = search_fit D t S u;
              }

  -- "The total of stitches at any level equals the base's.": after a start and whatever calls are accepted, of every kind
  pub start_total : (cs : List Call) → (start_with D t h w S).plain.answer.number ≡ 0 → AllDone cs (start_with D t h w S)
      → (let a : Costed = calls_with cs (start_with D t h w S) in
      total D (zone_of D (take D t) (reverse (past_by a))) a.sheets ≡ total D (lowest D (take D t)) S)
  start_total cs e d =
      let G = start_begun e in
      above_total (above_calls (record { sheet = G.sheet; kept = G.kept }) cs (start_with D t h w S) (begun_above G) d) G.sheet
