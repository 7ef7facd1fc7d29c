-- Answers 1 and 2 of a call that is lent both sheets: what the plain call says, and then the sheets' lengths.
--   Room D S       == the sheets are long enough for D darts
--   fitting_plain  == where the plain call says 1 or 2, so does this one
--   fitting_one, fitting_two, fitting_narrow == 1, 2, and 2 for a sheet that is too short
--   fitting_fine   == where all is long enough, neither
--   room?, lengths? == both are decided
--   Fits D t h w S == D is a number of darts, and all that is lent is long enough
--   fits           == so it is where neither 1 nor 2 is said
use mathlib.Core.Bool.{Bool, ◌&&◌}
use mathlib.Core.List.{List}
use mathlib.Core.Logic.{◌≢◌}
use mathlib.Core.Path.{◌≡◌, sym, ap, ◌∙◌}
use Prim.Native.Nat.{ℕ, ◌/◌, ◌≤◌}
use native.Mathlib.Decide.{ℕ_discrete}
use native.Mathlib.Omega.{arith}
use lib.Dec.{T, leb, leb→le, le→leb}
use lib.ListN.{length}
use Rattle.permutations.specs.Choice.{T?, T→true, not_T→false, and_intro, and_left, and_right, eqb_other}
use Rattle.darts.specs.Answers.{Answer, done, no_dart_count, too_short}
use Rattle.darts.specs.Calls.{room, fitting as fittingPlain}
use Rattle.darts.proofs.Fitting.{Count, Lengths, room_facts, room_test, no_count_lem, short, fine}
use Rattle.darts.proofs.Fitting as Plain
use Rattle.sheets.specs.Sheets.{Sheets}
use Rattle.yarn.specs.Calls.{fitting, fitting_of}

-- "at the place of its lowest dart among D places"; "a second sheet of D/2 places"
pub record Room (D : ℕ) (S : Sheets) : Type 0 where
  pub sheet : D ≤ length S.sheet
  pub kept : D / 2 ≤ length S.kept

pub record Fits (D : ℕ) (t h w : List ℕ) (S : Sheets) : Type 0 where
  pub count : Count D
  pub lengths : Lengths D (length t) (length h) (length w)
  pub room : Room D S

module _ (D : ℕ) (t h w : List ℕ) (S : Sheets) where
  abbrev first : Answer
  first = fittingPlain D (length t) (length h) (length w)

  abbrev wide : Bool
  wide = leb D (length S.sheet) && leb (D / 2) (length S.kept)

  wide_room : T wide → Room D S
  wide_room k = record {
    sheet = leb→le D (length S.sheet) (and_left (leb D (length S.sheet)) (leb (D / 2) (length S.kept)) k);
    kept = leb→le (D / 2) (length S.kept) (and_right (leb D (length S.sheet)) (leb (D / 2) (length S.kept)) k);
  }

  room_wide : Room D S → T wide
  room_wide R = and_intro (leb D (length S.sheet)) (leb (D / 2) (length S.kept)) (le→leb D (length S.sheet) R.sheet) (le→leb (D / 2) (length S.kept) R.kept)

  pub room? : Dec (Room D S)
  room? = go (T? wide)
    where
      go : Dec (T wide) → Dec (Room D S)
      go (yes k) = yes (wide_room k)
      go (no n) = no (λ R. n (room_wide R))

  pub fitting_plain : first.number ≢ 0 → fitting_of D t h w S ≡ first
  unfolding fitting_of fitting
  fitting_plain n = rw (eqb_other n)

  pub fitting_one : ¬ (Count D) → fitting_of D t h w S ≡ no_dart_count
  fitting_one n = let e = no_count_lem D (length t) (length h) (length w) n in fitting_plain (rw (← e) (λ z. omega arith)) ∙ sym e

  pub fitting_two : Count D → ¬ (Lengths D (length t) (length h) (length w)) → fitting_of D t h w S ≡ too_short
  fitting_two c n = let e = short D (length t) (length h) (length w) c n in fitting_plain (rw (← e) (λ z. omega arith)) ∙ sym e

  narrow : Count D → Lengths D (length t) (length h) (length w) → ¬ (Room D S) → fitting_of D t h w S ≡ too_short
  unfolding fitting_of fitting
  narrow c l n = rw (← fine D (length t) (length h) (length w) c l, not_T→false wide (λ k. n (wide_room k)))

  pub lengths? : Dec (Lengths D (length t) (length h) (length w))
  lengths? = go (T? (room (length t) (length h) (length w) D))
    where
      go : Dec (T (room (length t) (length h) (length w) D)) → Dec (Lengths D (length t) (length h) (length w))
      go (yes r) = yes (room_facts (length t) (length h) (length w) D r)
      go (no n) = no (λ l. n (room_test (length t) (length h) (length w) D l))

  pub fitting_narrow : Count D → ¬ (Room D S) → fitting_of D t h w S ≡ too_short
  fitting_narrow c n = go lengths?
    where
      go : Dec (Lengths D (length t) (length h) (length w)) → fitting_of D t h w S ≡ too_short
      go (yes l) = narrow c l n
      go (no m) = fitting_two c m

  pub fitting_fine : Fits D t h w S → fitting_of D t h w S ≡ done
  unfolding fitting_of fitting
  fitting_fine F = rw (← fine D (length t) (length h) (length w) F.count F.lengths, T→true wide (room_wide F.room))

  -- WHERE NEITHER 1 NOR 2 IS SAID
  pub fits : (fitting_of D t h w S).number ≡ 0 → Fits D t h w S
  fits z = go (ℕ_discrete first.number 0) room?
    where
      go : Dec (first.number ≡ 0) → Dec (Room D S) → Fits D t h w S
      go (no n) r = absurd (n (ap (λ (a : Answer). a.number) (sym (fitting_plain n)) ∙ z))
      go (yes e) (yes R) =
          let F = Plain.fits D (length t) (length h) (length w) e in
          record { count = F.count; lengths = F.lengths; room = R }
      go (yes e) (no n) =
          let F = Plain.fits D (length t) (length h) (length w) e in
          absurd (let k : 2 ≡ 0 = rw (fitting_narrow F.count n) at z in omega arith)
