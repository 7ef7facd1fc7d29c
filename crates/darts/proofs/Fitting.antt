-- Answers 1 and 2.
--   Count D                 == D is a number of darts, by its numbers; count_facts and count_test tie it to the test
--   Lengths D t h w         == these lengths are enough; room_facts and room_test tie it to the test
--   no_count_lem, short, fine   == what `fitting` is then
--   fits                    == where it is done, D is a number of darts and the lengths are enough
--   first_keeps             == where it is not, nothing is written
use mathlib.Core.Bool.{◌&&◌}
use mathlib.Core.List.{List}
use mathlib.Core.Logic.{◌≢◌}
use mathlib.Core.Path.{◌≡◌}
use Prim.Native.Nat.{ℕ, ◌*◌, ◌/◌, ◌%◌, ◌≤◌}
use native.Mathlib.Omega.{arith}
use lib.Dec.{T, eqb, leb, leb→le, eqb→eq, le→leb}
use Rattle.permutations.specs.Choice.{T→true, not_T→false, T?, and_intro, and_left, and_right, eqb_iff}
use Rattle.darts.specs.Answers.{done, no_dart_count, too_short}
use Rattle.darts.specs.Pyramid.{dart_count}
use Rattle.darts.specs.Calls.{room, fitting, work_after}

pub record Count (D : ℕ) : Type 0 where
  pub even : D % 2 ≡ 0
  pub some : 2 ≤ D
  pub small : D ≤ 65536

pub record Lengths (D t h w : ℕ) : Type 0 where
  pub table : D ≤ t
  pub history : D / 2 ≤ h
  pub work : 4 * D ≤ w

pub count_facts : (D : ℕ) → T (dart_count D) → Count D
unfolding dart_count
count_facts D c =
    let r = and_right (eqb (D % 2) 0) (leb 2 D && leb D 65536) c in
    record {
      even = eqb→eq (D % 2) 0 (and_left (eqb (D % 2) 0) (leb 2 D && leb D 65536) c);
      some = leb→le 2 D (and_left (leb 2 D) (leb D 65536) r);
      small = leb→le D 65536 (and_right (leb 2 D) (leb D 65536) r);
    }

pub count_test : (D : ℕ) → Count D → T (dart_count D)
unfolding dart_count
count_test D c =
    and_intro (eqb (D % 2) 0) (leb 2 D && leb D 65536) ((eqb_iff (D % 2) 0).1 c.even)
    (and_intro (leb 2 D) (leb D 65536) (le→leb 2 D c.some) (le→leb D 65536 c.small))

pub room_facts : (t h w D : ℕ) → T (room t h w D) → Lengths D t h w
unfolding room
room_facts t h w D c =
    let r = and_right (leb D t) (leb (D / 2) h && leb (4 * D) w) c in
    record {
      table = leb→le D t (and_left (leb D t) (leb (D / 2) h && leb (4 * D) w) c);
      history = leb→le (D / 2) h (and_left (leb (D / 2) h) (leb (4 * D) w) r);
      work = leb→le (4 * D) w (and_right (leb (D / 2) h) (leb (4 * D) w) r);
    }

pub room_test : (t h w D : ℕ) → Lengths D t h w → T (room t h w D)
unfolding room
room_test t h w D c =
    and_intro (leb D t) (leb (D / 2) h && leb (4 * D) w) (le→leb D t c.table)
    (and_intro (leb (D / 2) h) (leb (4 * D) w) (le→leb (D / 2) h c.history) (le→leb (4 * D) w c.work))

module _ (D t h w : ℕ) where
  pub no_count_lem : ¬ (Count D) → no_dart_count ≡ fitting D t h w
  unfolding fitting
  no_count_lem n = rw (not_T→false (dart_count D) (λ c. n (count_facts D c)))

  pub short : Count D → ¬ (Lengths D t h w) → too_short ≡ fitting D t h w
  unfolding fitting
  short c n = rw (T→true (dart_count D) (count_test D c), not_T→false (room t h w D) (λ r. n (room_facts t h w D r)))

  pub fine : Count D → Lengths D t h w → done ≡ fitting D t h w
  unfolding fitting
  fine c l = rw (T→true (dart_count D) (count_test D c), T→true (room t h w D) (room_test t h w D l))

  -- WHERE NEITHER 1 NOR 2 IS GIVEN
  pub record Fits : Type 0 where
    pub count : Count D
    pub lengths : Lengths D t h w

  pub fits : (fitting D t h w).number ≡ 0 → Fits
  unfolding fitting
  fits e = go (T? (dart_count D)) (T? (room t h w D))
    where
      go : Dec (T (dart_count D)) → Dec (T (room t h w D)) → Fits
      go (yes c) (yes r) = record { count = count_facts D c; lengths = room_facts t h w D r }
      go (yes c) (no n) = absurd (let z : 2 ≡ 0 = rw (T→true (dart_count D) c, not_T→false (room t h w D) n) at e in omega arith)
      go (no n) d = absurd (let z : 1 ≡ 0 = rw (not_T→false (dart_count D) n) at e in omega arith)

  pub first_keeps : (fitting D t h w).number ≢ 0 → (E : ℕ) (v : List ℕ) → work_after (fitting D t h w) E v ≡ v
  unfolding fitting work_after
  first_keeps n E v = go (T? (dart_count D)) (T? (room t h w D))
    where
      go : Dec (T (dart_count D)) → Dec (T (room t h w D)) → work_after (fitting D t h w) E v ≡ v
      go (yes c) (yes r) = absurd (n (rw (T→true (dart_count D) c, T→true (room t h w D) r)))
      go (yes c) (no k) = rw (T→true (dart_count D) c, not_T→false (room t h w D) k)
      go (no k) d = rw (not_T→false (dart_count D) k)
