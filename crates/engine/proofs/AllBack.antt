-- Several operations taken back, the last one first.
--   FitsStand D              == an operation that fits leaves a map once it is undone: the law of tests 6 to 15
--   AllBack D n c t past w a == a is what taking back the last c of n operations gives: t and past are the table and the past of w
--   backs_right              == the last c operations are tested and undone as the table's are
--   all_back                 == all operations are tested as the table's are
use mathlib.Core.Bool.{true, false, ◌&&◌, and-true}
use mathlib.Core.List.{List, ◌∷◌}
use mathlib.Core.Path.{◌≡◌, refl, ◌∙◌}
use Prim.Native.Nat.{ℕ, zero, suc, ◌-◌, ◌*◌, ◌≤◌}
use native.Mathlib.Nat.{sub-zero}
use native.Mathlib.Omega.{arith}
use lib.Dec.{T}
use lib.ListN.{length, drop, drop_of_length-le}
use Rattle.permutations.specs.Choice.{T?, T→true, not_T→false}
use Rattle.std.proofs.Common.{if◌then◌else◌}
use Rattle.darts.specs.Operation.{undo_one, undone}
use Rattle.darts.specs.Tests.{numbered, fits as fits_of, backs as backsOf}
use Rattle.area.specs.Area.{stamp, table_in, past_in, Tried, tried}
use Rattle.operations.specs.Back.{fits, taken_back, backs}
use Rattle.laws.specs.Standing.{Standing}
use Rattle.engine.specs.Held.{Area}
use Rattle.engine.proofs.Parts.{past_length}
use Rattle.engine.proofs.Area.{past_last}
use Rattle.engine.proofs.TakenBack.{fits_right, taken_back_lem}

abbrev pub FitsStand : ℕ → Type 0
FitsStand D = (t : List ℕ) (h : ℕ) (past : List ℕ) → Standing D t (h ∷ past) → T (numbered D (h ∷ past)) → T (fits_of D t h past)
    → Standing D (undo_one D t h past) past

pub record AllBack (D n c : ℕ) (t past w : List ℕ) (a : Tried) : Type 0 where
  pub fine : backsOf D t past ≡ (a.fine && backsOf D (undone D c t past) (drop c past))
  pub size : length a.work ≡ length w
  pub rest : drop (2 * D) a.work ≡ drop (2 * D) w
  pub table : T a.fine → table_in D a.work ≡ undone D c t past
  pub left : T a.fine → past_in D (n - c) a.work ≡ drop c past
  pub area : T a.fine → Area D (n - c) a.work

none_back : {D n : ℕ} {w : List ℕ} → Area D n w → AllBack D n 0 (table_in D w) (past_in D n w) w (tried true w)
unfolding undone
none_back {D} {n} {w} A = record {
  fine = refl;
  size = refl;
  rest = refl;
  table = λ f. refl;
  left = λ f. rw (sub-zero n);
  area = λ f. rw (sub-zero n) A;
}

-- the last operation does not fit
not_back : {D n c h : ℕ} {t past w : List ℕ} → ¬ T (fits_of D t h past) → AllBack D (suc n) (suc c) t (h ∷ past) w (tried false w)
unfolding backsOf
not_back {D} {n} {c} {h} {t} {past} {w} f = record {
  fine = rw (not_T→false (fits_of D t h past) f);
  size = refl;
  rest = refl;
  table = λ f. absurd f;
  left = λ f. absurd f;
  area = λ f. absurd f;
}

-- it fits, and the others follow
back_then : {D n c h : ℕ} {t past w v : List ℕ} {a : Tried} → T (fits_of D t h past) → length v ≡ length w → drop (2 * D) v ≡ drop (2 * D) w
    → AllBack D n c (undo_one D t h past) past v a → AllBack D (suc n) (suc c) t (h ∷ past) w a
unfolding backsOf undone
back_then {D} {n} {c} {h} {t} {past} {w} {v} {a} f size rest B =
    let e : suc n - suc c ≡ n - c = omega arith in
    record {
      fine = rw (T→true (fits_of D t h past) f) B.fine;
      size = B.size ∙ size;
      rest = B.rest ∙ rest;
      table = B.table;
      left = rw e B.left;
      area = rw e B.area;
    }

module _ {D : ℕ} (redo : FitsStand D) {n : ℕ} {w : List ℕ} (A : Area D (suc n) w) where
  abbrev h : ℕ
  h = stamp D w n

  back_area : T (fits D w h) → Area D n (taken_back D w h)
  back_area f =
      (taken_back_lem A f).area
      (redo (table_in D w) h (past_in D n w) (rw (past_last A) at A.stands) (rw (past_last A) at A.numbers) (rw (fits_right A) at f))

  one_back : {c : ℕ} {a : Tried} → (T (fits D w h) → AllBack D n c (table_in D (taken_back D w h)) (past_in D n (taken_back D w h)) (taken_back D w h) a)
      → AllBack D (suc n) (suc c) (table_in D w) (h ∷ past_in D n w) w (if fits D w h then a else tried false w)
  one_back {c} {a} others = go (T? (fits D w h))
    where
      go : Dec (T (fits D w h)) → AllBack D (suc n) (suc c) (table_in D w) (h ∷ past_in D n w) w (if fits D w h then a else tried false w)
      go (yes f) =
          let o = taken_back_lem A f in
          rw (T→true (fits D w h) f) (back_then (rw (fits_right A) at f) o.size o.rest (rw (o.table, o.past) at (others f)))
      go (no f) = rw (not_T→false (fits D w h) f) (not_back (rw (fits_right A) at f))

  next_back : (c : ℕ) → (T (fits D w h) → AllBack D n c (table_in D (taken_back D w h)) (past_in D n (taken_back D w h)) (taken_back D w h) (backs D (taken_back D w h) n c))
      → AllBack D (suc n) (suc c) (table_in D w) (past_in D (suc n) w) w (backs D w (suc n) (suc c))
  unfolding backs
  next_back c others = let e : suc n - 1 ≡ n = omega arith in rw (past_last A, e) (one_back others)

-- THE LAST c OPERATIONS ARE TESTED AND UNDONE
pub backs_right : {D : ℕ} → FitsStand D → (c n : ℕ) (w : List ℕ) → c ≤ n → Area D n w → AllBack D n c (table_in D w) (past_in D n w) w (backs D w n c)
backs_right redo zero n w l A = unfold backs in none_back A
backs_right redo (suc c) zero w l A = absurd (omega arith)
backs_right {D} redo (suc c) (suc n) w l A =
    next_back redo A c (λ f. backs_right redo c n (taken_back D w (stamp D w n)) (omega arith) (back_area redo A f))

-- ALL OPERATIONS ARE TESTED
pub all_back : {D : ℕ} → FitsStand D → (n : ℕ) (w : List ℕ) → Area D n w → backsOf D (table_in D w) (past_in D n w) ≡ (backs D w n n).fine
unfolding backsOf
all_back {D} redo n w A =
    let size = past_length D n w (omega (arith, A.few, A.room.fits)) in
    (backs_right redo n n w (omega arith) A).fine
    ∙ rw (drop_of_length-le (past_in D n w) {i = n} (omega arith)) (and-true (backs D w n n).fine)
