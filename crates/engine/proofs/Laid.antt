-- Table and history laid into the work area, with nothing known of the darts before.
--   Laid D n t h w e == the parts of e: w with the table t and the history h laid
--   given_laid       == so the work area is once table and history are copied
--   stays_laid       == and where they stand in it already
use mathlib.Core.List.{List, reverse}
use mathlib.Core.Path.{◌≡◌, refl, sym, ap, ◌∙◌}
use Prim.Native.Nat.{ℕ, ◌+◌, ◌-◌, ◌*◌, ◌/◌, ◌≤◌, ◌<◌}
use native.Mathlib.Omega.{arith}
use lib.ListN.{length, take, drop, replicate, length-replicate, get_or-replicate}
use lib.Seq.{length-take-le, take_at}
use Rattle.slices.specs.Part.{part}
use Rattle.area.specs.Area.{Room, prev, table_in, past_in, forest_in}
use Rattle.area.specs.Load.{given, blank}
use Rattle.slices.specs.Laid.{laid, Space}
use Rattle.slices.proofs.Laid.{laid_length, laid_front, laid_rest, laid_early, laid_there, laid_at}

pub record Laid (D n : ℕ) (t h w e : List ℕ) : Type 0 where
  pub size : length e ≡ length w
  pub table : table_in D e ≡ take D t
  pub past : past_in D n e ≡ reverse (take n h)
  pub forest : forest_in D e ≡ forest_in D w
  pub rest : drop (4 * D) e ≡ drop (4 * D) w
  pub unknown : (x : ℕ) → x < D → prev D e x ≡ D + 1

-- nothing is known of the darts before; the other parts are as they were
module _ {D : ℕ} {w : List ℕ} (room : Room D w) where
  abbrev blanks : List ℕ
  blanks = replicate D (D + 1)

  blanks_length : length blanks ≡ D
  blanks_length = length-replicate D (D + 1)

  inside : Space w D blanks
  inside = record { fits = omega (arith, blanks_length, room.fits) }

  blank_rest : (m : ℕ) → 2 * D ≤ m → drop m (blank D w) ≡ drop m w
  unfolding blank
  blank_rest m h = laid_rest w D blanks inside m (omega (arith, blanks_length))

  blank_laid : {n : ℕ} {t h v : List ℕ} → length w ≡ length v → table_in D w ≡ take D t → past_in D n w ≡ reverse (take n h)
      → forest_in D w ≡ forest_in D v → drop (4 * D) w ≡ drop (4 * D) v → Laid D n t h v (blank D w)
  unfolding blank prev
  blank_laid {n} size table past forest rest = record {
    size = laid_length w D blanks inside ∙ size;
    table = laid_front w D blanks inside D (omega arith) ∙ table;
    past = ap (λ l. reverse (take (3 * D + n - 3 * D) l)) (blank_rest (3 * D) (omega arith)) ∙ past;
    forest = ap (take (3 * D - 2 * D)) (blank_rest (2 * D) (omega arith)) ∙ forest;
    rest = blank_rest (4 * D) (omega arith) ∙ rest;
    unknown = λ x l. laid_at w D blanks inside x (omega (arith, blanks_length)) ∙ get_or-replicate D x (D + 1) 0 l;
  }

module _ (D n : ℕ) (t h w : List ℕ) (room : Room D w) (long : D ≤ length t) (enough : n ≤ length h) (few : n ≤ D / 2) where
  abbrev xs : List ℕ
  xs = take D t

  abbrev hs : List ℕ
  hs = take n h

  xs_length : length xs ≡ D
  xs_length = length-take-le D t long

  hs_length : length hs ≡ n
  hs_length = length-take-le n h enough

  abbrev w₁ : List ℕ
  w₁ = laid w 0 xs

  abbrev w₂ : List ℕ
  w₂ = laid w₁ (3 * D) hs

  in₁ : Space w 0 xs
  in₁ = record { fits = omega (arith, xs_length, room.fits) }

  size₁ : length w₁ ≡ length w
  size₁ = laid_length w 0 xs in₁

  in₂ : Space w₁ (3 * D) hs
  in₂ = record { fits = omega (arith, hs_length, size₁, room.fits) }

  size₂ : length w₂ ≡ length w
  size₂ = laid_length w₁ (3 * D) hs in₂ ∙ size₁

  front : take D w₁ ≡ xs
  unfolding laid
  front = take_at xs (drop (0 + length xs) w) D xs_length

  laid_past : part (3 * D) (3 * D + n) w₂ ≡ hs
  laid_past = ap (λ m. part (3 * D) (3 * D + m) w₂) (sym hs_length) ∙ laid_there w₁ (3 * D) hs in₂

  -- TABLE AND HISTORY COPIED
  pub given_laid : Laid D n t h w (blank D (given D n t h w))
  unfolding given
  given_laid =
      blank_laid (record { even = room.even; some = room.some; small = room.small; fits = rw size₂ room.fits }) size₂
      (laid_front w₁ (3 * D) hs in₂ D (omega arith) ∙ front)
      (ap reverse laid_past)
      (laid_early w₁ (3 * D) hs in₂ (2 * D) (3 * D) (omega arith) (omega arith)
      ∙ ap (take (3 * D - 2 * D)) (laid_rest w 0 xs in₁ (2 * D) (omega (arith, xs_length))))
      (laid_rest w₁ (3 * D) hs in₂ (4 * D) (omega (arith, hs_length)) ∙ laid_rest w 0 xs in₁ (4 * D) (omega (arith, xs_length)))

-- TABLE AND HISTORY STAND THERE ALREADY
pub stays_laid : (D n : ℕ) (w : List ℕ) → Room D w → Laid D n w (drop (3 * D) w) w (blank D w)
stays_laid D n w room =
    let e : 3 * D + n - 3 * D ≡ n = omega arith in
    blank_laid room refl refl (ap (λ m. reverse (take m (drop (3 * D) w))) e) refl refl
