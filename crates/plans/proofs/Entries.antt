-- A table laid entry by entry, edge by edge, in rows.
--   Laying T first row rows to₀ to e x y == to is to₀ with the entries of T up to edge e over its own; the edges from `first` on stand in rows, e at
--                                           place x of row y
--   laying_begins  == no row is begun
--   laying_inside  == an edge that is left stands at a place of a row
--   laying_on      == the two entries of an edge more, and the next place of its row
--   laying_over    == the same at a row's end: the next row begins
--   laying_ends    == no edge is left
use mathlib.Core.List.{List, ◌++◌}
use mathlib.Core.Path.{◌≡◌, refl, sym, ◌∙◌}
use Prim.Native.Nat.{ℕ, zero, suc, ◌+◌, ◌*◌, ◌≤◌, ◌<◌}
use native.Mathlib.Decide.{dec_lt}
use native.Mathlib.Nat.{zero-add, zero-mul, suc-mul, mul_comm, mul-le-mul_right}
use native.Mathlib.Numerals.{add-one}
use native.Mathlib.Omega.{arith}
use lib.ListN.{length, get_or, set, take, drop, length-set, take-append-drop}
use lib.Seq.{length-take-le, paste-suc}
use Rattle.slices.specs.Over.{over}

pub record Laying (T : List ℕ) (first row rows : ℕ) (to₀ to : List ℕ) (e x y : ℕ) : Type 0 where
  pub size : length to ≡ length to₀
  pub place : e ≡ first + (y * row + x)
  pub inside : 0 < row → x < row
  pub narrow : x ≤ row
  pub low : y ≤ rows
  pub bound : e ≤ first + row * rows
  pub same : to ≡ take (2 * e) T ++ drop (2 * e) to₀

pub laying_begins : {T : List ℕ} {first row rows : ℕ} {to : List ℕ} → take (2 * first) to ≡ take (2 * first) T
    → Laying T first row rows to to first 0 0
laying_begins {first = first} {row = row} {to = to} e = record {
  size = refl;
  place = omega (arith, zero-mul row);
  inside = λ h. h;
  narrow = omega arith;
  low = omega arith;
  bound = omega arith;
  same = rw (← e) (sym (take-append-drop (2 * first) to));
}

-- one entry more
pub one_more : (T to₀ : List ℕ) {to : List ℕ} (i : ℕ) {v : ℕ} → i < length T → length T ≤ length to₀ → to ≡ take i T ++ drop i to₀
    → v ≡ get_or T i 0 → set to i v ≡ take (i + 1) T ++ drop (i + 1) to₀
one_more T to₀ i h k s e = rw (s, e, add-one) (simp zero-add at (paste-suc to₀ 0 T i 0 (omega arith) h))

row_inside : (row rows x y : ℕ) → (0 < row → x < row) → y * row + x < row * rows → (x < row) × (y < rows)
row_inside zero rows x y h l = let z = zero-mul rows in absurd (omega arith)
row_inside (suc n) rows x y h l = (h (omega arith), go (dec_lt y rows))
  where
    go : Dec (y < rows) → y < rows
    go (yes k) = k
    go (no k) = let above : rows ≤ y = omega arith in absurd (omega (arith, mul-le-mul_right (suc n) above, mul_comm (suc n) rows))

module _ {T : List ℕ} {first row rows : ℕ} {to₀ to : List ℕ} {e x y : ℕ}
    (fits : 2 * (first + row * rows) ≤ length T) (long : length T ≤ length to₀) (l : Laying T first row rows to₀ to e x y) where
  pub laying_inside : e < first + row * rows → (x < row) × (y < rows)
  laying_inside more = row_inside row rows x y l.inside (omega (arith, l.place))

  module _ (more : e < first + row * rows) {a b : ℕ} (even : a ≡ get_or T (2 * e) 0) (odd : b ≡ get_or T (2 * e + 1) 0) where
    two_more : set (set to (2 * e) a) (2 * e + 1) b ≡ take (2 * (e + 1)) T ++ drop (2 * (e + 1)) to₀
    two_more =
        let i : 2 * (e + 1) ≡ 2 * e + 1 + 1 = omega arith in
        rw i (one_more T to₀ (2 * e + 1) (omega arith) long (one_more T to₀ (2 * e) (omega arith) long l.same even) odd)

    size_kept : length (set (set to (2 * e) a) (2 * e + 1) b) ≡ length to₀
    size_kept = length-set (set to (2 * e) a) (2 * e + 1) b ∙ length-set to (2 * e) a ∙ l.size

    pub laying_on : x + 1 < row → Laying T first row rows to₀ (set (set to (2 * e) a) (2 * e + 1) b) (e + 1) (x + 1) y
    laying_on h = record {
      size = size_kept;
      place = omega (arith, l.place);
      inside = λ _. h;
      narrow = omega arith;
      low = l.low;
      bound = omega arith;
      same = two_more;
    }

    pub laying_over : x + 1 ≡ row → Laying T first row rows to₀ (set (set to (2 * e) a) (2 * e + 1) b) (e + 1) 0 (y + 1)
    laying_over h = record {
      size = size_kept;
      place = let m = suc-mul y row in rw (add-one y) (omega (arith, l.place));
      inside = λ k. k;
      narrow = omega arith;
      low = let (i, j) = laying_inside more in omega arith;
      bound = omega arith;
      same = two_more;
    }

  pub laying_ends : first + row * rows ≤ e → to ≡ over (take (2 * (first + row * rows)) T) to₀
  unfolding over
  laying_ends none =
      let i : e ≡ first + row * rows = omega (arith, l.bound) in
      rw (length-take-le (2 * (first + row * rows)) T fits) (rw (← i) l.same)
