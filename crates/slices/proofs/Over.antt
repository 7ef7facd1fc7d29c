-- Numbers over the first ones of a slice.
--   over_front, over_rest, over_length == the new numbers stand first, the others stay, and the slice keeps its length
--   over_own  == a slice's own first numbers change nothing
--   same_slice == slices that are alike before n and from n on are the same
--   drop_more == slices that are alike from n on are alike from any later place on
use mathlib.Core.List.{List, ◌++◌}
use mathlib.Core.Path.{◌≡◌, sym, ap, ap₂, ◌∙◌}
use Prim.Native.Nat.{ℕ, ◌+◌, ◌-◌, ◌≤◌}
use native.Mathlib.Omega.{arith}
use lib.ListN.{length, take, drop, length-append, length-drop, take-append-drop}
use lib.Seq.{drop-drop, length-take-le, take-append_seam, drop-append_seam}
use Rattle.slices.specs.Over.{over}

module _ (new old : List ℕ) where
  pub over_front : take (length new) (over new old) ≡ new
  unfolding over
  over_front = take-append_seam new (drop (length new) old)

  pub over_rest : drop (length new) (over new old) ≡ drop (length new) old
  unfolding over
  over_rest = drop-append_seam new (drop (length new) old)

  pub over_length : length new ≤ length old → length (over new old) ≡ length old
  unfolding over
  over_length h = simp (length-append, length-drop) (omega arith)

pub over_own : (n : ℕ) (l : List ℕ) → n ≤ length l → over (take n l) l ≡ l
unfolding over
over_own n l h = rw (length-take-le n l h) (take-append-drop n l)

-- alike before n and alike from n on
pub same_slice : (n : ℕ) (l k : List ℕ) → take n l ≡ take n k → drop n l ≡ drop n k → l ≡ k
same_slice n l k e f = sym (take-append-drop n l) ∙ ap₂ ◌++◌ e f ∙ take-append-drop n k

pub drop_more : (n m : ℕ) (v w : List ℕ) → n ≤ m → drop n v ≡ drop n w → drop m v ≡ drop m w
drop_more n m v w h e =
    let s : m ≡ n + (m - n) = omega arith in
    rw s (sym (drop-drop (m - n) n v) ∙ ap (drop (m - n)) e ∙ drop-drop (m - n) n w)
