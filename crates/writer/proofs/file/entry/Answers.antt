-- `writer::file::entry` meets its contract: from a listed dart to its successor, and from there to its number, each within its part.
use mathlib.Core.List.{List}
use mathlib.Core.Path.{◌≡◌}
use Prim.Native.Nat.{ℕ, ◌+◌, ◌*◌, ◌<◌}
use native.Mathlib.Omega.{arith}
use lib.ListN.{get_or}
use Rattle.writer.specs.Numbering.{Dense, renamed}
use Rattle.writer.proofs.file.entry.Goals as goal

module _ {D : ℕ} {w : List ℕ} (dense : Dense D w) {i x : ℕ} (h : i < D) (e : x ≡ get_or w (2 * D + i) 0) where
  listed : x < D
  listed = rw e (dense.each (2 * D + i) (omega arith))

  module _ {y : ℕ} (f : y ≡ get_or w x 0) where
    follows : y < D
    follows = let l = listed in rw f (dense.each x (omega arith))

    named : {z : ℕ} → z ≡ get_or w (D + y) 0 → (z ≡ renamed D w (get_or w (2 * D + i) 0)) × (z < D)
    unfolding renamed
    named g = let l = follows in (rw (g, f, e), rw g (dense.each (D + y) (omega arith)))

pub returns : goal.returns
returns c = named c.requires.dense c.requires.i_lt_d c.at-x.ensures c.at-y.ensures c.at.ensures
