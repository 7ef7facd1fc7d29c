-- `pyramid::counting::tallied` meets its contract: each part is small, so no sum leaves 32 bits.
use mathlib.Core.Path.{◌≡◌, ap, ap₂, ◌∙◌}
use Prim.Native.Nat.{ℕ, ◌/◌, ◌≤◌, ◌<◌, ◌^◌}
use native.Mathlib.Omega.{arith}
use lib.Dec.{lit<}
use lib.IntN.{ℤ, pos, ◌+ℤ◌, ◌-ℤ◌}
use mir.Facts.{to_z_pos, to_z-of_z}
use mir.Syntax.{w32}
use mir.Val.{SFits, to_z, of_z}
use Rattle.pyramid.proofs.Signed.{mag_sub, mag_add, fits_32}
use Rattle.pyramid.proofs.counting.tallied.Goals as goal

-- a number of at most 65,536 read as a signed one
plain : (n : ℕ) → n ≤ 65536 → to_z w32 n ≡ pos n
plain n h = to_z_pos w32 (let l : 65536 < 2 ^ 31 = lit< tt in omega arith)

module _ (v e f : ℕ) (hv : v ≤ 65536) (he : e ≤ 65536) (hf : f ≤ 65536) where
  below : SFits w32 (pos v -ℤ pos e)
  below = let h = mag_sub v e in fits_32 h (omega arith)

  whole : SFits w32 (pos v -ℤ pos e +ℤ pos f)
  whole = let h = mag_sub v e in let k = mag_add (pos v -ℤ pos e) f in fits_32 k (omega arith)

  difference : SFits w32 (to_z w32 v -ℤ to_z w32 e)
  difference = rw (plain v hv, plain e he) below

  back : to_z w32 (of_z w32 (to_z w32 v -ℤ to_z w32 e)) ≡ pos v -ℤ pos e
  back = to_z-of_z difference ∙ ap₂ (λ (a b : ℤ). a -ℤ b) (plain v hv) (plain e he)

  sum : SFits w32 (to_z w32 (of_z w32 (to_z w32 v -ℤ to_z w32 e)) +ℤ to_z w32 f)
  sum = rw (back, plain f hf) whole

  result : to_z w32 (of_z w32 (to_z w32 (of_z w32 (to_z w32 v -ℤ to_z w32 e)) +ℤ to_z w32 f)) ≡ pos v -ℤ pos e +ℤ pos f
  result = to_z-of_z sum ∙ ap₂ (λ (a b : ℤ). a +ℤ b) back (plain f hf)

pub overflow_sub-euler : goal.overflow_sub-euler
overflow_sub-euler c = let g = c.args in difference g.vertices (g.darts / 2) g.faces c.requires.1 (omega arith) c.requires.2

pub overflow_add-euler : goal.overflow_add-euler
overflow_add-euler c = let g = c.args in sum g.vertices (g.darts / 2) g.faces c.requires.1 (omega arith) c.requires.2

pub returns : goal.returns
returns c =
    let g = c.args in
    ap (λ (x : ℤ). record { darts = g.darts; vertices = g.vertices; faces = g.faces; euler = x })
    (result g.vertices (g.darts / 2) g.faces c.requires.1 (omega arith) c.requires.2)
