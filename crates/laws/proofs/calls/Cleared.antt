-- The work area cleared.
--   cleared_is   == 4D zeros, and the rest as it was
--   cleared_zero, cleared_rest, cleared_length == its first 4D numbers are zero, the others stay, and it keeps its length
--   cleared_kept == only what stands from 4D on matters
use mathlib.Core.List.{List, ◌++◌}
use mathlib.Core.Path.{◌≡◌, sym, ap, ◌∙◌}
use Prim.Native.Nat.{ℕ, ◌*◌, ◌≤◌}
use lib.ListN.{length, take, drop, replicate, length-replicate}
use lib.Seq.{drop_at, take_at}
use Rattle.darts.specs.Calls.{cleared}
use Rattle.slices.proofs.Over.{over_length}
use Rattle.slices.specs.Over.{over}

pub cleared_is : (D : ℕ) (w : List ℕ) → cleared D w ≡ replicate (4 * D) 0 ++ drop (4 * D) w
unfolding cleared over
cleared_is D w = ap (λ (n : ℕ). replicate (4 * D) 0 ++ drop n w) (length-replicate {A = ℕ} (4 * D) 0)

pub cleared_zero : (D : ℕ) (w : List ℕ) → take (4 * D) (cleared D w) ≡ replicate (4 * D) 0
cleared_zero D w =
    ap (take (4 * D)) (cleared_is D w) ∙ take_at (replicate (4 * D) 0) (drop (4 * D) w) (4 * D) (length-replicate {A = ℕ} (4 * D) 0)

pub cleared_rest : (D : ℕ) (w : List ℕ) → drop (4 * D) (cleared D w) ≡ drop (4 * D) w
cleared_rest D w =
    ap (drop (4 * D)) (cleared_is D w) ∙ drop_at (replicate (4 * D) 0) (drop (4 * D) w) (4 * D) (length-replicate {A = ℕ} (4 * D) 0)

pub cleared_length : (D : ℕ) (w : List ℕ) → 4 * D ≤ length w → length (cleared D w) ≡ length w
unfolding cleared
cleared_length D w h = over_length (replicate (4 * D) 0) w (simp length-replicate h)

pub cleared_kept : (D : ℕ) (w v : List ℕ) → drop (4 * D) v ≡ drop (4 * D) w → cleared D v ≡ cleared D w
cleared_kept D w v e =
    cleared_is D v ∙ ap (λ (l : List ℕ). replicate (4 * D) 0 ++ l) e ∙ sym (cleared_is D w)
