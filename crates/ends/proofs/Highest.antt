-- "the top is the highest level there" (document 02, request Four).
--   Reached ends L == the level L is 0, or one of the ends has it
--   Highest ends L == no end has a level above L, and L is reached
--   top_highest    == the top is so
--   top_only       == no other level is
use mathlib.Core.Bool.{Bool, true, false}
use mathlib.Core.List.{List, [], ◌∷◌}
use mathlib.Core.Path.{◌≡◌, refl, sym, ◌∙◌}
use Prim.Native.Nat.{ℕ, suc, ◌≤◌, ◌<◌}
use native.Mathlib.Omega.{arith}
use lib.Dec.{ltb}
use lib.ListN.{length, get_or}
use Rattle.std.proofs.Common.{if◌then◌else◌}
use Rattle.ends.specs.Ends.{level_of, top}
use Rattle.ends.proofs.Levels.{level_top}

pub data Reached (ends : List ℕ) (L : ℕ) : Type 0 where
  base : L ≡ 0 → Reached ends L
  end : (e : ℕ) → e < length ends → level_of (get_or ends e 0) ≡ L → Reached ends L

pub record Highest (ends : List ℕ) (L : ℕ) : Type 0 where
  pub above : (e : ℕ) → e < length ends → level_of (get_or ends e 0) ≤ L
  pub reached : Reached ends L

top_reached : (ends : List ℕ) → Reached ends (top ends)
unfolding top
top_reached [] = base refl
top_reached (v ∷ ends) = go (ltb (top ends) (level_of v)) (top_reached ends)
  where
    later : Reached ends (top ends) → Reached (v ∷ ends) (top ends)
    later (base z) = base z
    later (end e l s) = end (suc e) (omega arith) s

    go : (b : Bool) → Reached ends (top ends) → Reached (v ∷ ends) (if b then level_of v else top ends)
    go true r = end 0 (omega arith) refl
    go false r = later r

-- THE TOP IS THE HIGHEST LEVEL
pub top_highest : (ends : List ℕ) → Highest ends (top ends)
top_highest ends = record { above = λ e l. level_top ends e; reached = top_reached ends }

pub top_only : (ends : List ℕ) (L : ℕ) → Highest ends L → L ≡ top ends
top_only ends L H = go H.reached (top_reached ends)
  where
    go : Reached ends L → Reached ends (top ends) → L ≡ top ends
    go (base z) (base y) = z ∙ sym y
    go (base z) (end e l s) = let h = H.above e l in omega arith
    go (end e l s) (base y) = let h = level_top ends e in omega arith
    go (end e l s) (end i m y) = let h = level_top ends e in let g = H.above i m in omega arith
