-- The survivors by rising number, one dart more.
--   survivors_yes, survivors_no == the next dart survives, or is gone
use mathlib.Core.Bool.{true, false}
use mathlib.Core.List.{List, [], ◌∷◌, ◌++◌}
use mathlib.Core.Path.{◌≡◌}
use Prim.Native.Nat.{ℕ, suc}
use Rattle.darts.specs.Map.{survives}
use Rattle.darts.specs.File.{survivors}

module _ (past : List ℕ) (n : ℕ) where
  pub survivors_yes : survives past n ≡ true → survivors past (suc n) ≡ survivors past n ++ (n ∷ [])
  unfolding survivors
  survivors_yes e = rw e

  pub survivors_no : survives past n ≡ false → survivors past (suc n) ≡ survivors past n
  unfolding survivors
  survivors_no e = rw e
