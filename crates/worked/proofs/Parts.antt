-- What a worked example says of a call, part by part.
--   numbers_of_lem    == what holds of the definition's result holds of what the call left: the numbers that the state stores
--   is_false, is_true == a bool by its denial
use mathlib.Core.Bool.{Bool, true, false, not}
use mathlib.Core.List.{List}
use mathlib.Core.Path.{◌≡◌, refl, sym, ap, ◌∙◌}
use Prim.Native.Nat.{ℕ}
use Rattle.darts.specs.Calls.{After}
use Rattle.worked.specs.Chain.{Left, left_of, left_is}

pub numbers_of_lem : {a b : After} (n : ℕ × ℕ × ℕ) (u v : List ℕ) (s : ℕ × ℕ) → a ≡ b → left_of b ≡ left_is n u v s
    → (a.state.vertices, a.state.faces) ≡ s
numbers_of_lem n u v s e k = ap (λ (z : After). (left_of z).stored) e ∙ ap (λ (z : Left). z.stored) k

pub is_false : (b : Bool) → not b ≡ true → b ≡ false
is_false true e = sym e
is_false false e = refl

pub is_true : (b : Bool) → not b ≡ false → b ≡ true
is_true true e = refl
is_true false e = sym e
