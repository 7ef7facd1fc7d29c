-- A test's answer with the work area after it, as `triedIf` has it, taken apart.
--
--   tried_yes == the answer is yes: the test passed, and the work area is the one for yes
--   tried_no  == the answer is no: the test failed, and the work area is the one for no
--   not-true, not-false == an answer by its denial
use mathlib.Core.Bool.{Bool, true, false, not}
use mathlib.Core.List.{List}
use mathlib.Core.Path.{◌≡◌, refl, ap}
use Prim.Native.Nat.{ℕ}
use native.Mathlib.Omega.{arith}
use Rattle.area.specs.Area.{Tried, tried, tried_if}

pub tried_yes : (b : Bool) (w v : List ℕ) {u : List ℕ} → tried true u ≡ tried_if b w v → (b ≡ true) × (u ≡ v)
tried_yes true w v e = (refl, ap (λ (t : Tried). t.work) e)
tried_yes false w v e =
    let f : true ≡ false = ap (λ (t : Tried). t.fine) e in
    let z : ◌≡◌ {A = ℕ} 0 1 = cc in
    absurd (omega arith)

pub tried_no : (b : Bool) (w v : List ℕ) {u : List ℕ} → tried false u ≡ tried_if b w v → (b ≡ false) × (u ≡ w)
tried_no false w v e = (refl, ap (λ (t : Tried). t.work) e)
tried_no true w v e =
    let f : false ≡ true = ap (λ (t : Tried). t.fine) e in
    let z : ◌≡◌ {A = ℕ} 0 1 = cc in
    absurd (omega arith)

pub not-true : (b : Bool) → true ≡ not b → b ≡ false
not-true true e = e
not-true false e = refl

pub not-false : (b : Bool) → false ≡ not b → b ≡ true
not-false true e = refl
not-false false e = e
