-- What a step from one state to the next gives.
--   Given r          == the result r is no refusal
--   Then r f z u new == the step f after r, taken apart: what r gives, and f from there
use mathlib.Core.List.{List}
use mathlib.Core.Logic.{◌≢◌}
use mathlib.Core.Path.{◌≡◌, refl, subst₃}
use Prim.Native.Nat.{ℕ}
use native.Mathlib.Omega.{arith}
use Rattle.darts.specs.Answers.{Answer}
use Rattle.darts.specs.State.{State, Result, gives, refuses, and_then}

pub record Given (r : Result) : Type 0 where
  pub state : State
  pub table : List ℕ
  pub past : List ℕ
  pub given : r ≡ gives state table past

pub record Then (r : Result) (f : State → List ℕ → List ℕ → Result) (z : State) (u new : List ℕ) : Type 0 where
  pub state : State
  pub table : List ℕ
  pub past : List ℕ
  pub first : r ≡ gives state table past
  pub next : f state table past ≡ gives z u new

pub refuses≢gives : {a : Answer} {z : State} {u new : List ℕ} → refuses a ≢ gives z u new
refuses≢gives e = let z : ◌≡◌ {A = ℕ} 0 1 = cc in omega arith

-- what holds of a result holds of the same result
pub same_result : (P : State → List ℕ → List ℕ → Type 0) {s : State} {t past : List ℕ} {z : State} {u new : List ℕ}
    → gives s t past ≡ gives z u new → P s t past → P z u new
same_result P {s} {t} {past} {z} {u} {new} e h =
    let state : s ≡ z = cc in
    let table : t ≡ u = cc in
    let history : past ≡ new = cc in
    subst₃ P state table history h

-- ---- one step after another

pub then : (r : Result) (f : State → List ℕ → List ℕ → Result) {z : State} {u new : List ℕ} → and_then r f ≡ gives z u new → Then r f z u new
then (gives s t past) f e = record { state = s; table = t; past = past; first = refl; next = e }
then (refuses a) f e = absurd (refuses≢gives e)

pub then_gives : (r : Result) → and_then r gives ≡ r
then_gives (gives s t past) = refl
then_gives (refuses a) = refl

pub then_then : (r : Result) (f g : State → List ℕ → List ℕ → Result) → and_then (and_then r f) g ≡ and_then r (λ s t past. and_then (f s t past) g)
then_then (gives s t past) f g = refl
then_then (refuses a) f g = refl
