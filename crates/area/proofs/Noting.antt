-- One dart noted: a step of the linking.
--   Noted D n w x r v == what noting dart x told, r, and left, v
--   noted             == the linking goes on with the next dart, or stops there
use mathlib.Core.Bool.{Bool, true, false}
use mathlib.Core.List.{List}
use mathlib.Core.Path.{◌≡◌, refl, sym, subst}
use Prim.Native.Nat.{ℕ, suc, ◌+◌}
use lib.Dec.{T, eqb, leb}
use lib.ListN.{length, set, length-set}
use Rattle.std.proofs.Common.{if◌then◌else◌}
use Rattle.darts.specs.Map.{successor, culprits}
use Rattle.area.specs.Area.{prev, Tried, tried, tried_if}
use Rattle.area.specs.Verdicts.{said}
use Rattle.area.specs.Load.{gone_in, notes, beside_in, links}

pub record Noted (D n : ℕ) (w : List ℕ) (x : ℕ) (r : Bool) (v : List ℕ) : Type 0 where
  pub size : length v ≡ length w
  pub on : r ≡ true → (m : ℕ) → links D n w x (suc m) ≡ links D n v (suc x) m
  pub stop : r ≡ false → (m : ℕ) → links D n w x (suc m) ≡ said (culprits x (beside_in D v x)) v

module _ (D n : ℕ) (w : List ℕ) (x : ℕ) where
  abbrev y : ℕ
  y = successor w x

  abbrev after : Bool → Bool → Bool → Tried
  after far gone free = if far then tried false w else if gone then tried true w else tried_if free w (set w (D + y) x)

  each : (far gone free : Bool) → leb D y ≡ far → gone_in D n w x ≡ gone → eqb (prev D w y) (D + 1) ≡ free
      → Noted D n w x (after far gone free).fine (after far gone free).work
  unfolding links beside_in
  each true gone free a g f = record { size = refl; on = λ k. absurd (subst T (sym k) tt); stop = λ k m. rw a }
  each false true free a g f = record { size = refl; on = λ k m. rw (a, g); stop = λ k. absurd (subst T k tt) }
  each false false true a g f = record { size = length-set w (D + y) x; on = λ k m. rw (a, g, f); stop = λ k. absurd (subst T k tt) }
  each false false false a g f = record { size = refl; on = λ k. absurd (subst T (sym k) tt); stop = λ k m. rw (a, g, f) }

  pub noted : {r : Bool} {v : List ℕ} → tried r v ≡ notes D n w x → Noted D n w x r v
  unfolding notes
  noted e = subst (λ (a : Tried). Noted D n w x a.fine a.work) (sym e) (each (leb D y) (gone_in D n w x) (eqb (prev D w y) (D + 1)) refl refl refl)
