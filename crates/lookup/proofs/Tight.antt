-- No two outcomes satisfy the statement of the lookup.
--   SameLooked  == what is handed back is the same, and every lent slice
--   looked_one  == what the lookup leaves tells what it handed back and every lent slice
--   lookup_one  == so no two outcomes satisfy the call's statement
use mathlib.Core.List.{List}
use mathlib.Core.Path.{◌≡◌, sym, ap, ◌∙◌}
use Prim.Native.Nat.{ℕ}
use Rattle.std.proofs.Common.{Result}
use Rattle.darts.specs.declared.Refusal.{Refusal}
use Rattle.pyramid.proofs.Tight.{result_one}
use Rattle.ends.specs.Lookup.{Looked, successor_at}
use Rattle.lookup.specs.Values.{found_of, looked}
use Rattle.lookup.specs.declared.Followed.{Followed}

followed_one : (f g : Followed) → found_of f ≡ found_of g → f ≡ g
followed_one f g e = λ i. record { dart = (e i).dart; passed = (e i).passed }

pub record SameLooked (l m : Result Followed Refusal) (t u h g w v : List ℕ) : Type 0 where
  pub back : l ≡ m
  pub table : t ≡ u
  pub ends : h ≡ g
  pub work : w ≡ v

module _ (l m : Result Followed Refusal) (t u h g w v : List ℕ) where
  pub looked_one : (a : Looked) → looked l t h w ≡ a → looked m u g v ≡ a → SameLooked l m t u h g w v
  looked_one a d e =
      let c : looked l t h w ≡ looked m u g v = d ∙ sym e in
      record {
        back = result_one l m (ap (λ (z : Looked). z.answer) c)
            (λ f g is it. followed_one f g (rw (is, it) at (ap (λ (z : Looked). z.found) c)));
        table = ap (λ (z : Looked). z.table) c;
        ends = ap (λ (z : Looked). z.ends) c;
        work = ap (λ (z : Looked). z.work) c;
      }

  -- NO TWO OUTCOMES OF THE LOOKUP SATISFY ITS STATEMENT
  pub lookup_one : (D k x : ℕ) (t₀ h₀ w₀ : List ℕ) → looked l t h w ≡ successor_at D k x t₀ h₀ w₀
      → looked m u g v ≡ successor_at D k x t₀ h₀ w₀ → SameLooked l m t u h g w v
  lookup_one D k x t₀ h₀ w₀ = looked_one (successor_at D k x t₀ h₀ w₀)
