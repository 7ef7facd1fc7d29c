-- The dart before a survivor.
--   Leads n t past x b == b is below n, it survives, and it leads to x
use mathlib.Core.Bool.{Bool, ◌&&◌}
use mathlib.Core.List.{List}
use mathlib.Core.Logic.Iff
use mathlib.Core.Logic.{◌≢◌, ◌↔◌}
use mathlib.Core.Path.{◌≡◌, sym, ◌∙◌}
use Prim.Native.Nat.{ℕ, zero, suc, ◌<◌}
use native.Mathlib.Nat.{not-suc-le-zero}
use native.Mathlib.Omega.{arith}
use lib.Dec.{T, eqb}
use Rattle.permutations.specs.Choice.{pick, T?, T→true, not_T→false, eqb_iff, and_iff}
use Rattle.darts.specs.Map.{successor, survives, before_in, before}
use Rattle.laws.specs.Standing.{Standing}
use Rattle.laws.proofs.bridge.Standing.{live, live_iff, next_entry, entry_one}

pub record Leads (n : ℕ) (t past : List ℕ) (x b : ℕ) : Type 0 where
  pub small : b < n
  pub survive : T (survives past b)
  pub leads : successor t b ≡ x

-- where some survivor leads to x, the search finds one that does
found_in : (n : ℕ) {t past : List ℕ} {x y : ℕ} → Leads n t past x y → Leads n t past x (before_in n t past x)
unfolding before_in
found_in zero l = absurd (not-suc-le-zero l.small)
found_in (suc n) {t} {past} {x} {y} l = go (T? test) (λ h. found_in n (earlier h))
  where
    test : Bool
    test = survives past n && eqb (successor t n) x

    test_iff : T test ↔ (T (survives past n) × (successor t n ≡ x))
    test_iff = and_iff (survives past n) (eqb (successor t n) x) Iff.rfl (λ s. eqb_iff (successor t n) x)

    earlier : ¬ T test → Leads n t past x y
    earlier h =
        let other : y ≢ n = λ e. h (test_iff.1 (rw (← e) l.survive, rw (← e) l.leads)) in
        record { small = omega (arith, l.small); survive = l.survive; leads = l.leads }

    go : Dec (T test) → (¬ T test → Leads n t past x (before_in n t past x)) → Leads (suc n) t past x (pick test n (before_in n t past x))
    go (yes h) rest = let i = test_iff.0 h in rw (T→true test h) (record { small = omega arith; survive = i.0; leads = i.1 })
    go (no h) rest = let l = rest h in rw (not_T→false test h) (record { small = omega (arith, l.small); survive = l.survive; leads = l.leads })

pub found : {D : ℕ} {t past : List ℕ} {x y : ℕ} → Leads D t past x y → Leads D t past x (before D t past x)
unfolding before
found {D} l = found_in D l

-- what leads is live
pub leads_live : {D : ℕ} {t past : List ℕ} {x b : ℕ} → Leads D t past x b → T (live D past b)
leads_live {D} {t} {past} {x} {b} l = (live_iff D past b).1 (l.small, l.survive)

live_leads : {D : ℕ} {t past : List ℕ} {x b : ℕ} → T (live D past b) → successor t b ≡ x → Leads D t past x b
live_leads {D} {t} {past} {x} {b} h e = let i = (live_iff D past b).0 h in record { small = i.0; survive = i.1; leads = e }

module _ {D : ℕ} {t past : List ℕ} (S : Standing D t past) where
  -- the map's inverse leads to a survivor
  behind : (x : ℕ) → T (live D past x) → Leads D t past x (S.good.perm.inv x)
  behind x h = go (T? (live D past y))
    where
      y : ℕ
      y = S.good.perm.inv x

      go : Dec (T (live D past y)) → Leads D t past x y
      go (yes k) = live_leads k (sym (next_entry S y k) ∙ S.good.perm.forth x)
      go (no n) = let e : y ≡ x = sym (S.good.gone y n) ∙ S.good.perm.forth x in absurd (n (rw e h))

  -- the dart before a survivor survives and leads to it, and it alone does
  pub before_live : (x : ℕ) → T (live D past x) → T (live D past (before D t past x))
  before_live x h = leads_live (found (behind x h))

  pub before_leads : (x : ℕ) → T (live D past x) → successor t (before D t past x) ≡ x
  before_leads x h = (found (behind x h)).leads

  pub before_only : (x y : ℕ) → T (live D past y) → successor t y ≡ x → y ≡ before D t past x
  before_only x y h e =
      let b = found (live_leads h e) in
      entry_one S y h (before D t past x) (leads_live b) (e ∙ sym b.leads)
