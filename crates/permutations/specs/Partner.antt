-- Darts go in pairs, 0 and 1, 2 and 3, and so on: edge e has the darts 2e and 2e+1.
--   partner x == the other dart of x's edge
--   End p x   == x is a dart of p's edge: p or its partner
use Rattle.std.specs.Prelude.{◌⊎◌, ◌≡◌, ℕ, ◌%◌, ◌+◌, ◌-◌, eqb}
use Rattle.std.proofs.Common.{inl, inr, ⊎_elim}
use Rattle.std.proofs.Math.Decide.{ℕ_discrete}
use Rattle.permutations.specs.Choice.{pick}

-- "The partner of an even dart is one more, of an odd dart one less."
unfoldable pub partner : ℕ → ℕ
partner x = pick (eqb (x % 2) 0) (x + 1) (x - 1)

-- ---- the darts of an edge

abbrev pub End : ℕ → ℕ → Type 0
End p x = (x ≡ p) ⊎ (x ≡ partner p)

pub end? : (p x : ℕ) → Dec (End p x)
end? p x = go (ℕ_discrete x p) (ℕ_discrete x (partner p))
  where
    go : Dec (x ≡ p) → Dec (x ≡ partner p) → Dec (End p x)
    go (yes e) d = yes (inl e)
    go (no n) (yes e) = yes (inr e)
    go (no n) (no k) = no (⊎_elim n k)
