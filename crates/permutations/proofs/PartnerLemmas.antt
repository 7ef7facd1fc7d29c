-- What holds of the partner of a dart: by the last bit, by the edge, as a pairing, and of the darts of an edge.
use Rattle.std.specs.Prelude.{◌≢◌, ◌⊎◌, ◌≡◌, ℕ, ◌%◌, ◌+◌, ◌-◌, ◌*◌, ◌/◌, ◌<◌}
use Rattle.std.proofs.Common.{inl, inr, ⊎_elim, ap, ◌∙◌, subst, sym, arith}
use Rattle.std.proofs.Math.Decide.{ℕ_discrete}
use Rattle.permutations.specs.Choice.{eqb_same, eqb_other}
use Rattle.permutations.specs.Partner.{partner, End}

-- ---- by the last bit

pub partner_even : (x : ℕ) → x % 2 ≡ 0 → partner x ≡ x + 1
unfolding partner
partner_even x e = rw (eqb_same e)

pub partner_odd : (x : ℕ) → x % 2 ≢ 0 → partner x ≡ x - 1
unfolding partner
partner_odd x n = rw (eqb_other n)

-- even and one more, or odd and one less
pub partner_cases : (x : ℕ) → ((x % 2 ≡ 0) × (partner x ≡ x + 1)) ⊎ ((x % 2 ≡ 1) × (partner x ≡ x - 1))
partner_cases x = go (ℕ_discrete (x % 2) 0)
  where
    go : Dec (x % 2 ≡ 0) → ((x % 2 ≡ 0) × (partner x ≡ x + 1)) ⊎ ((x % 2 ≡ 1) × (partner x ≡ x - 1))
    go (yes e) = inl (e, partner_even x e)
    go (no n) = inr (omega arith, partner_odd x n)

-- ---- by the edge

pub partner_first : (e : ℕ) → partner (2 * e) ≡ 2 * e + 1
partner_first e = partner_even (2 * e) (omega arith)

pub partner_second : (e : ℕ) → partner (2 * e + 1) ≡ 2 * e
partner_second e = let h = partner_odd (2 * e + 1) (omega arith) in omega arith

-- the partner is on the same edge
pub partner_edge : (x : ℕ) → partner x / 2 ≡ x / 2
partner_edge x = ⊎_elim (λ a. omega arith) (λ a. omega arith) (partner_cases x)

-- ---- a pairing

pub partner_ne : (x : ℕ) → x ≢ partner x
partner_ne x = ⊎_elim (λ a. omega arith) (λ a. omega arith) (partner_cases x)

pub partner_partner : (x : ℕ) → partner (partner x) ≡ x
partner_partner x = ⊎_elim
    (λ a. let h = partner_odd (partner x) (omega arith) in omega arith)
    (λ a. let h = partner_even (partner x) (omega arith) in omega arith) (partner_cases x)

-- an even number of darts holds each dart with its partner
pub partner_below : (D x : ℕ) → x < D → D % 2 ≡ 0 → partner x < D
partner_below D x h e = ⊎_elim (λ a. omega arith) (λ a. omega arith) (partner_cases x)

-- ---- the darts of an edge

pub end_partner : {p x : ℕ} → End p x → End p (partner x)
end_partner {p} = ⊎_elim (λ e. inr (ap partner e)) (λ e. inl (ap partner e ∙ partner_partner p))

pub partner_end : {p x : ℕ} → End p (partner x) → End p x
partner_end {p} {x} e = subst (End p) (partner_partner x) (end_partner e)

pub end_sym : {p x : ℕ} → End p x → End x p
end_sym {p} {x} = ⊎_elim (λ e. inl (sym e)) (λ e. inr (sym (partner_partner p) ∙ ap partner (sym e)))
