-- An edge put back into the work area: a leads to p and b to q, p to r and q to s.
--   Onward D past w p a b c == p or q leads to c: a survivor once the edge is back, to which a and b alone led
--   Gap D past w p r s a b  == the edge of p fits between a, b and r, s; past is without its operation
--   inserted_rebound        == what the work area holds then
--   inserted_noted          == each survivor is noted before its successor
use mathlib.Core.List.{List}
use mathlib.Core.Logic.{◌≢◌, inl, inr, ⊎_elim}
use Prim.Native.Nat.{ℕ, ◌*◌, ◌≤◌, ◌<◌}
use lib.Dec.{T}
use lib.ListN.{length, set}
use Rattle.permutations.specs.Partner.{partner, End}
use Rattle.permutations.proofs.PartnerLemmas.{partner_ne}
use Rattle.darts.specs.Map.{successor, live}
use Rattle.area.specs.Area.{table_in, bound}
use Rattle.operations.specs.Back.{inserted}
use Rattle.laws.proofs.bridge.Standing.{live_iff}
use Rattle.engine.proofs.Parts.{Noted, bound_length, bound_noted, bound_avoids}
use Rattle.engine.proofs.Rebound.{Rebound, unbound, rebind}

pub record Onward (D : ℕ) (past w : List ℕ) (p a b c : ℕ) : Type 0 where
  pub lives : T (live D past c)
  pub not_p : p ≢ c
  pub not_q : ¬ End p b → partner p ≢ c
  pub only : (z : ℕ) → T (live D past z) → ¬ End p z → z ≢ a → z ≢ b → successor w z ≢ c

pub record Gap (D : ℕ) (past w : List ℕ) (p r s a b : ℕ) : Type 0 where
  pub p_lives : T (live D past p)
  pub q_lives : T (live D past (partner p))
  pub r_on : Onward D past w p a b r
  pub s_on : Onward D past w p a b s
  pub apart : r ≢ s
  pub a_small : a < D
  pub b_small : b < D
  pub noted : (z : ℕ) → T (live D past z) → ¬ End p z → Noted D w z
  pub away : (z : ℕ) → T (live D past z) → ¬ End p z → ¬ End p (successor w z)

module _ {D : ℕ} {past w : List ℕ} {p r s a b : ℕ} (G : Gap D past w p r s a b) where
  abbrev q : ℕ
  q = partner p

  small : {x : ℕ} → T (live D past x) → x < D
  small {x} h = ((live_iff D past x).0 h).0

  p_d : p < D
  p_d = small G.p_lives

  q_d : q < D
  q_d = small G.q_lives

  r_d : r < D
  r_d = small G.r_on.lives

  s_d : s < D
  s_d = small G.s_on.lives

  abbrev w₁ : List ℕ
  w₁ = bound D w a p

  abbrev w₂ : List ℕ
  w₂ = bound D w₁ b q

  abbrev w₃ : List ℕ
  w₃ = bound D w₂ p r

  pub inserted_rebound : Rebound D past w (inserted D w p q r s a b) (set (set (set (set (table_in D w) a p) b q) p r) q s)
  unfolding inserted
  inserted_rebound =
      rebind (rebind (rebind (rebind (unbound D past w) a p G.a_small G.p_lives) b q G.b_small G.q_lives)
      p r p_d G.r_on.lives) q s q_d G.s_on.lives

  pub inserted_noted : 2 * D ≤ length w → (z : ℕ) → T (live D past z) → Noted D (inserted D w p q r s a b) z
  unfolding inserted
  inserted_noted fits z h =
      bound_noted D w₃ q_d s_d fits₃ z z_d (λ zq. (
        bound_noted D w₂ p_d r_d fits₂ z z_d (λ zp. (
          bound_noted D w₁ G.b_small q_d fits₁ z z_d (λ zb. (
            bound_noted D w G.a_small p_d fits z z_d (λ za. (G.noted z h (other zp zq), λ c. G.away z h (other zp zq) (inl c))),
            bound_avoids D w G.a_small p_d fits q z z_d (λ i. partner_ne p) (λ za c. G.away z h (other zp zq) (inr c)),
          )),
          avoids (other zp zq) G.r_on,
        )),
        bound_avoids D w₂ p_d r_d fits₂ s z z_d (λ i. G.apart) (λ zp. avoids (other zp zq) G.s_on),
      ))
    where
      z_d : z < D
      z_d = small h

      other : z ≢ p → z ≢ q → ¬ End p z
      other zp zq = ⊎_elim zp zq

      fits₁ : 2 * D ≤ length w₁
      fits₁ = rw (bound_length D w G.a_small p_d) fits

      fits₂ : 2 * D ≤ length w₂
      fits₂ = rw (bound_length D w₁ G.b_small q_d) fits₁

      fits₃ : 2 * D ≤ length w₃
      fits₃ = rw (bound_length D w₂ p_d r_d) fits₂

      avoids : ¬ End p z → {c : ℕ} → Onward D past w p a b c → successor w₂ z ≢ c
      avoids m {c} o =
          bound_avoids D w₁ G.b_small q_d fits₁ c z z_d (λ i. o.not_q (λ f. m (rw i f)))
          (λ zb. bound_avoids D w G.a_small p_d fits c z z_d (λ i. o.not_p) (λ za. o.only z h m za zb))
