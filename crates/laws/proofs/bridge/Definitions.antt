-- Definitions 7 and 8 of the canonical encoding paper (001): an edge removed, an edge contracted. In the paper's signs
--   α                      == the partner
--   σ, σ'                  == the successor, before the operation and after it
--   σ⁻¹                    == the dart before
--   d                      == the dart that plays p
--   Definition7 σ σ⁻¹ σ' d == what Definition 7 says of a removal, equation by equation
--   Definition8 σ σ⁻¹ σ' d == what Definition 8 says of a contraction
--   Written n f σ σ⁻¹ σ' d == both at once: n is the near one and f the far one of σ d and σ (α d)
use mathlib.Core.List.{List}
use mathlib.Core.Logic.{◌≢◌, inl, inr}
use mathlib.Core.Path.{◌≡◌, refl, ◌∙◌}
use Prim.Native.Nat.{ℕ}
use Rattle.permutations.specs.Choice.{eqb_same, eqb_other}
use Rattle.permutations.specs.Partner.{partner, End}
use Rattle.darts.specs.Map.{successor, before}
use Rattle.darts.specs.Operation.{Kind, contraction, removal, lead, operate}
use Rattle.darts.specs.Kernel.{judge}
use Rattle.darts.specs.Tests.{near}
use Rattle.darts.specs.State.{State}
use Rattle.darts.specs.Pyramid.{Pyramid}
use Rattle.laws.specs.Standing.{Standing}
use Rattle.laws.proofs.bridge.Relink.{near_entry, far_entry, operate_relinks, relinked_else}
use Rattle.laws.proofs.bridge.Lead.{Leading}
use Rattle.laws.proofs.bridge.Operate.{a_away, b_away, new_a, new_b, new_end, leads}
use Rattle.laws.proofs.runs.Pyramids.{pyramid_built}

abbrev α : ℕ → ℕ
α = partner

pub record Definition7 (σ σ⁻¹ σ' : ℕ → ℕ) (d : ℕ) : Type 0 where
  -- "if α*(d) is not an empty self loop (σ(d) = α(d)) and neither a pending edge (σ(α(d)) = α(d)): σ'(σ⁻¹(d)) = σ(d) (1), σ'(σ⁻¹(α(d))) = σ(α(d)) (2)"
  pub eq_1 : σ d ≢ α d → σ' (σ⁻¹ d) ≡ σ d
  pub eq_2 : σ d ≢ α d → σ' (σ⁻¹ (α d)) ≡ σ (α d)
  -- a pending edge, from either side, has one face on both sides: its removal is refused
  pub no_pending : (σ (α d) ≢ α d) × (σ d ≢ d)
  -- "if α*(d) is an empty self loop (σ(d) = α(d)): σ'(σ⁻¹(d)) = σ(α(d)) (3)", and "nothing else changes" (01)
  pub eq_3 : σ d ≡ α d → σ' (σ⁻¹ d) ≡ σ (α d)
  pub alone : σ d ≡ α d → (x : ℕ) → x ≢ σ⁻¹ d → σ' x ≡ σ x
  -- s = p is never seen from d: there the operation turns round
  pub side : σ (α d) ≢ d
  -- "∀ d' ∈ D \ {σ⁻¹(d), σ⁻¹(α(d))} σ'(d') = σ(d') (4)"
  pub eq_4 : (x : ℕ) → x ≢ σ⁻¹ d → x ≢ σ⁻¹ (α d) → σ' x ≡ σ x
  -- "The table entries of p and q are left as they stand: they hold r and s." (01)
  pub keeps_p : σ' d ≡ σ d
  pub keeps_q : σ' (α d) ≡ σ (α d)
  -- what is written is written at darts that are left
  pub left_p : ¬ End d (σ⁻¹ d)
  pub left_q : σ d ≢ α d → ¬ End d (σ⁻¹ (α d))

pub record Definition8 (σ σ⁻¹ σ' : ℕ → ℕ) (d : ℕ) : Type 0 where
  -- "if α*(d) is not an empty self loop (σ(d) = α(d)) and neither a pending edge (σ(α(d)) = α(d)): σ'(σ⁻¹(d)) = σ(α(d)) (7), σ'(σ⁻¹(α(d))) = σ(d) (8)"
  pub eq_7 : σ (α d) ≢ α d → σ' (σ⁻¹ d) ≡ σ (α d)
  pub eq_8 : σ (α d) ≢ α d → σ' (σ⁻¹ (α d)) ≡ σ d
  -- an empty loop, from either side, has one vertex at both ends: its contraction is refused
  pub no_loop : (σ d ≢ α d) × (σ (α d) ≢ d)
  -- "if α*(d) is a pending edge (σ(α(d)) = α(d)): σ'(σ⁻¹(d)) = σ(d) (9)", and "nothing else changes" (01)
  pub eq_9 : σ (α d) ≡ α d → σ' (σ⁻¹ d) ≡ σ d
  pub alone : σ (α d) ≡ α d → (x : ℕ) → x ≢ σ⁻¹ d → σ' x ≡ σ x
  -- r = p is never seen from d: there the operation turns round
  pub side : σ d ≢ d
  -- "∀ d' ∈ D \ {σ⁻¹(d), σ⁻¹(α(d))} σ'(d') = σ(d') (10)"
  pub eq_10 : (x : ℕ) → x ≢ σ⁻¹ d → x ≢ σ⁻¹ (α d) → σ' x ≡ σ x
  -- "The table entries of p and q are left as they stand: they hold r and s." (01)
  pub keeps_p : σ' d ≡ σ d
  pub keeps_q : σ' (α d) ≡ σ (α d)
  -- what is written is written at darts that are left
  pub left_p : ¬ End d (σ⁻¹ d)
  pub left_q : σ (α d) ≢ α d → ¬ End d (σ⁻¹ (α d))

-- ---- both at once

record Written (n f : ℕ) (σ σ⁻¹ σ' : ℕ → ℕ) (d : ℕ) : Type 0 where
  both_p : n ≢ α d → σ' (σ⁻¹ d) ≡ n
  both_q : n ≢ α d → σ' (σ⁻¹ (α d)) ≡ f
  single : n ≡ α d → σ' (σ⁻¹ d) ≡ f
  others : (x : ℕ) → x ≢ σ⁻¹ d → (n ≢ α d → x ≢ σ⁻¹ (α d)) → σ' x ≡ σ x
  keeps : {x : ℕ} → End d x → σ' x ≡ σ x
  left_p : ¬ End d (σ⁻¹ d)
  left_q : n ≢ α d → ¬ End d (σ⁻¹ (α d))
  may_lead : (n ≢ d) × (f ≢ α d) × (f ≢ d)

written : {D : ℕ} {t past : List ℕ} → Standing D t past → (k : Kind) (e : ℕ) → judge k D t past e ≡ 0
    → Written (near_entry k t (lead k t e)) (far_entry k t (lead k t e)) (successor t) (before D t past) (successor (operate k D t past e)) (lead k t e)
written {D} {t} {past} S k e fine = rw (operate_relinks k D t past e) (record {
  both_p = λ n. new_a S k p L ∙ rw (eqb_other n);
  both_q = new_b S k p L;
  single = λ z. new_a S k p L ∙ rw (eqb_same z);
  others = relinked_else t (before D t past p) (before D t past (α p)) (α p) (near_entry k t p) (far_entry k t p);
  keeps = new_end S k p L;
  left_p = a_away S k p L;
  left_q = b_away S k p L;
  may_lead = (L.p_not_p, L.q_not_q, L.q_not_p);
})
  where
    p : ℕ
    p = lead k t e

    L : Leading k D t past p
    L = leads S k e fine

-- ---- on a pyramid

module _ {s : State} {t past : List ℕ} (P : Pyramid s t past) (e : ℕ) where
  -- A LEGAL REMOVAL IS DEFINITION 7's
  pub definition_7 : judge removal s.darts t past e ≡ 0
      → Definition7 (successor t) (before s.darts t past) (successor (operate removal s.darts t past e)) (lead removal t e)
  unfolding near
  definition_7 fine =
      let W = written (pyramid_built P).standing removal e fine in
      record {
        eq_1 = W.both_p;
        eq_2 = W.both_q;
        no_pending = (W.may_lead.1, W.may_lead.0);
        eq_3 = W.single;
        alone = λ z x n. W.others x n (λ m. absurd (m z));
        side = W.may_lead.2;
        eq_4 = λ x n m. W.others x n (λ _. m);
        keeps_p = W.keeps (inl refl);
        keeps_q = W.keeps (inr refl);
        left_p = W.left_p;
        left_q = W.left_q;
      }

  -- A LEGAL CONTRACTION IS DEFINITION 8's
  pub definition_8 : judge contraction s.darts t past e ≡ 0
      → Definition8 (successor t) (before s.darts t past) (successor (operate contraction s.darts t past e)) (lead contraction t e)
  unfolding near
  definition_8 fine =
      let W = written (pyramid_built P).standing contraction e fine in
      record {
        eq_7 = W.both_p;
        eq_8 = W.both_q;
        no_loop = (W.may_lead.1, W.may_lead.0);
        eq_9 = W.single;
        alone = λ z x n. W.others x n (λ m. absurd (m z));
        side = W.may_lead.2;
        eq_10 = λ x n m. W.others x n (λ _. m);
        keeps_p = W.keeps (inl refl);
        keeps_q = W.keeps (inr refl);
        left_p = W.left_p;
        left_q = W.left_q;
      }
