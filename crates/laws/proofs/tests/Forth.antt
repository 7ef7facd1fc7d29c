-- One step forth: an operation that may be done fits once it is done.
use mathlib.Core.List.{List, ◌∷◌}
use mathlib.Core.Logic.{◌≢◌, inl, inr, ⊎_elim}
use mathlib.Core.Path.{◌≡◌, refl}
use Prim.Native.Nat.{ℕ, ◌*◌, ◌%◌}
use native.Mathlib.Decide.{ℕ_discrete}
use native.Mathlib.Omega.{arith}
use lib.Dec.{T, eqb}
use Rattle.permutations.specs.Choice.{pick, eqb_same, eqb_other}
use Rattle.permutations.specs.Partner.{partner, End}
use Rattle.permutations.proofs.PartnerLemmas.{partner_ne, partner_partner}
use Rattle.darts.specs.Map.{successor, before}
use Rattle.darts.specs.Operation.{Kind, lead, operate, number}
use Rattle.darts.specs.Kernel.{judge}
use Rattle.laws.specs.Standing.{Standing}
use Rattle.laws.proofs.bridge.Standing.{live, entry_live, entry_one}
use Rattle.laws.proofs.bridge.Judged.{judge_legal}
use Rattle.laws.proofs.bridge.Numbers.{number_kind, number_lead}
use Rattle.laws.proofs.bridge.AnyKind.{near_far, apart_iff}
use Rattle.laws.proofs.bridge.Relink.{near_entry, far_entry, relinked, operate_relinks}
use Rattle.laws.proofs.bridge.Lead.{Leading, lead_leads, lead_pick}
use Rattle.laws.proofs.bridge.Operate.{new_end, stay_live, end_live}
use Rattle.darts.specs.Tests.{fits}
use Rattle.laws.proofs.tests.Fits.{Fit, one, two, fits_iff}

-- a lead whose near one is not its partner did not turn round
lead_even : (k : Kind) (t : List ℕ) (e : ℕ) → near_entry k t (lead k t e) ≢ partner (lead k t e) → lead k t e % 2 ≡ 0
lead_even k t e = rw (lead_pick k t e) (go (ℕ_discrete (far_entry k t p) p))
  where
    p : ℕ
    p = 2 * e

    go : Dec (far_entry k t p ≡ p) → (let l : ℕ = pick (eqb (far_entry k t p) p) (partner p) p in near_entry k t l ≢ partner l → l % 2 ≡ 0)
    go (yes z) = rw (eqb_same z, partner_partner p) (λ n. absurd (n z))
    go (no m) = rw (eqb_other m) (λ n. omega arith)

module _ {D : ℕ} {t past : List ℕ} (S : Standing D t past) (k : Kind) (e : ℕ) (fine : judge k D t past e ≡ 0) where
  abbrev p : ℕ
  p = lead k t e

  abbrev q : ℕ
  q = partner p

  leading : Leading k D t past p
  leading = lead_leads S k e ((judge_legal S k e).0 fine)

  q_live : T (live D past q)
  q_live = end_live S k p leading (inr refl)

  was_live : T (live D past (near_entry k t p)) × T (live D past (far_entry k t p))
  was_live = near_far (λ x. T (live D past x)) k (entry_live S p leading.lives) (entry_live S q q_live)

  fit : Fit (live D (number k p ∷ past)) p (near_entry k t p) (far_entry k t p)
  fit = go (ℕ_discrete (near_entry k t p) q)
    where
      far_live : T (live D (number k p ∷ past) (far_entry k t p))
      far_live = stay_live S k p leading (far_entry k t p) was_live.1 (⊎_elim leading.q_not_p leading.q_not_q)

      go : Dec (near_entry k t p ≡ q) → Fit (live D (number k p ∷ past)) p (near_entry k t p) (far_entry k t p)
      go (yes z) = one z far_live
      go (no n) =
          two n (lead_even k t e n) (stay_live S k p leading (near_entry k t p) was_live.0 (⊎_elim leading.p_not_p n)) far_live
          ((apart_iff k (successor t p) (successor t q)).1 (λ z. partner_ne p (entry_one S p leading.lives q q_live z)))

  -- AN OPERATION THAT MAY BE DONE FITS ONCE IT IS DONE
  pub redo_fits : T (fits D (operate k D t past e) (number k p) past)
  redo_fits = (fits_iff D (operate k D t past e) (number k p) past).1
      (rw (number_kind k p, number_lead k p, operate_relinks k D t past e, same (inl refl), same (inr refl)) fit)
    where
      same : {x : ℕ} → End p x → successor (relinked t (before D t past p) (before D t past q) q (near_entry k t p) (far_entry k t p)) x ≡ successor t x
      same = new_end S k p leading
