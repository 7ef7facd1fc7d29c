-- An operation in a renamed table is the operation, renamed: where the new number of the lead is even, it does not turn round.
--   t', past' == the table and the past in the new numbers
--   p, e'     == the lead of the operation on edge e, and the edge of its new number
use mathlib.Core.List.{List, map}
use mathlib.Core.Logic.{◌≢◌}
use mathlib.Core.Path.{◌≡◌, sym, ap, ap₂, ◌∙◌, subst}
use Prim.Native.Nat.{ℕ, ◌*◌, ◌/◌, ◌%◌, ◌<◌}
use native.Mathlib.Omega.{arith}
use lib.Dec.{T, eqb}
use Rattle.permutations.specs.Choice.{pick, eqb_other}
use Rattle.permutations.specs.Partner.{partner}
use Rattle.permutations.proofs.PartnerLemmas.{partner_below}
use Rattle.permutations.specs.Map.{partner_live}
use Rattle.permutations.proofs.Legal.{Legal}
use Rattle.darts.specs.Map.{successor, before}
use Rattle.darts.specs.Operation.{Kind, lead, operate}
use Rattle.darts.specs.Kernel.{judge}
use Rattle.darts.specs.Tests.{near, numbered}
use Rattle.laws.specs.Standing.{map_of, Standing}
use Rattle.laws.proofs.bridge.Standing.{live, op_of}
use Rattle.laws.proofs.bridge.Before.{before_live, before_leads, before_only}
use Rattle.laws.proofs.bridge.Judged.{judge_legal}
use Rattle.laws.proofs.bridge.AnyKind.{near_far, near_of}
use Rattle.laws.proofs.bridge.Relink.{near_entry, far_entry, relinked, operate_relinks}
use Rattle.laws.proofs.bridge.Lead.{Leading, lead_leads, lead_pick, lead_end}
use Rattle.laws.proofs.file.Renamed.{Renaming, renamed, number_other, renamed_entry, renamed_relinked}
use Rattle.laws.proofs.file.RenamedMap.{renumbered, lives', renamed_stands, legal_renamed}

module _ {D : ℕ} {order : List ℕ} {ν : ℕ → ℕ} (R : Renaming D order ν) {t past : List ℕ} (S : Standing D t past) (N : T (numbered D past)) where
  abbrev t' : List ℕ
  t' = renamed order ν t

  abbrev past' : List ℕ
  past' = map (renumbered ν) past

  S' : Standing D t' past'
  S' = renamed_stands R S.even S N

  entry_below : (k : Kind) (p : ℕ) → p < D → (near_entry k t p < D) × (far_entry k t p < D)
  entry_below k p h = near_far (λ x. x < D) k (S.inside p h) (S.inside (partner p) (partner_below D p h S.even))

  entry_renamed : (k : Kind) (p : ℕ) → p < D → (near_entry k t' (ν p) ≡ ν (near_entry k t p)) × (far_entry k t' (ν p) ≡ ν (far_entry k t p))
  entry_renamed k p h =
      let i = renamed_entry R t p h in
      let j = rw (R.partners p h) at (renamed_entry R t (partner p) (partner_below D p h S.even)) in
      (ap₂ (near k) i j ∙ near_of k ν (successor t p) (successor t (partner p)), ap₂ (near k) j i ∙ near_of k ν (successor t (partner p)) (successor t p))

  before_renamed : (x : ℕ) → T (live D past x) → before D t' past' (ν x) ≡ ν (before D t past x)
  before_renamed x l =
      let b = before D t past x in
      let lb = before_live S x l in
      sym (before_only S' (ν x) (ν b) (lives' R S.even S N b lb) (renamed_entry R t b (S.good.small b lb) ∙ ap ν (before_leads S x l)))

  module _ (k : Kind) (e : ℕ) (fine : judge k D t past e ≡ 0) (even : ν (lead k t e) % 2 ≡ 0) where
    abbrev p : ℕ
    p = lead k t e

    abbrev e' : ℕ
    e' = ν p / 2

    double : ν p ≡ 2 * e'
    double = omega (arith, even)

    L : Leading k D t past p
    L = lead_leads S k e ((judge_legal S k e).0 fine)

    p_below : p < D
    p_below = S.good.small p L.lives

    q_below : partner p < D
    q_below = partner_below D p p_below S.even

    -- IT MAY BE DONE
    pub judge_renamed : judge k D t' past' e' ≡ 0
    judge_renamed =
        let legal = legal_renamed R S.even S N k (2 * e) p (lead_end k t e) ((judge_legal S k e).0 fine) in
        (judge_legal S' k e').1 (subst (λ x. Legal (map_of D t' past') (op_of k x)) double legal)

    -- ITS LEAD IS THE LEAD, RENAMED
    pub lead_renamed : lead k t' e' ≡ ν p
    lead_renamed = lead_pick k t' e' ∙ subst (λ x. pick (eqb (far_entry k t' x) x) (partner x) x ≡ ν p) double (rw (eqb_other stays))
      where
        stays : far_entry k t' (ν p) ≢ ν p
        stays = rw (entry_renamed k p p_below).1 (number_other R (far_entry k t p) p (entry_below k p p_below).1 p_below L.q_not_p)

    -- AND SO IS THE TABLE THAT IT LEAVES
    pub operate_renamed : operate k D t' past' e' ≡ renamed order ν (operate k D t past e)
    operate_renamed =
        operate_relinks k D t' past' e'
        ∙ ap (λ x. relinked t' (before D t' past' x) (before D t' past' (partner x)) (partner x) (near_entry k t' x) (far_entry k t' x)) lead_renamed
        ∙ rw ((entry_renamed k p p_below).0, (entry_renamed k p p_below).1, ← R.partners p p_below, before_renamed p L.lives, before_renamed q q_lives)
        (renamed_relinked R t (before D t past p) (before D t past q) q (near_entry k t p) (far_entry k t p) S.size
        (before_below p L.lives) (before_below q q_lives) q_below (entry_below k p p_below).0)
        ∙ ap (renamed order ν) (sym (operate_relinks k D t past e))
      where
        q : ℕ
        q = partner p

        q_lives : T (live D past q)
        q_lives = partner_live S.good p L.lives

        before_below : (x : ℕ) → T (live D past x) → before D t past x < D
        before_below x l = S.good.small (before D t past x) (before_live S x l)
