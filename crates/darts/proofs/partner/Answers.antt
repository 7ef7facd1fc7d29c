-- In each of the two cases the definition's other case is impossible.
use Rattle.std.proofs.Common.{arith, ⊎_elim}
use Rattle.permutations.proofs.PartnerLemmas.{partner_cases}
use Rattle.darts.proofs.partner.Goals as goal

pub returns-in-0 : goal.returns-in-0
returns-in-0 c = ⊎_elim (λ even. omega arith) (λ odd. omega arith) (partner_cases c.args.d)

pub returns-in_default : goal.returns-in_default
returns-in_default c = ⊎_elim (λ even. omega arith) (λ odd. omega arith) (partner_cases c.args.d)
