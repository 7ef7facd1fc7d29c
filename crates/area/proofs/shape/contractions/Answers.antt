-- `area::shape::contractions` meets its contract: the last bits are summed, each at most 1.
--
--   all_bits == the sum of the last bits is what the definitions count
--   few      == it is at most the number of operations
use Rattle.std.proofs.Common.{◌≡◌, List, ℕ, ◌*◌, ◌%◌, ◌≤◌, length, refl, sym, ◌∙◌, arith, rules}
use Rattle.std.specs.List.{sum_by}
use Rattle.std.proofs.lemmas.Iterator.{YieldsList-from_slice, YieldsList-from_map}
use Rattle.std.proofs.lemmas.Iterator.Consumers.{sum_by_from_yields_List, fits_by_from_yields_list}
use Rattle.std.proofs.lemmas.List.Recursion.{is_sum_by}
use Rattle.std.proofs.lemmas.List.Sums.{sum_by-le}
use Rattle.darts.specs.Moves.{contractions_in}
use Rattle.slices.specs.Part.{part}
use Rattle.slices.proofs.Part.{part_length}
use Rattle.area.proofs.shape.contractions.Goals as goal

abbrev last_bit : ℕ → ℕ
last_bit h = h % 2

all_bits : (hs : List ℕ) → contractions_in hs ≡ sum_by last_bit hs
unfolding contractions_in
all_bits = is_sum_by contractions_in last_bit refl (λ _ _. refl)

few : (hs : List ℕ) → sum_by last_bit hs ≤ length hs
few hs = let each : sum_by last_bit hs ≤ length hs * 1 = sum_by-le last_bit 1 hs (λ i d l. omega arith) in omega arith

pub sum-requires-clause-fits : goal.sum-requires-clause-fits
sum-requires-clause-fits c =
    let hs = part c.args.from c.args.to c.args.numbers.now in
    let size = part_length c.args.from c.args.to c.args.numbers.now c.requires.1 in
    fits_by_from_yields_list last_bit hs c.map.result _
    (YieldsList-from_map _ last_bit (YieldsList-from_slice hs cc) c.map.ensures.closure (λ x r q k. search rules)) (omega (arith, few hs))

pub returns : goal.returns
returns c =
    let hs = part c.args.from c.args.to c.args.numbers.now in
    sum_by_from_yields_List last_bit hs c.map.result _ c.sum.ensures.ran
    (YieldsList-from_map _ last_bit (YieldsList-from_slice hs cc) c.map.ensures.closure (λ x r q k. search rules)) ∙ sym (all_bits hs)
