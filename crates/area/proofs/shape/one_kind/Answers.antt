-- `area::shape::one_kind` meets its contract: the last bit of each number is the first one's.
--
--   last_bit   == a number's last bit says its kind
--   same_bits  == two numbers are of one kind where their last bits are the same
--   all_bits   == the test of the last bits tells the kinds
--   first_kind == with the first number in front
use Rattle.std.proofs.Common.{◌≡◌, List, ℕ, Bool, ◌&&◌, ◌+◌, ◌%◌, ◌≤◌, ◌<◌, eqb, length, get_or, refl, ap, ◌∙◌, arith, rules, tests}
use Rattle.std.specs.List.{list_all}
use Rattle.std.proofs.lemmas.Iterator.{YieldsList-from_slice}
use Rattle.std.proofs.lemmas.Iterator.Search.{all_from_yields_List}
use Rattle.std.proofs.lemmas.List.Recursion.{same_from_clauses}
use Rattle.darts.specs.Operation.{kind_of}
use Rattle.darts.specs.Tests.{same_kind, of_kind, one_kind}
use Rattle.slices.specs.Part.{part}
use Rattle.area.proofs.OfKind.{kind_same}
use Rattle.area.proofs.Parts.{part_cons}
use Rattle.area.proofs.shape.one_kind.Goals as goal

abbrev bit_of : ℕ → ℕ → Bool
bit_of k h = eqb (h % 2) k

last_bit : (h : ℕ) → kind_of (h % 2) ≡ kind_of h
unfolding kind_of
last_bit h = let e : h % 2 % 2 ≡ h % 2 = omega arith in rw e

same_bits : (k h : ℕ) → same_kind (kind_of k) (kind_of h) ≡ bit_of (k % 2) h
same_bits k h = rw (← (last_bit k)) (kind_same (k % 2) (omega arith) h)

all_bits : (k : ℕ) (hs : List ℕ) → list_all (bit_of (k % 2)) hs ≡ of_kind (kind_of k) hs
unfolding of_kind
all_bits k =
    same_from_clauses (list_all (bit_of (k % 2))) (of_kind (kind_of k)) (λ h rest. bit_of (k % 2) h && rest)
    refl (λ _ _. refl) (λ h hs. ap (λ b. b && of_kind (kind_of k) hs) (same_bits k h))

first_kind : (w : List ℕ) (from to : ℕ) → from < to → to ≤ length w
    → list_all (bit_of (get_or w from 0 % 2)) (part (from + 1) to w) ≡ one_kind (part from to w)
unfolding one_kind
first_kind w from to more inside = rw (part_cons from to w more inside) (all_bits (get_or w from 0) (part (from + 1) to w))

pub returns : goal.returns
returns c =
    let w = c.args.work.now in
    let from = c.args.from in
    let hs = part (from + 1) c.args.to w in
    all_from_yields_List (bit_of (get_or w from 0 % 2)) _ _ _ c.all.ensures.ran (YieldsList-from_slice hs cc) (λ x b q k. search (rules, tests))
    ∙ first_kind w from c.args.to c.requires.0 c.requires.1
