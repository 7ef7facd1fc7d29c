-- `area::shape::unused` meets its contract: all of the ends past the levels are 0.
use Rattle.std.proofs.Common.{◌≡◌, List, ℕ, ◌&&◌, ◌-◌, ◌≤◌, eqb, drop, length, length-drop, refl, ◌∙◌, arith, rules, tests}
use Rattle.std.specs.List.{list_all}
use Rattle.std.proofs.lemmas.Iterator.{YieldsList-from_slice}
use Rattle.std.proofs.lemmas.Iterator.Search.{all_from_yields_List}
use Rattle.std.proofs.lemmas.List.Recursion.{same_from_clauses}
use lib.Seq.{take_all}
use Rattle.darts.specs.Tests.{zeros}
use Rattle.area.proofs.shape.unused.Goals as goal

all_zeros : (ends : List ℕ) → list_all (λ end. eqb end 0) ends ≡ zeros ends
unfolding zeros
all_zeros = same_from_clauses (list_all (λ end. eqb end 0)) zeros (λ end rest. eqb end 0 && rest) refl (λ _ _. refl) (λ _ _. refl)

pub returns : goal.returns
returns c =
    let past = drop c.args.state.levels c.args.state.ends in
    let all : length past ≤ length c.args.state.ends - c.args.state.levels = simp length-drop (omega arith) in
    let whole = c.iter.ensures.rest ∙ take_all (length c.args.state.ends - c.args.state.levels) past all in
    all_from_yields_List (λ end. eqb end 0) _ _ _ c.all.ensures.ran (YieldsList-from_slice past whole) (λ x b q k. search (rules, tests)) ∙ all_zeros past
