-- A pass that passes over an edge, worked by hand: on map T of document 01 edge 0 is passed over, and edge 3 comes twice.
--   passed_over == "place in the kernel, from 0": the second time is place 1, since edge 0 was not taken
use Rattle.std.specs.Prelude.{not, [], ◌∷◌, ◌≡◌, refl, eqb}
use Rattle.permutations.specs.Partner.{partner}
use Rattle.permutations.specs.Cycle.{meets_in}
use Rattle.darts.specs.Answers.{gone_already}
use Rattle.darts.specs.Map.{successor, same_vertex, gone, survives, before_in, before}
use Rattle.darts.specs.Operation.{contraction, turned, lead, whole_edge, contract, operate, number}
use Rattle.darts.specs.Kernel.{shared, judge, each, stops, pass_from, pass}

pub passed_over : pass (λ t past e. not (eqb e 0)) 8 (5 ∷ 2 ∷ 1 ∷ 4 ∷ 6 ∷ 0 ∷ 3 ∷ 7 ∷ []) [] (each contraction (0 ∷ 3 ∷ 3 ∷ [])) ≡ stops (gone_already 1)
unfolding partner meets_in successor same_vertex gone survives before_in before turned lead whole_edge contract operate number shared judge pass_from pass
passed_over = refl
