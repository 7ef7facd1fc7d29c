-- The worked lookups, each row computed by the definitions.
--   found_of_lem                    == what holds of the definition's result holds of what the call left
--   ends, gap                       == K12's ends, and ends that leave a level out
--   computed                        == the rows, in the program's order
use mathlib.Core.List.{List, [], ◌∷◌}
use mathlib.Core.Path.{◌≡◌, refl, ap, ◌∙◌}
use Prim.Native.Nat.{ℕ}
use Rattle.slices.specs.Over.{over}
use Rattle.permutations.specs.Partner.{partner}
use Rattle.permutations.specs.Cycle.{meets_in}
use Rattle.darts.specs.Map.{successor, face_next, same_vertex, same_face, gone, survives, before_in, before, repeats, culprit, test_from, permutation_test}
use Rattle.darts.specs.Operation.{turned, lead, whole_edge, remove, contract, operate, number, kind_of}
use Rattle.darts.specs.Kernel.{shared, judge, pass_from, pass}
use Rattle.darts.specs.Tests.{same_kind}
use Rattle.darts.specs.OneByOne.{one_by_one}
use Rattle.darts.specs.Pyramid.{dart_count}
use Rattle.darts.specs.Calls.{room, fitting, cleared, work_after}
use Rattle.ends.specs.Ends.{level_of, end_of, ends_by, gone_by, top, first_at, in_use, one_kind, shaped, ending_from, ending}
use Rattle.ends.specs.Walk.{onward_by, onward, walk_from, walk}
use Rattle.ends.specs.Comes.{operations, accepted, comes}
use Rattle.ends.specs.Lookup.{Looked, judged, successor_at}
use Rattle.worked.specs.Lookups.{found_of, looked_up}

pub found_of_lem : {l m : Looked} (r : ℕ × ℕ × ℕ × ℕ) → l ≡ m → found_of m ≡ r → found_of l ≡ r
found_of_lem r e k = ap (λ (z : Looked). found_of z) e ∙ k

abbrev ends : List ℕ
ends = 3 ∷ 3 ∷ 4 ∷ 0 ∷ []

abbrev gap : List ℕ
gap = 5 ∷ 5 ∷ 0 ∷ 0 ∷ []

pub computed :
    (looked_up ends 0 6 ≡ (0, 0, 3, 0))
    × (looked_up ends 1 6 ≡ (0, 0, 5, 2))
    × (looked_up ends 2 6 ≡ (0, 0, 6, 6))
    × (looked_up ends 2 7 ≡ (0, 0, 7, 0))
    × (looked_up ends 2 4 ≡ (8, 0, 0, 0))
    × (looked_up ends 2 8 ≡ (7, 0, 0, 0))
    × (looked_up ends 3 6 ≡ (12, 2, 0, 0))
    × (looked_up gap 0 6 ≡ (4, 0, 0, 0))
unfolding partner meets_in successor face_next same_vertex same_face gone survives before_in before repeats culprit test_from permutation_test turned lead whole_edge remove contract operate number kind_of shared judge pass_from pass same_kind one_by_one dart_count room fitting over cleared work_after level_of end_of ends_by gone_by top first_at in_use one_kind shaped ending_from ending onward_by onward walk_from walk operations accepted comes judged successor_at
computed = (refl, refl, refl, refl, refl, refl, refl, refl)
