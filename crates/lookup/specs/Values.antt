-- The values of the lookup, as the definitions have them.
--   found_of f           == the record that a Followed is
--   walked r            == the dart and the count of an answer: "0 and 0" of a refusal
--   looked r t h w      == what the lookup leaves: what it hands back, and the lent slices
--   inside D k x h      == the answer over D darts and the ends h that come from a pyramid: 12, 7, 8 or done
--   answer_for D k x t h == the answer over a table t and ends h, whether they do or not
--   LooksUp a D k x t h r == the lookup of x at level k over t and h has the answer a, and where it is done the walk's dart and count
use Rattle.std.specs.Prelude.{not, List, ◌≡◌, ℕ, Result, Ok, Err, IfOk, leb, ltb}
use Rattle.darts.specs.Answers.{Answer, done, no_pyramid, no_level, no_edge, gone_already}
use Rattle.darts.specs.Cases.{answer_of}
use Rattle.darts.specs.declared.Refusal.{Refusal}
use Rattle.std.specs.Prelude.{if◌then◌else◌}
use Rattle.ends.specs.Ends.{gone_by, top}
use Rattle.ends.specs.Walk.{Found, nothing, walk}
use Rattle.ends.specs.Comes.{comes}
use Rattle.ends.specs.Lookup.{Looked}
use Rattle.lookup.specs.declared.Followed.{Followed}

abbrev pub found_of : Followed → Found
found_of f = record { dart = f.dart; passed = f.passed }

abbrev pub walked : Result Followed Refusal → Found
walked (Ok f) = found_of f
walked (Err r) = nothing

abbrev pub looked : Result Followed Refusal → List ℕ → List ℕ → List ℕ → Looked
looked r t h w = record { answer = answer_of r; found = walked r; table = t; ends = h; work = w }

-- "then 12 for k, then 7 for a dart of D or more, then 8 for a dart gone by then"
unfoldable pub inside : ℕ → ℕ → ℕ → List ℕ → Answer
inside D k x h =
    if ltb (top h) k then no_level (top h)
    else if leb D x then no_edge 0
    else if gone_by k h x then gone_already 0
    else done

-- "4 if the table and ends come from no pyramid"
unfoldable pub answer_for : ℕ → ℕ → ℕ → List ℕ → List ℕ → Answer
answer_for D k x t h = if not (comes D t h) then no_pyramid else inside D k x h

pub record LooksUp (a : Answer) (D k x : ℕ) (t h : List ℕ) (r : Result Followed Refusal) : Type 0 where
  pub answer : answer_of r ≡ a
  pub found : IfOk r (λ f. found_of f ≡ walk D k t h x)
