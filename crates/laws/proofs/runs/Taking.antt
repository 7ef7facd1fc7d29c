-- A pass over edges of one kind is a kernel: the kernel of the edges that it takes.
--   taken takes k D t past es == the edges that the pass over es takes
--   pass_taken                == the pass is their run, where it is refused too
use mathlib.Core.Bool.{Bool, true, false, not}
use mathlib.Core.List.{List, [], ◌∷◌}
use mathlib.Core.Path.{◌≡◌, refl, ap}
use Prim.Native.Nat.{ℕ, suc}
use lib.Dec.{eqb}
use Rattle.std.proofs.Common.{if◌then◌else◌}
use Rattle.darts.specs.Answers.{answered}
use Rattle.darts.specs.Operation.{Kind, lead, operate, number}
use Rattle.darts.specs.Kernel.{judge, each, Run, stops, Test, always, pass_from, pass, run}

unfoldable pub taken : Test → Kind → ℕ → List ℕ → List ℕ → List ℕ → List ℕ
taken takes k D t past [] = []
taken takes k D t past (e ∷ es) =
    if takes t past e then e ∷ taken takes k D (operate k D t past e) (number k (lead k t e) ∷ past) es else taken takes k D t past es

module _ (takes : Test) (k : Kind) (D : ℕ) where
  -- by the test's answer at the turn of e
  turn : (b : Bool) (t past : List ℕ) (i e : ℕ) (over on : Run) (es ns : List ℕ) → over ≡ pass_from always D t past i (each k es)
      → on ≡ pass_from always D (operate k D t past e) (number k (lead k t e) ∷ past) (suc i) (each k ns)
      → (if not b then over else if eqb (judge k D t past e) 0 then on else stops (answered (judge k D t past e) i))
      ≡ pass_from always D t past i (each k (if b then e ∷ ns else es))
  unfolding pass_from
  turn true t past i e over on es ns l h = ap (λ r. if eqb (judge k D t past e) 0 then r else stops (answered (judge k D t past e) i)) h
  turn false t past i e over on es ns l h = l

  from_taken : (t past : List ℕ) (i : ℕ) (es : List ℕ) → pass_from takes D t past i (each k es) ≡ pass_from always D t past i (each k (taken takes k D t past es))
  unfolding pass_from taken
  from_taken t past i [] = refl
  from_taken t past i (e ∷ es) =
      turn (takes t past e) t past i e _ _ _ _ (from_taken t past i es) (from_taken (operate k D t past e) (number k (lead k t e) ∷ past) (suc i) es)

  -- A PASS IS THE KERNEL OF THE EDGES THAT IT TAKES
  pub pass_taken : (t past es : List ℕ) → pass takes D t past (each k es) ≡ run k D t past (taken takes k D t past es)
  unfolding pass run
  pass_taken t past es = from_taken t past 0 es
