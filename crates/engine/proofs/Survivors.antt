-- How many darts survive.
--   surviving_count == each operation took the two darts of an edge, so that all darts but twice as many as the operations are left
use mathlib.Core.Bool.{Bool, true, false, not}
use mathlib.Core.List.{List, [], ◌∷◌}
use mathlib.Core.Path.{◌≡◌, refl, ◌∙◌}
use Prim.Native.Nat.{ℕ, zero, suc, ◌+◌, ◌-◌, ◌*◌, ◌/◌, ◌%◌, min}
use native.Mathlib.Decide.{ℕ_discrete}
use native.Mathlib.Omega.{arith}
use lib.Dec.{T}
use lib.ListN.{length}
use Rattle.permutations.specs.Choice.{not_T→false, eqb_same, eqb_other}
use Rattle.std.proofs.Common.{if◌then◌else◌}
use Rattle.darts.specs.Map.{gone, survives}
use Rattle.darts.specs.Operation.{lead_of}
use Rattle.darts.specs.Counts.{surviving}
use Rattle.darts.specs.Tests.{numbered}
use Rattle.engine.proofs.Edges.{same_edge, gone_end, numbered_cons}

all_survive : (n : ℕ) → surviving [] n ≡ n
unfolding surviving survives gone
all_survive zero = refl
all_survive (suc n) = rw (all_survive n)

-- one operation more, on an edge that is not gone: of the first n darts those of the edge go
one_more : (h : ℕ) (past : List ℕ) → gone past (h / 2) ≡ false → (n : ℕ) → surviving (h ∷ past) n + min 2 (n - 2 * (h / 4)) ≡ surviving past n
unfolding surviving survives gone
one_more h past fresh zero = omega arith
one_more h past fresh (suc n) = go (ℕ_discrete (h / 4) (n / 2)) (one_more h past fresh n)
  where
    go : Dec (h / 4 ≡ n / 2) → surviving (h ∷ past) n + min 2 (n - 2 * (h / 4)) ≡ surviving past n
        → surviving (h ∷ past) (suc n) + min 2 (suc n - 2 * (h / 4)) ≡ surviving past (suc n)
    go (yes e) i =
        let alive : gone past n ≡ false = gone_end past (same_edge (h / 2) n (omega arith)) ∙ fresh in
        rw (eqb_same e, alive) (omega arith)
    go (no m) i = rw (eqb_other m) (other (not (gone past n)) i)
      where
        other : (b : Bool) → surviving (h ∷ past) n + min 2 (n - 2 * (h / 4)) ≡ surviving past n
            → (if b then suc (surviving (h ∷ past) n) else surviving (h ∷ past) n) + min 2 (suc n - 2 * (h / 4))
            ≡ (if b then suc (surviving past n) else surviving past n)
        other true i = omega arith
        other false i = omega arith

-- ALL BUT TWO FOR EACH OPERATION
pub surviving_count : (D : ℕ) (past : List ℕ) → T (numbered D past) → D % 2 ≡ 0 → surviving past D ≡ D - 2 * length past
unfolding lead_of
surviving_count D [] t even = omega (arith, all_survive D)
surviving_count D (h ∷ past) t even =
    let (below, (fresh, rest)) = (numbered_cons D h past).0 t in
    let one = one_more h past (not_T→false (gone past (h / 2)) fresh) D in
    let more = surviving_count D past rest even in
    omega arith
