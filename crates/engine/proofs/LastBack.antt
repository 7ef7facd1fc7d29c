-- The last operations of a pyramid taken back: each fits, so all are undone.
--   pyramid_backs == a pyramid passes tests 6 to 15
--   took_back     == where the past passes them, taking back its last operations undoes them
use mathlib.Core.Bool.{Bool}
use mathlib.Core.List.{List}
use mathlib.Core.Path.{◌≡◌, subst}
use Prim.Native.Nat.{ℕ, ◌*◌, ◌≤◌}
use native.Mathlib.Omega.{arith}
use lib.Dec.{T}
use lib.ListN.{drop}
use Rattle.permutations.specs.Choice.{and_left}
use Rattle.darts.specs.Operation.{undone}
use Rattle.darts.specs.State.{State}
use Rattle.darts.specs.Pyramid.{Pyramid}
use Rattle.darts.specs.Tests.{backs as backsOf}
use Rattle.laws.proofs.tests.Passes.{pyramid_shaped}
use Rattle.area.specs.Area.{table_in, past_in, Tried, tried}
use Rattle.operations.specs.Back.{backs}
use Rattle.engine.specs.Back.{TookBack}
use Rattle.engine.specs.Held.{Area}
use Rattle.engine.proofs.AllBack.{AllBack, backs_right}
use Rattle.engine.proofs.Given.{fits_stand}
use Rattle.engine.proofs.Parts.{rest_from}

pub pyramid_backs : {s : State} {t past : List ℕ} → Pyramid s t past → T (backsOf s.darts t past)
pyramid_backs P = (pyramid_shaped P).sound.fitting

all_took : {D n c : ℕ} {w : List ℕ} {a : Tried} → T (backsOf D (table_in D w) (past_in D n w))
    → AllBack D n c (table_in D w) (past_in D n w) w a → TookBack D n c w a.work
all_took {D} {n} {c} {w} {a} fit B =
    let t : List ℕ = table_in D w in
    let past : List ℕ = past_in D n w in
    let fine : T a.fine = and_left a.fine (backsOf D (undone D c t past) (drop c past)) (subst T B.fine fit) in
    record {
      table = B.table fine;
      past = B.left fine;
      area = B.area fine;
      beyond = record { size = B.size; rest = rest_from D (4 * D) a.work w B.rest (omega arith) };
    }

-- THE LAST OPERATIONS ARE UNDONE
pub took_back : {D n c : ℕ} {w v : List ℕ} {r : Bool} → Area D n w → c ≤ n → T (backsOf D (table_in D w) (past_in D n w)) → tried r v ≡ backs D w n c
    → TookBack D n c w v
took_back {D} {n} {c} {w} A l fit e = all_took fit (rw (← e) at (backs_right fits_stand c n w l A))
