-- Where a pass stops, it stops with the answer of an edge: 7 to 11.
--   Stopping P r          == the run r stands, or stops with an answer of which P holds
--   Edgy r                == the run r stands, or stops with an answer from 7 to 11
--   pass_stops, run_stops == so it is with a pass, and a kernel's run, for every P that holds of the answers 7 to 11
--   swept_stands          == the sweep's pass stops nowhere
--   run_edgy, swept_edgy  == a kernel's run, and the sweep's, are edgy
use mathlib.Core.Bool.{Bool, true, false, not}
use mathlib.Core.List.{List, [], ◌∷◌}
use mathlib.Core.Path.{◌≡◌, refl}
use Prim.Native.Nat.{ℕ, suc, ◌*◌, ◌+◌, ◌/◌, ◌≤◌}
use lib.Dec.{eqb, leb, lit≤}
use Rattle.std.proofs.Common.{if◌then◌else◌}
use Rattle.darts.specs.Answers.{Answer, answered}
use Rattle.darts.specs.Map.{same_vertex, same_face, gone}
use Rattle.darts.specs.Operation.{Kind, contraction, removal, lead, whole_edge, operate, number}
use Rattle.darts.specs.Kernel.{shared, judge, Operation, each, rising, Run, stands, stops, Test, always, pass_from, pass, run}
use Rattle.darts.specs.Levels.{takes, swept_from, swept}

abbrev pub Stopping : (Answer → Type 0) → Run → Type 0
Stopping P (stands t past) = Unit {0}
Stopping P (stops a) = P a

abbrev OfEdge : Answer → Type 0
OfEdge a = (7 ≤ a.number) × (a.number ≤ 11)

abbrev pub Edgy : Run → Type 0
Edgy = Stopping OfEdge

-- an answer of an edge, or none
data Number (m : ℕ) : Type 0 where
  none : m ≡ 0 → Number m
  some : 7 ≤ m → m ≤ 11 → Number m

number_if : (b : Bool) (m n : ℕ) → 7 ≤ m → m ≤ 11 → Number n → Number (if b then m else n)
number_if true m n l h k = some l h
number_if false m n l h k = k

shared_number : (k : Kind) (D : ℕ) (t : List ℕ) (e : ℕ) → Number (shared k D t e)
unfolding shared
shared_number contraction D t e = number_if (same_vertex D t (2 * e) (2 * e + 1)) 9 0 (lit≤ tt) (lit≤ tt) (none refl)
shared_number removal D t e = number_if (same_face D t (2 * e) (2 * e + 1)) 10 0 (lit≤ tt) (lit≤ tt) (none refl)

judge_number : (k : Kind) (D : ℕ) (t past : List ℕ) (e : ℕ) → Number (judge k D t past e)
unfolding judge
judge_number k D t past e =
    number_if (leb (D / 2) e) 7 _ (lit≤ tt) (lit≤ tt) (number_if (gone past (2 * e)) 8 _ (lit≤ tt) (lit≤ tt) (either (shared_number k D t e)))
  where
    rest : ℕ
    rest = if whole_edge t e then 11 else 0

    whole : Number rest
    whole = number_if (whole_edge t e) 11 0 (lit≤ tt) (lit≤ tt) (none refl)

    either : {m : ℕ} → Number m → Number (if leb 1 m then m else rest)
    either {m} (none z) = rw z whole
    either {m} (some l h) = number_if (leb 1 m) m rest l h whole

-- ---- a pass

module _ (P : Answer → Type 0) (edge : (m i : ℕ) → 7 ≤ m → m ≤ 11 → P (answered m i)) where
  -- by the test's answer, and the judge's
  turn_stops : (b : Bool) (m i : ℕ) (over on : Run) → Number m → Stopping P over → Stopping P on
      → Stopping P (if not b then over else if eqb m 0 then on else stops (answered m i))
  turn_stops false m i over on n h k = h
  turn_stops true m i over on (none z) h k = rw z k
  turn_stops true m i over on (some l u) h k = go (eqb m 0)
    where
      go : (c : Bool) → Stopping P (if c then on else stops (answered m i))
      go true = k
      go false = edge m i l u

  from_stops : (takes : Test) (D : ℕ) (t past : List ℕ) (i : ℕ) (os : List Operation) → Stopping P (pass_from takes D t past i os)
  unfolding pass_from
  from_stops takes D t past i [] = tt
  from_stops takes D t past i (o ∷ os) =
      turn_stops (takes t past o.edge) (judge o.kind D t past o.edge) i _ _ (judge_number o.kind D t past o.edge)
      (from_stops takes D t past i os) (from_stops takes D (operate o.kind D t past o.edge) (number o.kind (lead o.kind t o.edge) ∷ past) (suc i) os)

  -- WHERE A PASS STOPS, IT STOPS WITH 7 TO 11
  pub pass_stops : (takes : Test) (D : ℕ) (t past : List ℕ) (os : List Operation) → Stopping P (pass takes D t past os)
  unfolding pass
  pass_stops takes D t past os = from_stops takes D t past 0 os

  pub run_stops : (k : Kind) (D : ℕ) (t past es : List ℕ) → Stopping P (run k D t past es)
  unfolding run
  run_stops k D t past es = pass_stops always D t past (each k es)

pub run_edgy : (k : Kind) (D : ℕ) (t past es : List ℕ) → Edgy (run k D t past es)
run_edgy = run_stops OfEdge (λ m i l h. (l, h))

-- ---- the sweep

module _ (P : Answer → Type 0) where
  -- by the test's answer
  turn_stands : (b : Bool) (over on : Run) → Stopping P over → Stopping P on → Stopping P (if b then on else over)
  turn_stands true over on h k = k
  turn_stands false over on h k = h

  from_stands : (D : ℕ) (t past es : List ℕ) → Stopping P (swept_from D t past es)
  unfolding swept_from
  from_stands D t past [] = tt
  from_stands D t past (e ∷ es) =
      turn_stands (takes t past e) _ _ (from_stands D t past es)
      (from_stands D (operate removal D t past e) (number removal (lead removal t e) ∷ past) es)

  -- THE SWEEP'S PASS STOPS NOWHERE
  pub swept_stands : (D : ℕ) (t past : List ℕ) → Stopping P (swept D t past)
  unfolding swept
  swept_stands D t past = from_stands D t past (rising 0 (D / 2))

pub swept_edgy : (D : ℕ) (t past : List ℕ) → Edgy (swept D t past)
swept_edgy = swept_stands OfEdge
