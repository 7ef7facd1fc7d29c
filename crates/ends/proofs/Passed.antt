-- "The answer carries the number of gone darts passed, equal to the walk's own count" (document 02, request Four): step by step.
--   stepped t ends x i   == where the walk from x is after i gone darts
--   Passes k t ends x f  == f is the first dart there that is not gone by level k, and how many were gone before it
--   walk_steps           == the walk ends at one of these darts, and those before it are gone
--   successor_passes     == an accepted call finds the first one that is not gone, and counts those before it
--   passes_once          == there is no other dart or count
--   successor_few        == whatever the answer, the count is at most twice the operations done by level k
use mathlib.Core.List.{List}
use mathlib.Core.Path.{◌≡◌, refl, sym, ◌∙◌, ap}
use Prim.Native.Nat.{ℕ, zero, suc, ◌+◌, ◌*◌, ◌/◌, ◌≤◌, ◌<◌}
use native.Mathlib.Decide.{ℕ_discrete, dec_lt}
use native.Mathlib.Nat.{not-suc-le-zero}
use native.Mathlib.Omega.{arith}
use lib.Dec.{T, T_not}
use lib.ListN.{take}
use lib.Seq.{length-take-le}
use Rattle.permutations.specs.Choice.{T?, T→true, not_T→false}
use Rattle.permutations.specs.Cycle.{walk as walkBy}
use Rattle.darts.specs.Map.{successor}
use Rattle.darts.proofs.Fitting.{count_test}
use Rattle.ends.specs.Ends.{gone_by, done_by}
use Rattle.ends.specs.Walk.{Found, onward, walk_from, walk, Walks}
use Rattle.ends.specs.Lookup.{successor_at}
use Rattle.ends.proofs.Arrives.{comes_walks}
use Rattle.ends.proofs.Sentences.{successor_order, successor_refused, successor_found}

-- "start at the base successor; while the dart there is gone by level k, go on"
abbrev pub stepped : List ℕ → List ℕ → ℕ → ℕ → ℕ
stepped t ends x i = walkBy (onward t ends) i (successor t x)

pub record Passes (k : ℕ) (t ends : List ℕ) (x : ℕ) (f : Found) : Type 0 where
  pub before : (i : ℕ) → i < f.passed → T (gone_by k ends (stepped t ends x i))
  pub there : f.dart ≡ stepped t ends x f.passed
  pub stays : ¬ (T (gone_by k ends f.dart))

-- the walk from y on, once i gone darts were passed: n more of them
record Steps (k : ℕ) (t ends : List ℕ) (y i : ℕ) (f : Found) : Type 0 where
  more : ℕ
  count : f.passed ≡ i + more
  there : f.dart ≡ walkBy (onward t ends) more y
  before : (j : ℕ) → j < more → T (gone_by k ends (walkBy (onward t ends) j y))

walk_steps : (n k : ℕ) (t ends : List ℕ) (y i : ℕ) → Steps k t ends y i (walk_from n k t ends y i)
unfolding walk_from walkBy
walk_steps zero k t ends y i = record { more = 0; count = omega arith; there = refl; before = λ j l. absurd (not-suc-le-zero l) }
walk_steps (suc n) k t ends y i = go (T? (gone_by k ends y)) (walk_steps n k t ends (onward t ends y) (suc i))
  where
    on : T (gone_by k ends y) → {m : ℕ} → ((j : ℕ) → j < m → T (gone_by k ends (walkBy (onward t ends) j (onward t ends y))))
        → (j : ℕ) → j < suc m → T (gone_by k ends (walkBy (onward t ends) j y))
    on g b zero l = g
    on g b (suc j) l = b j (omega arith)

    go : Dec (T (gone_by k ends y)) → Steps k t ends (onward t ends y) (suc i) (walk_from n k t ends (onward t ends y) (suc i))
        → Steps k t ends y i (walk_from (suc n) k t ends y i)
    go (yes g) S =
        rw (T→true (gone_by k ends y) g)
        (record { more = suc S.more; count = (let c = S.count in omega arith); there = S.there; before = on g S.before })
    go (no g) S = rw (not_T→false (gone_by k ends y) g) (record { more = 0; count = omega arith; there = refl; before = λ j l. absurd (not-suc-le-zero l) })

-- an accepted call walks over what comes from a pyramid
accepted_walks : (D k x : ℕ) (t h w : List ℕ) → (successor_at D k x t h w).answer.number ≡ 0 → Walks D k (take D t) (take (D / 2) h) x
accepted_walks D k x t h w e =
    let c = (successor_order D k x t h w).zero.0 e in
    let P = c.0.reaching.pyramid in
    let F = P.fits in
    comes_walks D k (take D t) (take (D / 2) h) (count_test D F.count) (length-take-le D t F.lengths.table)
    (length-take-le (D / 2) h F.lengths.history) P.comes_so x c.0.inside c.1

-- THE FIRST DART THAT IS NOT GONE, AND HOW MANY WERE BEFORE IT
pub successor_passes : (D k x : ℕ) (t h w : List ℕ) → (successor_at D k x t h w).answer.number ≡ 0
    → Passes k (take D t) (take (D / 2) h) x (successor_at D k x t h w).found
unfolding walk
successor_passes D k x t h w e =
    let W = accepted_walks D k x t h w e in
    let S = walk_steps D k (take D t) (take (D / 2) h) (successor (take D t) x) 0 in
    let n : (walk D k (take D t) (take (D / 2) h) x).passed ≡ S.more = (let m = S.count in omega arith) in
    rw (successor_found D k x t h w e)
    (record {
      before = λ i l. S.before i (omega arith);
      there = S.there ∙ ap (stepped (take D t) (take (D / 2) h) x) (sym n);
      stays = T_not (gone_by k (take (D / 2) h) (walk D k (take D t) (take (D / 2) h) x).dart) W.arrives;
    })

found_path : {f g : Found} → f.dart ≡ g.dart → f.passed ≡ g.passed → f ≡ g
found_path d n = λ i. record { dart = d i; passed = n i }

-- THERE IS NO OTHER
pub passes_once : (k : ℕ) (t ends : List ℕ) (x : ℕ) (f g : Found) → Passes k t ends x f → Passes k t ends x g → f ≡ g
passes_once k t ends x f g A B = found_path (A.there ∙ ap (stepped t ends x) same ∙ sym B.there) same
  where
    go : Dec (f.passed < g.passed) → Dec (g.passed < f.passed) → f.passed ≡ g.passed
    go (yes l) d = absurd (A.stays (rw A.there (B.before f.passed l)))
    go (no n) (yes l) = absurd (B.stays (rw B.there (A.before g.passed l)))
    go (no n) (no m) = omega arith

    same : f.passed ≡ g.passed
    same = go (dec_lt f.passed g.passed) (dec_lt g.passed f.passed)

-- "NEVER ABOVE TWICE THE OPERATIONS DONE BY LEVEL k"
pub successor_few : (D k x : ℕ) (t h w : List ℕ) → (successor_at D k x t h w).found.passed ≤ 2 * done_by k (take (D / 2) h)
successor_few D k x t h w = go (ℕ_discrete (successor_at D k x t h w).answer.number 0)
  where
    go : Dec ((successor_at D k x t h w).answer.number ≡ 0) → (successor_at D k x t h w).found.passed ≤ 2 * done_by k (take (D / 2) h)
    go (yes e) = rw (successor_found D k x t h w e) (accepted_walks D k x t h w e).few
    go (no n) = let z = (successor_refused D k x t h w n).passed in omega arith
