-- Steps round a cycle of the work area.
--   step_there      == a survivor goes on to the dart after it
--   step_stays      == a gone dart stays where it is
--   next_there      == the dart after a survivor is a survivor
--   outside_step    == a change of the forest's part changes no step
--   left f n x i    == how many of at most n steps lead from x to i
--   left_falls      == each step leaves one fewer
--   cycle_classes   == to be on one cycle is to be in one class
use mathlib.Core.List.{List}
use mathlib.Core.Logic.{◌≢◌, by_cases}
use mathlib.Core.Path.{◌≡◌, refl, sym, ◌∙◌, fun_ext}
use Prim.Native.Nat.{ℕ, zero, suc, ◌+◌, ◌≤◌, ◌<◌}
use native.Mathlib.Decide.{dec_lt}
use native.Mathlib.Nat.{not-suc-le-zero, le_of_suc-le-suc}
use native.Mathlib.Omega.{arith}
use lib.Dec.{eqb}
use lib.ListN.{get_or}
use borrow.Author.Tests.{eq-eqb, ne_eqb, lt-ltb, le-ltb}
use Rattle.permutations.specs.Perm.{Perm, inj, below}
use Rattle.permutations.specs.Cycle.{walk, Meets, meets_refl, meets_trans, meets_sym, soon}
use Rattle.std.proofs.Common.{if◌then◌else◌}
use Rattle.forest.specs.Lowest.{Classes}
use Rattle.area.specs.Area.{Room, prev, there, around}
use Rattle.operations.specs.Trees.{Outside}
use Rattle.operations.specs.Cycles.{step_in}
use Rattle.operations.proofs.Outside.{outside_there, outside_around}

-- ---- one step

module _ {D : ℕ} (k : ℕ) (w : List ℕ) {x : ℕ} where
  pub step_there : x < D → get_or w (D + x) 0 < D → step_in D k w x ≡ around k w x
  unfolding step_in there prev
  step_there h l = rw (lt-ltb x D h, lt-ltb (get_or w (D + x) 0) D l) refl

  pub step_stays : x < D → D ≤ get_or w (D + x) 0 → step_in D k w x ≡ x
  unfolding step_in there prev
  step_stays h l = rw (lt-ltb x D h, le-ltb (get_or w (D + x) 0) D l) refl

  no_dart : D ≤ x → step_in D k w x ≡ x
  unfolding step_in
  no_dart h = rw (le-ltb x D h) refl

-- a gone dart is its own image, and no survivor's
pub next_there : {D : ℕ} (k : ℕ) (w : List ℕ) → Perm D (step_in D k w) → {x : ℕ} → x < D → get_or w (D + x) 0 < D
    → get_or w (D + step_in D k w x) 0 < D
next_there {D} k w π {x} h l = go (dec_lt (get_or w (D + step_in D k w x) 0) D)
  where
    go : Dec (get_or w (D + step_in D k w x) 0 < D) → get_or w (D + step_in D k w x) 0 < D
    go (yes y) = y
    go (no n) =
        let e : step_in D k w x ≡ x = inj π (step_stays k w (below π h) (omega arith)) in
        rw e l

module _ {D : ℕ} {w w' : List ℕ} (o : Outside D w w') (room : Room D w) (k : ℕ) where
  dart_step : (x : ℕ) → x < D → step_in D k w' x ≡ step_in D k w x
  unfolding step_in
  dart_step x h = rw (outside_there o x h, outside_around o room k x h) refl

  pub outside_step : step_in D k w' ≡ step_in D k w
  outside_step =
      fun_ext (λ x.
      by_cases (dec_lt x D) (dart_step x) (λ n. no_dart k w' (omega arith) ∙ sym (no_dart k w (omega arith))))

-- ---- how far it is

unfoldable pub left : (ℕ → ℕ) → ℕ → ℕ → ℕ → ℕ
left f zero x i = 0
left f (suc n) x i = if eqb x i then 0 else suc (left f n (f x) i)

-- more steps than lead to i make no difference
left_enough : (f : ℕ → ℕ) (i k n x : ℕ) → k ≤ n → walk f k x ≡ i → left f n x i ≡ left f k x i
unfolding left walk
left_enough f i zero zero x h e = refl
left_enough f i zero (suc n) x h e = rw (eq-eqb x i e) refl
left_enough f i (suc k) zero x h e = absurd (not-suc-le-zero h)
left_enough f i (suc k) (suc n) x h e = rw (left_enough f i k n (f x) (le_of_suc-le-suc h) e) refl

left_step : (f : ℕ → ℕ) (D i x k : ℕ) → k ≤ D → walk f k x ≡ i → x ≢ i → left f D (f x) i < left f D x i
unfolding left walk
left_step f D i x zero h e n = absurd (n e)
left_step f D i x (suc k) h e n =
    let a = left_enough f i (suc k) D x h e in
    let b = left_enough f i k D (f x) (omega arith) e in
    let c : left f (suc k) x i ≡ suc (left f k (f x) i) = rw (ne_eqb x i n) refl in
    omega arith

module _ {D : ℕ} {f : ℕ → ℕ} (π : Perm D f) where
  pub left_falls : {x i : ℕ} → Meets f x i → x ≢ i → left f D (f x) i < left f D x i
  left_falls {x} {i} m n = let s = soon π m in left_step f D i x s.0 s.1 s.2 n

  pub cycle_classes : Classes (Meets f)
  cycle_classes = record { own = meets_refl f; back = meets_sym π; on = meets_trans f }
