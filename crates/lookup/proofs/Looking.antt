-- The ways that the lookup ends.
--   inside_high, inside_none, inside_gone, inside_done == 12, 7, 8 or done, over table and ends that come from a pyramid
--   inside_there == where it is done, the dart is one, and not gone
--   arrives      == the walk from there can be made
--   room_count   == what has room in a work area is a number of darts
--   no_pyramid_lem, a_pyramid == 4, or what is said over table and ends that come from a pyramid
--   CallFits D t h w, call_fits == neither 1 nor 2: what the call asks of the lent slices
--   first_refused == the call gives 1 or 2
--   looked_up    == or any other answer
--   passed_few   == the count's bound
use mathlib.Core.Bool.{Bool, true, false, not}
use mathlib.Core.List.{List}
use mathlib.Core.Logic.{◌≢◌}
use mathlib.Core.Path.{◌≡◌, refl, sym, ap, ◌∙◌, subst}
use Prim.Native.Nat.{ℕ, ◌*◌, ◌/◌, ◌≤◌, ◌<◌}
use native.Mathlib.Omega.{arith}
use borrow.Author.Tests.{lt-ltb, le-ltb, le-leb, lt-leb, leb-false}
use lib.Dec.{T, eqb, leb, ltb}
use lib.ListN.{length, take}
use Rattle.permutations.specs.Choice.{eqb_same, eqb_other}
use Rattle.darts.specs.Answers.{Answer, done, no_pyramid, no_level, no_edge, gone_already}
use Rattle.darts.specs.Cases.{refusal_of, answer_of}
use Rattle.darts.specs.declared.Refusal.{Refusal}
use Rattle.darts.specs.declared.Refusal.TheVariants.{NoPyramid}
use Rattle.darts.proofs.Cases.{refused_number}
use Rattle.std.proofs.Common.{Result, Ok, Err, if◌then◌else◌}
use Rattle.std.specs.Prelude.{IfOk}
use Rattle.darts.specs.Calls.{fitting, cleared, work_after}
use Rattle.darts.specs.Pyramid.{dart_count}
use Rattle.darts.proofs.Fitting.{fits, count_test, first_keeps}
use Rattle.area.specs.Area.{Room}
use Rattle.ends.specs.Ends.{gone_by, done_by, top}
use Rattle.ends.specs.Walk.{nothing, walk, Walks}
use Rattle.ends.specs.Comes.{comes}
use Rattle.ends.specs.Lookup.{Looked, judged, successor_at}
use Rattle.ends.proofs.Arrives.{comes_walks}
use Rattle.ends.proofs.Passed.{successor_few}
use Rattle.lookup.specs.Values.{walked, looked, inside, answer_for, LooksUp}
use Rattle.lookup.specs.declared.Followed.{Followed}

-- ---- over table and ends that come from a pyramid

module _ (D k x : ℕ) (h : List ℕ) {n : ℕ} (high : n ≡ top h) where
  pub inside_high : n < k → no_level n ≡ inside D k x h
  unfolding inside
  inside_high l = sym (rw (← high, lt-ltb n k l))

  module _ (low : k ≤ n) where
    pub inside_none : D ≤ x → no_edge 0 ≡ inside D k x h
    unfolding inside
    inside_none l = sym (rw (← high, le-ltb n k low, le-leb D x l))

    module _ (dart : x < D) where
      pub inside_gone : gone_by k h x ≡ true → gone_already 0 ≡ inside D k x h
      unfolding inside
      inside_gone g = sym (rw (← high, le-ltb n k low, lt-leb D x dart, g))

      pub inside_done : gone_by k h x ≡ false → done ≡ inside D k x h
      unfolding inside
      inside_done g = sym (rw (← high, le-ltb n k low, lt-leb D x dart, g))

chosen : ℕ → Bool → Bool → Bool → Answer
chosen n a b c = if a then no_level n else if b then no_edge 0 else if c then gone_already 0 else done

there : (n : ℕ) (a b c : Bool) → (chosen n a b c).number ≡ 0 → (b ≡ false) × (c ≡ false)
unfolding chosen
there n true b c e = absurd (omega arith)
there n false true c e = absurd (omega arith)
there n false false true e = absurd (omega arith)
there n false false false e = (refl, refl)

module _ (D k x : ℕ) (h : List ℕ) where
  pub inside_there : (inside D k x h).number ≡ 0 → (x < D) × (gone_by k h x ≡ false)
  unfolding inside chosen
  inside_there z = let q = there (top h) (ltb (top h) k) (leb D x) (gone_by k h x) z in (leb-false D x q.0, q.1)

-- ---- the walk

module _ (D k x : ℕ) (t h : List ℕ) (count : T (dart_count D)) (size : length t ≡ D) (half : length h ≡ D / 2) (came : T (comes D t h)) where
  pub arrives : (x < D) × (gone_by k h x ≡ false) → Walks D k t h x
  arrives p = comes_walks D k t h count size half came x p.0 (λ y. rw p.1 at y)

-- ---- where it is not known

pub room_count : {D : ℕ} {w : List ℕ} → Room D w → T (dart_count D)
room_count {D} r =
    let e = r.even in
    let s = r.some in
    count_test D (record { even = e; some = omega arith; small = r.small })

module _ (D k x : ℕ) (t h : List ℕ) {b : Bool} (came : b ≡ comes D t h) where
  pub no_pyramid_lem : b ≡ false → LooksUp (answer_for D k x t h) D k x t h (Err NoPyramid)
  unfolding answer_for
  no_pyramid_lem n = record { answer = rw (← came, n) refl; found = tt }

  pub a_pyramid : b ≡ true → (r : Result Followed Refusal) → LooksUp (inside D k x h) D k x t h r → LooksUp (answer_for D k x t h) D k x t h r
  unfolding answer_for
  a_pyramid y r L = rw (← came, y) L

-- ---- the call

pub record CallFits (D : ℕ) (t h w : List ℕ) : Type 0 where
  pub room : Room D w
  pub table : D ≤ length t
  pub ends : D / 2 ≤ length h

pub call_fits : (D : ℕ) (t h w : List ℕ) → (fitting D (length t) (length h) (length w)).number ≡ 0 → CallFits D t h w
call_fits D t h w fine =
    let f = fits D (length t) (length h) (length w) fine in
    let m = f.count.some in
    record {
      room = record { even = f.count.even; some = omega arith; small = f.count.small; fits = f.lengths.work };
      table = f.lengths.table;
      ends = f.lengths.history;
    }

-- every answer but 1 and 2 clears the work area
clears : (n : ℕ) (p a b c : Bool) (D : ℕ) (w : List ℕ) → work_after (if p then no_pyramid else chosen n a b c) D w ≡ cleared D w
unfolding chosen work_after
clears n true a b c D w = refl
clears n false true b c D w = refl
clears n false false true c D w = refl
clears n false false false true D w = refl
clears n false false false false D w = refl

module _ (D k x : ℕ) (t h w : List ℕ) where
  judged_first : (fitting D (length t) (length h) (length w)).number ≢ 0 → judged D k x t h w ≡ fitting D (length t) (length h) (length w)
  unfolding judged
  judged_first m = rw (eqb_other m)

  -- 1 OR 2
  pub first_refused : (r : Refusal) → refusal_of r ≡ fitting D (length t) (length h) (length w) → looked (Err r) t h w ≡ successor_at D k x t h w
  unfolding successor_at
  first_refused r e =
      let m : (fitting D (length t) (length h) (length w)).number ≢ 0 = λ z. refused_number r (ap (λ (a : Answer). a.number) e ∙ z) in
      rw (judged_first m, eqb_other m)
      (λ i. record { answer = e i; found = nothing; table = t; ends = h; work = sym (first_keeps D (length t) (length h) (length w) m D w) i })

  judged_then : (fitting D (length t) (length h) (length w)).number ≡ 0 → judged D k x t h w ≡ answer_for D k x (take D t) (take (D / 2) h)
  unfolding judged answer_for inside
  judged_then fine = rw (eqb_same fine)

  cleared_then : work_after (answer_for D k x (take D t) (take (D / 2) h)) D w ≡ cleared D w
  unfolding answer_for inside chosen
  cleared_then =
      let e = take (D / 2) h in
      clears (top e) (not (comes D (take D t) e)) (ltb (top e) k) (leb D x) (gone_by k e x) D w

  module _ (r : Result Followed Refusal) where
    followed : {a : Answer} → LooksUp a D k x (take D t) (take (D / 2) h) r
        → walked r ≡ (if eqb (answer_of r).number 0 then walk D k (take D t) (take (D / 2) h) x else nothing)
    followed = go r
      where
        go : (r : Result Followed Refusal) {a : Answer} → LooksUp a D k x (take D t) (take (D / 2) h) r
            → walked r ≡ (if eqb (answer_of r).number 0 then walk D k (take D t) (take (D / 2) h) x else nothing)
        go (Ok f) L = L.found
        go (Err e) L = rw (eqb_other (refused_number e))

    -- ANY OTHER ANSWER
    pub looked_up : (fitting D (length t) (length h) (length w)).number ≡ 0
        → LooksUp (answer_for D k x (take D t) (take (D / 2) h)) D k x (take D t) (take (D / 2) h) r → {v : List ℕ} → v ≡ cleared D w
        → looked r t h v ≡ successor_at D k x t h w
    unfolding successor_at
    looked_up fine L {v} z =
        let a : Answer = answer_of r in
        let J : judged D k x t h w ≡ a = judged_then fine ∙ sym L.answer in
        let c : v ≡ work_after a D w = z ∙ sym (ap (λ b. work_after b D w) L.answer ∙ cleared_then) in
        rw J (λ i. record { answer = a; found = followed L i; table = t; ends = h; work = c i })

  -- THE COUNT'S BOUND
  pub passed_few : (r : Result Followed Refusal) {v : List ℕ} → looked r t h v ≡ successor_at D k x t h w
      → IfOk r (λ f. f.passed ≤ 2 * done_by k (take (D / 2) h))
  passed_few (Ok f) e = subst (λ (l : Looked). l.found.passed ≤ 2 * done_by k (take (D / 2) h)) (sym e) (successor_few D k x t h w)
  passed_few (Err r) e = tt
