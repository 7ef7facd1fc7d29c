-- The sentences of request One about the two calls, refusals first.
--   Ordered g p t h w n rest == n is the number answered: 15 first, then 2, and then what `rest` says
--   KeptOrZeroed n D w v     == an answer of number n leaves v of the work area w: w itself where n is 15 or 2, the first 4D zero otherwise
--   number_of r               == the number of the answer of a step's result
--   plan_order, areas_order  == the order of the answers
--   plan_refused, areas_refused == what a refusal leaves: "as a refused start"
--   plan_place, areas_place  == the place is 0, whatever the answer
--   plan_area, areas_area    == the work area
--   plan_fitted              == an accepted plan is of a size inside the limits, and lent with room
--   plan_gives               == an accepted base: the state of a base, the table, the history as it was
--   plan_alike               == the base does not depend on the codes
--   first_rises, first_takes == the edges that the first kernel takes
--   first_turns              == edge by edge, why it is taken or passed over
--   two_codes_stay, one_code_closes == those that it passes over
use mathlib.Core.Bool.{Bool, true, false}
use mathlib.Core.List.{List, []}
use mathlib.Core.Logic.{◌⊎◌, ◌≢◌, inl, inr, ⊎_elim}
use mathlib.Core.Path.{◌≡◌, refl, sym, ◌∙◌}
use Prim.Native.Nat.{ℕ, ◌*◌, ◌/◌, ◌<◌}
use native.Mathlib.Omega.{arith}
use lib.Dec.{eqb}
use lib.ListN.{length}
use Rattle.slices.specs.Over.{over}
use Rattle.std.proofs.Common.{if◌then◌else◌}
use Rattle.darts.specs.Answers.{done, empty_kernel}
use Rattle.darts.specs.Map.{gone}
use Rattle.darts.specs.Kernel.{stands}
use Rattle.darts.specs.State.{State, base_state, Result, gives, refuses, raised, levelled, zeros}
use Rattle.darts.specs.Calls.{leaves, cleared}
use Rattle.laws.proofs.sentences.Refusals.{Returned}
use Rattle.laws.proofs.sentences.WorkArea.{Zeroed, cleared_zeroed}
use Rattle.laws.proofs.merging.Turns.{Turns, merging}
use Rattle.laws.proofs.merging.Taken.{Taken, Rises, merging_through}
use Rattle.laws.proofs.merging.Stands.{merging_stands, merging_turns, merging_rises, merging_takes, merging_keeps}
use Rattle.laws.proofs.merging.Closes.{Closed}
use Rattle.laws.proofs.merging.Laws.{merging_closes}
use Rattle.grids.specs.Grid.{Grid, edges, darts_of}
use Rattle.grids.specs.Base.{base_table}
use Rattle.grids.specs.Plans.{one_code, first_kernel, begun, on_plan, plan_base, plan_areas}
use Rattle.grids.proofs.Limits.{Limits}
use Rattle.grids.proofs.PlanBase.{base_stands}
use Rattle.grids.proofs.Areas.{first_merges}
use Rattle.grids.proofs.Begun.{first_edges, base_leaves}
use Rattle.grids.proofs.Planning.{Enough, Planning, outside, cramped, begins, planning}

-- "15, plan size outside the limits, or one cell alone; judged first"
pub record Ordered (g : Grid) (p t h w n rest : ℕ) : Type 0 where
  pub fifteen : ¬ (Limits g) → n ≡ 15
  pub two : Limits g → ¬ (Enough g p t h w) → n ≡ 2
  pub after : Limits g → Enough g p t h w → n ≡ rest

-- "and nothing is written"; "After every call except those answered 1 or 2 the work area's first 4D numbers are zero"
pub record KeptOrZeroed (n D : ℕ) (w v : List ℕ) : Type 0 where
  pub kept : (n ≡ 15) ⊎ (n ≡ 2) → v ≡ w
  pub zeroed : n ≢ 15 → n ≢ 2 → Zeroed D w v

abbrev pub number_of : Result → ℕ
number_of (gives s u past) = 0
number_of (refuses a) = a.number

abbrev pub place_of : Result → ℕ
place_of (gives s u past) = 0
place_of (refuses a) = a.place

-- ---- any step on a plan

module _ (g : Grid) (r : Result) (plan t h w : List ℕ) where
  abbrev D : ℕ
  D = darts_of g

  begun_number : (z : Result) → (begun D t h w z).answer.number ≡ number_of z
  unfolding begun
  begun_number (gives s u past) = refl
  begun_number (refuses a) = refl

  begun_place : (z : Result) → (begun D t h w z).answer.place ≡ place_of z
  unfolding begun
  begun_place (gives s u past) = refl
  begun_place (refuses a) = refl

  begun_work : (z : Result) → (begun D t h w z).work ≡ cleared D w
  unfolding begun
  begun_work (gives s u past) = refl
  begun_work (refuses a) = refl

  begun_returned : (z : Result) → (begun D t h w z).answer.number ≢ 0 → Returned zeros t h (begun D t h w z)
  unfolding begun
  begun_returned (gives s u past) n = absurd (n refl)
  begun_returned (refuses a) n = record { state = refl; table = refl; history = refl }

  pub on_order : Ordered g (length plan) (length t) (length h) (length w) (on_plan g r plan t h w).answer.number (number_of r)
  on_order = go (planning g r plan t h w)
    where
      go : Planning g r plan t h w → Ordered g (length plan) (length t) (length h) (length w) (on_plan g r plan t h w).answer.number (number_of r)
      go (outside n e) = record { fifteen = λ _. rw e; two = λ s _. absurd (n s); after = λ s _. absurd (n s) }
      go (cramped s n e) = record { fifteen = λ m. absurd (m s); two = λ _ _. rw e; after = λ _ k. absurd (n k) }
      go (begins s k e) = record { fifteen = λ m. absurd (m s); two = λ _ m. absurd (m k); after = λ _ _. rw e (begun_number r) }

  pub on_place : place_of r ≡ 0 → (on_plan g r plan t h w).answer.place ≡ 0
  on_place zero = go (planning g r plan t h w)
    where
      go : Planning g r plan t h w → (on_plan g r plan t h w).answer.place ≡ 0
      go (outside n e) = rw e
      go (cramped s n e) = rw e
      go (begins s k e) = rw e (begun_place r ∙ zero)

  pub on_refused : (on_plan g r plan t h w).answer.number ≢ 0 → Returned zeros t h (on_plan g r plan t h w)
  on_refused = go (planning g r plan t h w)
    where
      go : Planning g r plan t h w → (on_plan g r plan t h w).answer.number ≢ 0 → Returned zeros t h (on_plan g r plan t h w)
      go (outside m e) n = record { state = rw e; table = rw e; history = rw e }
      go (cramped s m e) n = record { state = rw e; table = rw e; history = rw e }
      go (begins s k e) n = rw e (begun_returned r (rw e at n))

  pub on_area : number_of r ≢ 15 → number_of r ≢ 2 → KeptOrZeroed (on_plan g r plan t h w).answer.number D w (on_plan g r plan t h w).work
  on_area big short = go (planning g r plan t h w)
    where
      go : Planning g r plan t h w → KeptOrZeroed (on_plan g r plan t h w).answer.number D w (on_plan g r plan t h w).work
      go (outside n e) = rw e (record { kept = λ _. refl; zeroed = λ m _. absurd (m refl) })
      go (cramped s n e) = rw e (record { kept = λ _. refl; zeroed = λ _ m. absurd (m refl) })
      go (begins s k e) =
          rw (e, begun_number r, begun_work r)
          (record { kept = λ m. absurd (neither m); zeroed = λ _ _. cleared_zeroed D w k.lengths.work })
        where
          neither : (number_of r ≡ 15) ⊎ (number_of r ≡ 2) → ⊥
          neither (inl i) = big i
          neither (inr i) = short i

-- ---- the base of a plan

module _ (g : Grid) (plan t h w : List ℕ) where
  pub plan_order : Ordered g (length plan) (length t) (length h) (length w) (plan_base g plan t h w).answer.number 0
  unfolding plan_base
  plan_order = on_order g _ plan t h w

  -- "place 0"
  pub plan_place : (plan_base g plan t h w).answer.place ≡ 0
  unfolding plan_base
  plan_place = on_place g _ plan t h w refl

  pub plan_refused : (plan_base g plan t h w).answer.number ≢ 0 → Returned zeros t h (plan_base g plan t h w)
  unfolding plan_base
  plan_refused = on_refused g _ plan t h w

  pub plan_area : KeptOrZeroed (plan_base g plan t h w).answer.number (darts_of g) w (plan_base g plan t h w).work
  unfolding plan_base
  plan_area = on_area g _ plan t h w (λ e. omega arith) (λ e. omega arith)

  -- it was of a size inside the limits, and lent with room
  pub plan_fitted : (plan_base g plan t h w).answer.number ≡ 0 → Limits g × Enough g (length plan) (length t) (length h) (length w)
  unfolding plan_base
  plan_fitted z = go (planning g (gives (base_state (darts_of g) (base_table g)) (base_table g) []) plan t h w)
    where
      go : Planning g (gives (base_state (darts_of g) (base_table g)) (base_table g) []) plan t h w → Limits g × Enough g (length plan) (length t) (length h) (length w)
      go (outside n e) = absurd (let k : 15 ≡ 0 = rw e at z in omega arith)
      go (cramped l n e) = absurd (let k : 2 ≡ 0 = rw e at z in omega arith)
      go (begins l k e) = (l, k)

  -- "Build it": the state of a base, the table's first numbers, and the history as it was
  pub plan_gives : (plan_base g plan t h w).answer.number ≡ 0 → plan_base g plan t h w ≡ leaves done (base_state (darts_of g) (base_table g)) (over (base_table g) t) h (cleared (darts_of g) w)
  plan_gives z = let (l, k) = plan_fitted z in base_leaves g plan t h w l k

  -- the codes are not looked at: plans of enough codes are built alike
  pub plan_alike : (other : List ℕ) → length other ≡ length plan → plan_base g other t h w ≡ plan_base g plan t h w
  unfolding plan_base on_plan
  plan_alike other e = rw e refl

-- ---- the base with its first kernel

stood_number : (s : State) (u past : List ℕ) → (number_of (levelled s [] (stands u past)) ≡ 0) ⊎ (number_of (levelled s [] (stands u past)) ≡ 5)
unfolding levelled
stood_number s u past = go (eqb (length past) 0)
  where
    go : (b : Bool) → (number_of (if b then refuses empty_kernel else gives (raised s u past) u past) ≡ 0)
        ⊎ (number_of (if b then refuses empty_kernel else gives (raised s u past) u past) ≡ 5)
    go true = inr refl
    go false = inl refl

stood_place : (s : State) (u past : List ℕ) → place_of (levelled s [] (stands u past)) ≡ 0
unfolding levelled
stood_place s u past = go (eqb (length past) 0)
  where
    go : (b : Bool) → place_of (if b then refuses empty_kernel else gives (raised s u past) u past) ≡ 0
    go true = refl
    go false = refl

module _ (g : Grid) (plan t h w : List ℕ) where
  abbrev first : Result
  first = levelled (base_state (darts_of g) (base_table g)) [] (first_kernel g plan)

  first_number : (number_of first ≡ 0) ⊎ (number_of first ≡ 5)
  first_number =
      let through = merging_through (darts_of g) (one_code g plan) (base_table g) in
      rw (first_merges g plan, merging_stands (darts_of g) (one_code g plan) (base_table g)) (stood_number (base_state (darts_of g) (base_table g)) through.table through.past)

  first_place : place_of first ≡ 0
  first_place =
      let through = merging_through (darts_of g) (one_code g plan) (base_table g) in
      rw (first_merges g plan, merging_stands (darts_of g) (one_code g plan) (base_table g)) (stood_place (base_state (darts_of g) (base_table g)) through.table through.past)

  pub areas_order : Ordered g (length plan) (length t) (length h) (length w) (plan_areas g plan t h w).answer.number (number_of first)
  unfolding plan_areas
  areas_order = on_order g first plan t h w

  pub areas_place : (plan_areas g plan t h w).answer.place ≡ 0
  unfolding plan_areas
  areas_place = on_place g first plan t h w first_place

  pub areas_refused : (plan_areas g plan t h w).answer.number ≢ 0 → Returned zeros t h (plan_areas g plan t h w)
  unfolding plan_areas
  areas_refused = on_refused g first plan t h w

  pub areas_area : KeptOrZeroed (plan_areas g plan t h w).answer.number (darts_of g) w (plan_areas g plan t h w).work
  unfolding plan_areas
  areas_area =
      on_area g first plan t h w (λ e. ⊎_elim (λ n. omega arith) (λ n. omega arith) first_number) (λ e. ⊎_elim (λ n. omega arith) (λ n. omega arith) first_number)

-- "edges by rising number, contracted where both ends have the same code"
pub first_rises : (g : Grid) (plan : List ℕ) → Rises 0 (first_edges g plan)
first_rises g plan = merging_rises (darts_of g) (one_code g plan) (base_table g)

module _ (g : Grid) (plan : List ℕ) {u past : List ℕ} (stood : first_kernel g plan ≡ stands u past) where
  abbrev merges : merging (darts_of g) (one_code g plan) (base_table g) ≡ stands u past
  merges = sym (first_merges g plan) ∙ stood

  -- "contracted where both ends have the same code, unless 9 or 11 would be given at its turn"
  pub first_turns : Turns (darts_of g) (one_code g plan) (base_table g) (darts_of g / 2) (first_edges g plan) u past
  first_turns = merging_turns (darts_of g) (one_code g plan) (base_table g) merges

  pub first_takes : (e : ℕ) → Taken (first_edges g plan) e → (e < edges g) × (one_code g plan e ≡ true)
  first_takes e k = let (h, o) = merging_takes (darts_of g) (one_code g plan) (base_table g) merges e k in (omega arith, o)

  -- an edge between two codes survives
  pub two_codes_stay : (e : ℕ) → one_code g plan e ≡ false → gone past (2 * e) ≡ false
  two_codes_stay = merging_keeps (darts_of g) (one_code g plan) (base_table g) merges

  -- "unless 9 or 11 would be given at its turn": an edge of one code is joined by those that were taken, or it was a whole piece at its turn
  pub one_code_closes : (e : ℕ) → e < edges g → one_code g plan e ≡ true → Closed (darts_of g) (one_code g plan) (base_table g) (first_edges g plan) e
  one_code_closes e h = merging_closes (darts_of g) (one_code g plan) (base_table g) (base_stands g) merges e (omega arith)
