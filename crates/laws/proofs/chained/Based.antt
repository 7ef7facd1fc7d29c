-- Where calls on a state begin, and what they stand on: a base, lent with room.
--   LentOn a    == a leaves a pyramid, lent with room
--   Based D b a == a is done, and leaves the base b of D darts, lent with room
--   Over D b a  == a leaves a pyramid of D darts over the base b, lent with room
--   based       == a base, its state, and room for it are all that it takes
--   start_based, read_based == so does an accepted start, and an accepted read of a file without levels
--   ground_based            == and whatever else leaves a pyramid without levels, such as unfold to level 0
--   based_over, over_base   == a base is over itself, and a pyramid over no other base than its own
--   over_call               == what an accepted call leaves is over the same base
--   lent_over               == a pyramid lent with room is over its base
--   unfold_based            == which unfold to level 0 leaves
use mathlib.Core.List.{List, [], ◌∷◌}
use mathlib.Core.Path.{◌≡◌, refl, sym, ap, ◌∙◌}
use Prim.Native.Nat.{ℕ}
use native.Mathlib.Omega.{arith}
use lib.Dec.{T}
use lib.ListN.{length, take}
use Rattle.darts.specs.Map.{permutes, permutation_test}
use Rattle.darts.specs.Operation.{undone}
use Rattle.darts.specs.State.{State, base_state, gives}
use Rattle.darts.specs.Levels.{unfold_to}
use Rattle.darts.specs.Pyramid.{Kernel, Pyramid, dart_count, build}
use Rattle.darts.specs.Calls.{After, table_of, past_of, start, read}
use Rattle.darts.proofs.Fitting.{Lengths}
use Rattle.laws.proofs.runs.Results.{same_result}
use Rattle.laws.proofs.runs.Pyramids.{pyramid_built, built_pyramid}
use Rattle.laws.proofs.runs.Undo.{unfold_returns, unfold_top}
use Rattle.laws.proofs.claims.Decided.{base_undone}
use Rattle.laws.proofs.calls.Judging.{Lent}
use Rattle.laws.proofs.chained.OnLent.{Call, to_level, call_on, leads, called_accepts, called_left}
use Rattle.laws.proofs.chained.Begins.{start_left, read_left}

abbrev pub LentOn : After → Type 0
LentOn a = Lent a.state a.table a.history a.work

pub record Based (D : ℕ) (b : List ℕ) (a : After) : Type 0 where
  pub answer : a.answer.number ≡ 0
  pub state : a.state ≡ base_state D b
  pub table : take D a.table ≡ b
  pub lent : LentOn a

pub record Over (D : ℕ) (b : List ℕ) (a : After) : Type 0 where
  pub darts : a.state.darts ≡ D
  pub lent : LentOn a
  pub ground : unfold_to 0 a.state (table_of a.state a.table) (past_of a.state a.history) ≡ gives (base_state D b) b []

-- ---- a base

module _ (D : ℕ) (b : List ℕ) (count : T (dart_count D)) (size : length b ≡ D) (permutation : permutation_test D b ≡ permutes) where
  base_pyramid : Pyramid (base_state D b) b []
  unfolding build
  base_pyramid = built_pyramid D b count size permutation [] refl

  -- A BASE IN A LENT TABLE, ITS STATE, AND ROOM FOR IT
  pub based : (a : After) → a.answer.number ≡ 0 → a.state ≡ base_state D b → take D a.table ≡ b
      → Lengths D (length a.table) (length a.history) (length a.work) → Based D b a
  unfolding table_of past_of
  based a zero state table room = record {
    answer = zero;
    state = state;
    table = table;
    lent = record { pyramid = rw (state, table) base_pyramid; lengths = rw state room };
  }

module _ {D : ℕ} {b : List ℕ} {a : After} (B : Based D b a) where
  its_pyramid : Pyramid (base_state D b) b []
  unfolding table_of past_of
  its_pyramid = rw (B.state, B.table) at B.lent.pyramid

  its_base : its_pyramid.base ≡ b
  unfolding undone
  its_base = sym (base_undone its_pyramid)

  pub base_count : T (dart_count D)
  base_count = its_pyramid.count

  pub base_size : length b ≡ D
  base_size = rw its_base at its_pyramid.size

  pub base_permutation : permutation_test D b ≡ permutes
  base_permutation = rw its_base at its_pyramid.permutation

-- ---- what leaves a base

pub start_based : (D : ℕ) (t h w : List ℕ) → (start D t h w).answer.number ≡ 0 → Based D (take D t) (start D t h w)
start_based D t h w e =
    let S = start_left D t h w e in
    record { answer = e; state = S.state; table = ap (take D) S.table; lent = S.left.lent }

module _ {s : State} {t past : List ℕ} (P : Pyramid s t past) where
  no_kernels : (ks : List Kernel) → length ks ≡ 0 → build (base_state s.darts P.base) P.base [] ks ≡ gives s t past → s ≡ base_state s.darts t
  unfolding build
  no_kernels [] none e = same_result (λ z u new. z ≡ base_state s.darts u) e refl
  no_kernels (k ∷ ks) none e = absurd (omega arith)

  -- A PYRAMID WITHOUT LEVELS IS A BASE
  ground_state : s.levels ≡ 0 → s ≡ base_state s.darts t
  ground_state none = no_kernels P.kernels (let h = (pyramid_built P).height in omega arith) P.built

pub ground_based : (a : After) → a.answer.number ≡ 0 → LentOn a → a.state.levels ≡ 0 → Based a.state.darts (take a.state.darts a.table) a
unfolding table_of
ground_based a zero L none = record { answer = zero; state = ground_state L.pyramid none; table = refl; lent = L }

-- "`levels=L`", with L of 0
pub read_based : (b t h w : List ℕ) → (read b t h w).answer.number ≡ 0 → (read b t h w).state.levels ≡ 0
    → Based (read b t h w).state.darts (take (read b t h w).state.darts (read b t h w).table) (read b t h w)
read_based b t h w e = ground_based (read b t h w) e (read_left b t h w e).left.lent

-- ---- over a base

module _ {s : State} {t past : List ℕ} (P : Pyramid s t past) where
  pyramid_ground : unfold_to 0 s t past ≡ gives (base_state s.darts P.base) P.base []
  pyramid_ground = unfold_returns (base_pyramid s.darts P.base P.count P.size P.permutation) P.kernels P.built

pub lent_over : (a : After) (L : LentOn a) → Over a.state.darts L.pyramid.base a
lent_over a L = record { darts = refl; lent = L; ground = pyramid_ground L.pyramid }

pub based_over : {D : ℕ} {b : List ℕ} {a : After} → Based D b a → Over D b a
unfolding table_of past_of
based_over {D} {b} B = record { darts = ap (λ s. s.darts) B.state; lent = B.lent; ground = rw (B.state, B.table) (unfold_top (base_state D b) b []) }

module _ {D : ℕ} {b : List ℕ} {a : After} (O : Over D b a) where
  -- the base of the pyramid is this one
  pub over_base : O.lent.pyramid.base ≡ b
  over_base =
      let P = O.lent.pyramid in
      let same : gives (base_state a.state.darts P.base) P.base [] ≡ gives (base_state D b) b [] = sym (pyramid_ground P) ∙ O.ground in
      cc

  -- AN ACCEPTED CALL STAYS OVER ITS BASE
  pub over_call : (c : Call) → (call_on c a).answer.number ≡ 0 → Over D b (call_on c a)
  over_call c e =
      let A = called_left c a.state a.table a.history a.work e in
      record { darts = A.left.darts ∙ O.darts; lent = A.left.lent; ground = (leads c).ground A.before.pyramid A.gave ∙ O.ground }

  -- UNFOLD TO LEVEL 0 LEAVES THE BASE
  pub unfold_based : Based D b (call_on (to_level 0) a)
  unfolding table_of
  unfold_based =
      let zero = called_accepts (to_level 0) a.state a.table a.history a.work O.lent O.ground in
      let A = called_left (to_level 0) a.state a.table a.history a.work zero in
      let z = call_on (to_level 0) a in
      let end : gives z.state (take z.state.darts z.table) (past_of z.state z.history) ≡ gives (base_state D b) b [] = sym A.gave ∙ O.ground in
      let state : z.state ≡ base_state D b = cc in
      let table : take z.state.darts z.table ≡ b = cc in
      record { answer = zero; state = state; table = ap (λ n. take n z.table) (sym (A.left.darts ∙ O.darts)) ∙ table; lent = A.left.lent }
