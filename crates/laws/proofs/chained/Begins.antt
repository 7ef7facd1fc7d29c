-- What an accepted start and an accepted read leave: a pyramid, lent with room, on which calls can be made.
--   Started D t h w a           == a leaves the base of D darts that the table t holds
--   FromFile b t h w a          == a leaves what the bytes b mean
--   start_left, read_left       == where start and read answer 0, they leave this
--   start_accepts, read_accepts == they answer 0 on a base lent with room, and on bytes that mean something
--   entry_front                 == the first D entries of a lent table
use mathlib.Core.Bool.{Bool}
use mathlib.Core.List.{List, []}
use mathlib.Core.Path.{◌≡◌, refl, sym, ap, ap₂, ◌∙◌, subst}
use Prim.Native.Nat.{ℕ, suc, ◌≤◌}
use native.Mathlib.Decide.{ℕ_discrete}
use native.Mathlib.Omega.{arith}
use lib.Dec.{T}
use lib.ListN.{length, take}
use lib.Seq.{get_or-take, length-take-le, take-take}
use Rattle.permutations.specs.Choice.{eqb_same, eqb_other}
use Rattle.darts.specs.Answers.{done}
use Rattle.darts.specs.Map.{successor, Verdict, permutes, culprits, permutation_test}
use Rattle.darts.specs.State.{State, base_state}
use Rattle.darts.specs.Pyramid.{dart_count, build}
use Rattle.darts.specs.Read.{file_state, Read, means, faulty, read_file}
use Rattle.darts.specs.Calls.{After, leaves, cleared, room, fitting, table_of, past_of, begins, start, read_into, read}
use Rattle.laws.proofs.runs.Pyramids.{built_pyramid}
use Rattle.laws.proofs.claims.Decided.{pyramid_decided}
use Rattle.laws.proofs.file.Meanings.{meaning}
use Rattle.darts.proofs.Fitting.{Count, Lengths, count_facts, count_test, room_facts, fine, fits}
use Rattle.laws.proofs.bridge.Verdicts.{test_same}
use Rattle.laws.proofs.calls.Cleared.{cleared_zero, cleared_rest, cleared_length}
use Rattle.laws.proofs.chained.OnLent.{Left, laid_table, laid_past, laid_left}
use Rattle.laws.proofs.chained.Faults.{Meant, file_told}

-- ---- a base in the first D numbers of a table

module _ (D : ℕ) (t : List ℕ) where
  pub entry_front : (d : ℕ) → suc d ≤ D → successor (take D t) d ≡ successor t d
  unfolding successor
  entry_front d h = get_or-take D t d 0 h

  base_front : permutation_test D (take D t) ≡ permutation_test D t
  base_front = test_same D (take D t) t (take-take D D t (omega arith))

-- ---- start

pub record Started (D : ℕ) (t h w : List ℕ) (a : After) : Type 0 where
  pub state : a.state ≡ base_state D (take D t)
  pub table : a.table ≡ t
  pub history : a.history ≡ h
  pub left : Left D t h w a
  pub count : T (dart_count D)
  pub lengths : Lengths D (length t) (length h) (length w)
  pub permutation : permutation_test D (take D t) ≡ permutes

module _ (D : ℕ) (t h w : List ℕ) where
  begun : Count D → Lengths D (length t) (length h) (length w) → permutation_test D t ≡ permutes → Started D t h w (leaves done (base_state D (take D t)) t h (cleared D w))
  unfolding build table_of past_of
  begun C L b =
      let count = count_test D C in
      let permutation = base_front D t ∙ b in
      record {
        state = refl;
        table = refl;
        history = refl;
        left = record {
          answer = refl;
          darts = refl;
          lent = record {
            pyramid = built_pyramid D (take D t) count (length-take-le D t L.table) permutation [] refl;
            lengths = record { table = L.table; history = L.history; work = rw (cleared_length D w L.work) L.work };
          };
          table = refl;
          history = refl;
          zeros = cleared_zero D w;
          work = cleared_rest D w;
        };
        count = count;
        lengths = L;
        permutation = permutation;
      }

  -- WHERE START ANSWERS 0, IT LEAVES THE BASE IN THE TABLE, A PYRAMID LENT WITH ROOM
  pub start_left : (start D t h w).answer.number ≡ 0 → Started D t h w (start D t h w)
  unfolding start begins
  start_left e = go (ℕ_discrete (fitting D (length t) (length h) (length w)).number 0)
    where
      go : Dec ((fitting D (length t) (length h) (length w)).number ≡ 0) → Started D t h w (start D t h w)
      go (no n) = absurd (n (rw (eqb_other n) at e))
      go (yes f) = said (permutation_test D t) refl
        where
          said : (v : Verdict) → permutation_test D t ≡ v → Started D t h w (start D t h w)
          said (culprits d c) k = absurd (let z : 3 ≡ 0 = rw (eqb_same f, k) at e in omega arith)
          said permutes k =
              let F = fits D (length t) (length h) (length w) f in
              rw (eqb_same f, k) (begun F.count F.lengths k)

  -- START ANSWERS 0 ON A BASE LENT WITH ROOM
  pub start_accepts : T (dart_count D) → Lengths D (length t) (length h) (length w) → permutation_test D (take D t) ≡ permutes → (start D t h w).answer.number ≡ 0
  unfolding start begins
  start_accepts C L b =
      let all : permutation_test D t ≡ permutes = sym (base_front D t) ∙ b in
      rw (← fine D (length t) (length h) (length w) (count_facts D C) L, all)

-- ---- read

pub record FromFile (b t h w : List ℕ) (a : After) : Type 0 where
  -- the bytes mean this state, this table and this past
  pub meant : read_file (room (length t) (length h) (length w)) b ≡ means a.state (table_of a.state a.table) (past_of a.state a.history)
  pub left : Left a.state.darts t h w a

-- WHERE READ ANSWERS 0, IT LEAVES WHAT THE BYTES MEAN, A PYRAMID LENT WITH ROOM
pub read_left : (b t h w : List ℕ) → (read b t h w).answer.number ≡ 0 → FromFile b t h w (read b t h w)
unfolding read read_into file_state
read_left b t h w e = go (read_file has b) refl (file_told has b) e
  where
    has : ℕ → Bool
    has = room (length t) (length h) (length w)

    go : (r : Read) → read_file has b ≡ r → Meant r → (read_into t h w r).answer.number ≡ 0 → FromFile b t h w (read_into t h w r)
    go (faulty D a) k m e = absurd (m e)
    go (means s u past) k m e =
        let M = meaning has b k in
        let P = (pyramid_decided s u past).0 M.pyramid in
        let same : M.darts ≡ s.darts = sym (ap (λ (s : State). s.darts) M.state) in
        let L = subst (λ (D : ℕ). Lengths D (length t) (length h) (length w)) same (room_facts (length t) (length h) (length w) M.darts M.fits) in
        record { meant = k ∙ sym (ap₂ (means s) (laid_table P t h w L) (laid_past P t h w L)); left = laid_left P t h w L }

-- what the bytes mean, read hands back
pub read_accepts : (b t h w : List ℕ) {s : State} {u past : List ℕ} → read_file (room (length t) (length h) (length w)) b ≡ means s u past
    → (read b t h w).answer.number ≡ 0
unfolding read read_into
read_accepts b t h w e = ap (λ (r : Read). (read_into t h w r).answer.number) e
