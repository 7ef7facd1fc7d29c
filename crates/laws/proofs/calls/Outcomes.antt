-- The ways that a start ends, and that a write ends.
--   Starting D t h w  == 1; 2; 3, with both culprits; or done, a base
--   Writing s t h w o == 1, 2 or 4; 2 with the bytes needed; or the file over the output
--   starting, writing == one of them it is
use mathlib.Core.List.{List}
use mathlib.Core.Path.{◌≡◌, refl}
use mathlib.Core.Logic.{◌≢◌}
use Prim.Native.Nat.{ℕ, ◌<◌, ◌≤◌}
use native.Mathlib.Decide.{dec_lt}
use native.Mathlib.Omega.{arith}
use lib.Dec.{T, ltb, lt→ltb, ltb→lt}
use lib.ListN.{length, take}
use Rattle.permutations.specs.Choice.{T?, T→true, not_T→false, eqb_other}
use Rattle.darts.specs.Answers.{done, wrote, no_dart_count, too_short, needs, no_permutation}
use Rattle.darts.specs.Map.{Verdict, permutes, culprits, permutation_test}
use Rattle.darts.specs.State.{State, zeros, base_state}
use Rattle.darts.specs.Pyramid.{dart_count}
use Rattle.darts.specs.File.{file_of}
use Rattle.darts.specs.Calls.{leaves, room, table_of, past_of, cleared, work_after, judged, begins, start, write}
use Rattle.slices.specs.Over.{over}
use Rattle.darts.proofs.Fitting.{Count, Lengths, count_facts, count_test, room_facts, room_test, no_count_lem, short, fine}
use Rattle.laws.proofs.calls.Judging.{Lent, Judging, uncounted, cramped, other, lent, judging}

-- ---- start

pub data Starting (D : ℕ) (t h w : List ℕ) : Type 0 where
  no_count : ¬ (Count D) → start D t h w ≡ leaves no_dart_count zeros t h w → Starting D t h w
  no_room : Count D → ¬ (Lengths D (length t) (length h) (length w)) → start D t h w ≡ leaves too_short zeros t h w → Starting D t h w
  no_base : Count D → Lengths D (length t) (length h) (length w) → {d c : ℕ} → permutation_test D t ≡ culprits d c
      → start D t h w ≡ leaves (no_permutation d c) zeros t h (cleared D w) → Starting D t h w
  base : Count D → Lengths D (length t) (length h) (length w) → permutation_test D t ≡ permutes
      → start D t h w ≡ leaves done (base_state D (take D t)) t h (cleared D w) → Starting D t h w

pub starting : (D : ℕ) (t h w : List ℕ) → Starting D t h w
unfolding start begins
starting D t h w = go (T? (dart_count D)) (T? (room (length t) (length h) (length w) D)) (permutation_test D t) refl
  where
    go : Dec (T (dart_count D)) → Dec (T (room (length t) (length h) (length w) D)) → (v : Verdict) → permutation_test D t ≡ v → Starting D t h w
    go (no n) r v k =
        let c : ¬ (Count D) = λ k. n (count_test D k) in
        no_count c (rw (← no_count_lem D (length t) (length h) (length w) c))
    go (yes c) (no n) v k =
        let C = count_facts D c in
        let l : ¬ (Lengths D (length t) (length h) (length w)) = λ k. n (room_test (length t) (length h) (length w) D k) in
        no_room C l (rw (← short D (length t) (length h) (length w) C l))
    go (yes c) (yes r) (culprits d l) k =
        let C = count_facts D c in
        let L = room_facts (length t) (length h) (length w) D r in
        no_base C L k (rw (← fine D (length t) (length h) (length w) C L, k))
    go (yes c) (yes r) permutes k =
        let C = count_facts D c in
        let L = room_facts (length t) (length h) (length w) D r in
        base C L k (rw (← fine D (length t) (length h) (length w) C L, k))

-- ---- write

abbrev pub writes : State → List ℕ → List ℕ → List ℕ
writes s t h = file_of s (table_of s t) (past_of s h)

pub data Writing (s : State) (t h w o : List ℕ) : Type 0 where
  refused : (judged s t h w).number ≢ 0
      → write s t h w o ≡ record { answer = judged s t h w; table = t; history = h; work = work_after (judged s t h w) s.darts w; output = o }
      → Writing s t h w o
  tight : Lent s t h w → length o < length (writes s t h)
      → write s t h w o ≡ record { answer = needs (length (writes s t h)); table = t; history = h; work = cleared s.darts w; output = o }
      → Writing s t h w o
  written : Lent s t h w → length (writes s t h) ≤ length o
      → write s t h w o
      ≡ record { answer = wrote (length (writes s t h)); table = t; history = h; work = cleared s.darts w; output = over (writes s t h) o }
      → Writing s t h w o

module _ (s : State) (t h w o : List ℕ) where
  write_refused_lem : (judged s t h w).number ≢ 0 → Writing s t h w o
  unfolding write
  write_refused_lem n = refused n (rw (eqb_other n))

  write_lent : Lent s t h w → judged s t h w ≡ done → Dec (length o < length (writes s t h)) → Writing s t h w o
  unfolding write
  write_lent L e (yes b) = tight L b (rw (e, T→true (ltb (length o) (length (writes s t h))) (lt→ltb (length o) (length (writes s t h)) b)))
  write_lent L e (no n) =
      written L (omega arith) (rw (e, not_T→false (ltb (length o) (length (writes s t h))) (λ l. n (ltb→lt (length o) (length (writes s t h)) l))))

  pub writing : Writing s t h w o
  writing = go (judging s t h w)
    where
      go : Judging s t h w → Writing s t h w o
      go (uncounted c e) = write_refused_lem (rw e (λ z. omega arith))
      go (cramped c l e) = write_refused_lem (rw e (λ z. omega arith))
      go (other c l p e) = write_refused_lem (rw e (λ z. omega arith))
      go (lent L e) = write_lent L e (dec_lt (length o) (length (writes s t h)))
