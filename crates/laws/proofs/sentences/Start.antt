-- 3, "start: the table is no permutation", place "lowest dart whose successor is D or more, or repeats a lower dart's"; its second place is the other
-- culprit.
--   Three D t a  == a is answer 3, and its places are the lowest faulty dart and the second culprit beside it
--   start_three  == start answers so where a dart is faulty
--   start_zero   == it is done where none is
--   start_second == "every other answer has 0 there"
--   Search D t d n v == v says who is the lowest faulty one of the n darts from d on, and who is beside it, or that none is faulty
use mathlib.Core.Bool.{◌||◌}
use mathlib.Core.List.{List}
use mathlib.Core.Logic.{◌≢◌}
use mathlib.Core.Path.{◌≡◌, refl, sym, ◌∙◌}
use Prim.Native.Nat.{ℕ, zero, suc, ◌+◌, ◌<◌, ◌≤◌}
use native.Mathlib.Decide.{ℕ_discrete}
use native.Mathlib.Omega.{arith}
use lib.Dec.{T, leb}
use lib.ListN.{length, get_or}
use Rattle.permutations.specs.Choice.{T?, T→true, not_T→false}
use Rattle.darts.specs.Answers.{Answer}
use Rattle.darts.specs.Map.{successor, repeats, culprit, Verdict, permutes, culprits, test_from, permutation_test}
use Rattle.darts.specs.Calls.{start}
use Rattle.darts.proofs.Fitting.{Count, Lengths}
use Rattle.laws.proofs.bridge.Verdicts.{not_permutes, same_culprits}
use Rattle.laws.proofs.calls.Outcomes.{Starting, no_count, no_room, no_base, base, starting}
use Rattle.laws.proofs.sentences.Culprits.{Faulty, Lowest, Beside, faulty_iff, culprit_beside}
use Rattle.laws.proofs.sentences.Order.{Answers, answers}

pub record Three (D : ℕ) (t : List ℕ) (a : Answer) : Type 0 where
  pub number : a.number ≡ 3
  pub dart : a.place < D
  pub lowest : Lowest D t a.place
  pub beside : Beside D t a.place a.second

-- ---- the search

module _ (D : ℕ) (t : List ℕ) where
  data Search (d n : ℕ) (v : Verdict) : Type 0 where
    found : (b : ℕ) → d ≤ b → b < d + n → Faulty D t b → ((y : ℕ) → d ≤ y → y < b → ¬ (Faulty D t y)) → v ≡ culprits b (culprit D t b) → Search d n v
    none : ((y : ℕ) → d ≤ y → y < d + n → ¬ (Faulty D t y)) → v ≡ permutes → Search d n v

  next : (d n : ℕ) (v : Verdict) → ¬ (Faulty D t d) → Search (suc d) n v → Search d (suc n) v
  next d n v fine (found b l u f rest e) = found b (omega arith) (omega arith) f (λ y k m. go y k m (ℕ_discrete y d)) e
    where
      go : (y : ℕ) → d ≤ y → y < b → Dec (y ≡ d) → ¬ (Faulty D t y)
      go y k m (yes i) = rw i fine
      go y k m (no i) = rest y (omega arith) m
  next d n v fine (none rest e) = none (λ y k m. go y k m (ℕ_discrete y d)) e
    where
      go : (y : ℕ) → d ≤ y → y < d + suc n → Dec (y ≡ d) → ¬ (Faulty D t y)
      go y k m (yes i) = rw i fine
      go y k m (no i) = rest y (omega arith) (omega arith)

  turn : (d n : ℕ) → Dec (T (leb D (get_or t d 0) || repeats t d (get_or t d 0))) → Search (suc d) n (test_from D t n (suc d))
      → Search d (suc n) (test_from D t (suc n) d)
  unfolding test_from successor
  turn d n (yes f) rest =
      rw (T→true (leb D (get_or t d 0) || repeats t d (get_or t d 0)) f)
      (found d (omega arith) (omega arith) ((faulty_iff D t d).0 f) (λ y k m. absurd (omega arith)) refl)
  turn d n (no f) rest =
      rw (not_T→false (leb D (get_or t d 0) || repeats t d (get_or t d 0)) f) (next d n _ (λ g. f ((faulty_iff D t d).1 g)) rest)

  searched : (n d : ℕ) → Search d n (test_from D t n d)
  unfolding test_from
  searched zero d = none (λ y k m. absurd (omega arith)) refl
  searched (suc n) d = turn d n (T? (leb D (get_or t d 0) || repeats t d (get_or t d 0))) (searched n (suc d))

-- ---- start

module _ (D : ℕ) (t h w : List ℕ) where
  module _ (count : Count D) (lengths : Lengths D (length t) (length h) (length w)) where
    pub start_three : (p : ℕ) → p < D → Faulty D t p → Three D t (start D t h w).answer
    unfolding permutation_test
    start_three p b f = go (starting D t h w) (searched D t D 0)
      where
        go : Starting D t h w → Search D t 0 D (permutation_test D t) → Three D t (start D t h w).answer
        go (no_count c e) k = absurd (c count)
        go (no_room c l e) k = absurd (l lengths)
        go (no_base c l m e) (found i j u g rest v) =
            let (place, second) = same_culprits (sym m ∙ v) in
            let lowest : Lowest D t i = record { faulty = g; lowest = λ y k. rest y (omega arith) k } in
            rw (e, place, second) (record { number = refl; dart = omega arith; lowest = lowest; beside = culprit_beside lowest })
        go (no_base c l m e) (none rest v) = absurd (not_permutes (sym m ∙ v))
        go (base c l m e) (found i j u g rest v) = absurd (not_permutes (sym v ∙ m))
        go (base c l m e) (none rest v) = absurd (rest p (omega arith) (omega arith) f)

    pub start_zero : ((p : ℕ) → p < D → ¬ (Faulty D t p)) → Answers (start D t h w).answer 0 0
    unfolding permutation_test
    start_zero fine = go (starting D t h w) (searched D t D 0)
      where
        go : Starting D t h w → Search D t 0 D (permutation_test D t) → Answers (start D t h w).answer 0 0
        go (no_count c e) k = absurd (c count)
        go (no_room c l e) k = absurd (l lengths)
        go (no_base c l m e) (found i j u g rest v) = absurd (fine i (omega arith) g)
        go (no_base c l m e) (none rest v) = absurd (not_permutes (sym m ∙ v))
        go (base c l m e) k = answers (rw e)

  pub start_second : (start D t h w).answer.number ≢ 3 → (start D t h w).answer.second ≡ 0
  start_second n = go (starting D t h w)
    where
      go : Starting D t h w → (start D t h w).answer.second ≡ 0
      go (no_count c e) = rw e
      go (no_room c l e) = rw e
      go (no_base c l m e) = absurd (n (rw e))
      go (base c l m e) = rw e
