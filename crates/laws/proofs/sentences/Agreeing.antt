-- Lent slices that agree wherever a call may look.
--   Agree D n t h w t' h' w' == two lendings, for D darts after n operations, that agree so far
--   agree_behind             == whatever is put behind what a call may look at
--   by_one_test              == two choices by one test agree, if the one and the other branch do
--   take_over                == numbers laid over two slices that agree so far: they still do
--   room_same                == both have room, or neither
--   table_same, past_same, judged_same == a call on a state is lent the same table and past, and is judged alike
use mathlib.Core.Bool.{Bool, true, false}
use mathlib.Core.List.{List, [], ◌∷◌, ◌++◌, reverse}
use mathlib.Core.Logic.{◌↔◌}
use mathlib.Core.Path.{◌≡◌, sym, ap, ◌∙◌}
use Prim.Native.Nat.{ℕ, zero, suc, ◌+◌, ◌-◌, ◌*◌, ◌/◌, ◌≤◌, ◌<◌}
use native.Mathlib.Decide.{dec_lt}
use native.Mathlib.Nat.{zero-add, suc-add}
use native.Mathlib.Omega.{arith}
use lib.ListN.{length, take, drop, length-take, length-append}
use lib.Seq.{take-nil, take-append-le, take-append-add}
use Rattle.permutations.specs.Choice.{T-ext}
use Rattle.std.proofs.Common.{if◌then◌else◌}
use Rattle.darts.specs.State.{State}
use Rattle.darts.specs.Calls.{room, fitting, table_of, past_of, judged}
use Rattle.slices.specs.Over.{over}
use Rattle.darts.proofs.Fitting.{Lengths, room_facts, room_test}

-- the first D numbers of the table, the first n of the history, no number of the work area; and both histories have D/2 numbers, or neither, and both
-- work areas 4D, or neither
pub record Agree (D n : ℕ) (t h w t' h' w' : List ℕ) : Type 0 where
  pub table : take D t ≡ take D t'
  pub history : take n h ≡ take n h'
  pub history_room : (D / 2 ≤ length h) ↔ (D / 2 ≤ length h')
  pub work_room : (4 * D ≤ length w) ↔ (4 * D ≤ length w')

-- any numbers behind those that a call may look at, and any work area as long
pub agree_behind : (D n : ℕ) (t x h y w w' : List ℕ) → D ≤ length t → n ≤ length h → D / 2 ≤ length h → length w ≡ length w'
    → Agree D n t h w (t ++ x) (h ++ y) w'
agree_behind D n t x h y w w' table count room work = record {
  table = sym (take-append-le D t x table);
  history = sym (take-append-le n h y count);
  history_room = (λ l. simp length-append (omega arith), λ l. room);
  work_room = (λ l. omega arith, λ l. omega arith);
}

pub by_one_test : {A : Type 0} (P : A → A → Type 0) (b : Bool) {x y x' y' : A} → P x x' → P y y' → P (if b then x else y) (if b then x' else y')
by_one_test P true p q = p
by_one_test P false p q = q

-- ---- numbers laid over

take_of_drop : (k j : ℕ) (l : List ℕ) → take j (drop k l) ≡ drop k (take (k + j) l)
take_of_drop zero j l = rw zero-add
take_of_drop (suc k) j [] = rw suc-add (take-nil j)
take_of_drop (suc k) j (x ∷ l) = rw suc-add (take_of_drop k j l)

module _ (new old old' : List ℕ) where
  -- as far as the new numbers reach
  pub take_new : (n : ℕ) → n ≤ length new → take n (over new old) ≡ take n (over new old')
  unfolding over
  take_new n l = take-append-le n new (drop (length new) old) l ∙ sym (take-append-le n new (drop (length new) old') l)

  take_beyond : (j : ℕ) → take (length new + j) old ≡ take (length new + j) old' → take (length new + j) (over new old) ≡ take (length new + j) (over new old')
  unfolding over
  take_beyond j e =
      let rest : take j (drop (length new) old) ≡ take j (drop (length new) old') =
      take_of_drop (length new) j old ∙ ap (drop (length new)) e ∙ sym (take_of_drop (length new) j old') in
      take-append-add new (drop (length new) old) j ∙ ap (λ l. new ++ l) rest ∙ sym (take-append-add new (drop (length new) old') j)

  pub take_over : (n : ℕ) → take n old ≡ take n old' → take n (over new old) ≡ take n (over new old')
  take_over n e = go (dec_lt n (length new))
    where
      go : Dec (n < length new) → take n (over new old) ≡ take n (over new old')
      go (yes l) = take_new n (omega arith)
      go (no l) = let s : n ≡ length new + (n - length new) = omega arith in rw s (take_beyond (n - length new) (rw s at e))

-- ---- how a call is judged

agree_back : {D n : ℕ} {t h w t' h' w' : List ℕ} → Agree D n t h w t' h' w' → Agree D n t' h' w' t h w
agree_back A = record {
  table = sym A.table;
  history = sym A.history;
  history_room = (A.history_room.1, A.history_room.0);
  work_room = (A.work_room.1, A.work_room.0);
}

lengths_same : {D n : ℕ} {t h w t' h' w' : List ℕ} → Agree D n t h w t' h' w' → Lengths D (length t) (length h) (length w)
    → Lengths D (length t') (length h') (length w')
lengths_same {D} A l = record {
  table = let e = simp length-take at (ap length A.table) in omega arith;
  history = A.history_room.0 l.history;
  work = A.work_room.0 l.work;
}

module _ {D n : ℕ} {t h w t' h' w' : List ℕ} (A : Agree D n t h w t' h' w') where
  pub room_same : room (length t) (length h) (length w) D ≡ room (length t') (length h') (length w') D
  room_same =
      T-ext _ _ (λ r. room_test (length t') (length h') (length w') D (lengths_same A (room_facts (length t) (length h) (length w) D r)))
      (λ r. room_test (length t) (length h) (length w) D (lengths_same (agree_back A) (room_facts (length t') (length h') (length w') D r)))

  fitting_same : fitting D (length t) (length h) (length w) ≡ fitting D (length t') (length h') (length w')
  unfolding fitting
  fitting_same = rw room_same

module _ (s : State) {t h w t' h' w' : List ℕ} (A : Agree s.darts s.operations t h w t' h' w') where
  pub table_same : table_of s t ≡ table_of s t'
  unfolding table_of
  table_same = A.table

  pub past_same : past_of s h ≡ past_of s h'
  unfolding past_of
  past_same = ap reverse A.history

  pub judged_same : judged s t h w ≡ judged s t' h' w'
  unfolding judged
  judged_same = rw (fitting_same A, table_same, past_same)
