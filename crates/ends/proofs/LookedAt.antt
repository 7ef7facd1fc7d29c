-- What the call looks at: the table's first D numbers, the first D/2 ends but for the kind of an edge that survives, and whether each slice is long
-- enough.
--   Agreeing D t h w t' h' w' == two lendings that agree so far
--   AlikeLooked D l m         == two calls that answered and found the same, and left the same in the work area's first 4D numbers
--   successor_looks           == the call does not tell such lendings apart
--   successor_alike           == so it is with lendings of the same numbers: what stands behind them and what the work area held does not matter
use mathlib.Core.Bool.{false}
use mathlib.Core.List.{List}
use mathlib.Core.Logic.{◌≢◌, ◌↔◌, inl}
use mathlib.Core.Path.{◌≡◌, refl, sym, ◌∙◌, ap}
use Prim.Native.Nat.{ℕ, ◌*◌, ◌/◌, ◌≤◌, ◌<◌}
use native.Mathlib.Omega.{arith}
use lib.Dec.{T, eqb, eqb→eq}
use lib.ListN.{length, take, get_or, length-take}
use lib.Seq.{length-take-le, get_or-take}
use Rattle.permutations.specs.Choice.{T?, not_T→false, T-ext, eqb_other}
use Rattle.darts.specs.Answers.{Answer}
use Rattle.darts.specs.Calls.{room, fitting, work_after}
use Rattle.darts.proofs.Fitting.{Lengths, room_facts, room_test, fits}
use Rattle.laws.proofs.calls.Cleared.{cleared_zero}
use Rattle.ends.specs.Comes.{ends_so}
use Rattle.ends.specs.Lookup.{Looked, judged, successor_at}
use Rattle.ends.proofs.Accepted.{so_iff}
use Rattle.ends.proofs.Alike.{AlikeEnds, alike_ends, alike_top, alike_gone, alike_walk, alike_comes}

-- "Numbers of a lent table past D are neither read nor written"; "level 0 meaning that the edge survives (its kind is not looked at)"
pub record Agreeing (D : ℕ) (t h w t' h' w' : List ℕ) : Type 0 where
  pub table : take D t ≡ take D t'
  pub ends : (e : ℕ) → e < D / 2 → T (ends_so (get_or h e 0) (get_or h' e 0))
  pub ends_room : (D / 2 ≤ length h) ↔ (D / 2 ≤ length h')
  pub work_room : (4 * D ≤ length w) ↔ (4 * D ≤ length w')

pub record AlikeLooked (D : ℕ) (l m : Looked) : Type 0 where
  pub answer : l.answer ≡ m.answer
  pub found : l.found ≡ m.found
  pub work : l.answer.number ≢ 1 → l.answer.number ≢ 2 → take (4 * D) l.work ≡ take (4 * D) m.work

module _ {D : ℕ} {t h w t' h' w' : List ℕ} (A : Agreeing D t h w t' h' w') where
  room_same : room (length t) (length h) (length w) D ≡ room (length t') (length h') (length w') D
  room_same =
      T-ext (room (length t) (length h) (length w) D) (room (length t') (length h') (length w') D)
      (λ r. room_test (length t') (length h') (length w') D (forth (room_facts (length t) (length h) (length w) D r)))
      (λ r. room_test (length t) (length h) (length w) D (back (room_facts (length t') (length h') (length w') D r)))
    where
      lengths : length (take D t) ≡ length (take D t')
      lengths = ap length A.table

      forth : Lengths D (length t) (length h) (length w) → Lengths D (length t') (length h') (length w')
      forth L = record {
        table = (let s = simp length-take at lengths in omega (arith, L.table));
        history = A.ends_room.0 L.history;
        work = A.work_room.0 L.work;
      }

      back : Lengths D (length t') (length h') (length w') → Lengths D (length t) (length h) (length w)
      back L = record {
        table = (let s = simp length-take at lengths in omega (arith, L.table));
        history = A.ends_room.1 L.history;
        work = A.work_room.1 L.work;
      }

  fitting_same : fitting D (length t) (length h) (length w) ≡ fitting D (length t') (length h') (length w')
  unfolding fitting
  fitting_same = rw room_same refl

  -- with room for them, the ends are alike
  both_ends : D / 2 ≤ length h → AlikeEnds (take (D / 2) h) (take (D / 2) h')
  both_ends r =
      let a : length (take (D / 2) h) ≡ D / 2 = length-take-le (D / 2) h r in
      let b : length (take (D / 2) h') ≡ D / 2 = length-take-le (D / 2) h' (A.ends_room.0 r) in
      alike_ends (take (D / 2) h) (take (D / 2) h') (a ∙ sym b)
      (λ e l. let m : e < D / 2 = omega arith in rw (get_or-take (D / 2) h e 0 m, get_or-take (D / 2) h' e 0 m) (A.ends e m))

  work_alike : (a : Answer) → a.number ≢ 1 → a.number ≢ 2 → take (4 * D) (work_after a D w) ≡ take (4 * D) (work_after a D w')
  unfolding work_after
  work_alike a one two = rw (eqb_other one, eqb_other two) (cleared_zero D w ∙ sym (cleared_zero D w'))

  module _ (k x : ℕ) where
    abbrev first : Answer
    first = fitting D (length t) (length h) (length w)

    judged_same : Dec (T (eqb first.number 0)) → judged D k x t h w ≡ judged D k x t' h' w'
    unfolding judged
    judged_same (yes z) =
        let F = fits D (length t) (length h) (length w) (eqb→eq first.number 0 z) in
        let E = both_ends F.lengths.history in
        rw (
          fitting_same,
          A.table,
          alike_comes D (take D t') (take (D / 2) h) (take (D / 2) h') E,
          alike_top (take (D / 2) h) (take (D / 2) h') E,
          alike_gone k (take (D / 2) h) (take (D / 2) h') E x,
        ) refl
    judged_same (no n) =
        let m : eqb (fitting D (length t') (length h') (length w')).number 0 ≡ false = rw (← fitting_same) (not_T→false (eqb first.number 0) n) in
        rw (fitting_same, m) refl

    unfit : ¬ (T (eqb first.number 0)) → eqb (judged D k x t h w).number 0 ≡ false
    unfolding judged
    unfit n = let m = not_T→false (eqb first.number 0) n in rw (m, m) refl

    -- THE CALL DOES NOT TELL THEM APART
    pub successor_looks : AlikeLooked D (successor_at D k x t h w) (successor_at D k x t' h' w')
    unfolding successor_at
    successor_looks = go (T? (eqb first.number 0))
      where
        go : Dec (T (eqb first.number 0)) → AlikeLooked D (successor_at D k x t h w) (successor_at D k x t' h' w')
        go (yes z) =
            let F = fits D (length t) (length h) (length w) (eqb→eq first.number 0 z) in
            let E = both_ends F.lengths.history in
            rw (← (judged_same (yes z)), ← A.table, ← (alike_walk D k (take D t) (take (D / 2) h) (take (D / 2) h') E x))
            (record { answer = refl; found = refl; work = work_alike (judged D k x t h w) })
        go (no n) =
            rw (← (judged_same (no n)), unfit n) (record { answer = refl; found = refl; work = work_alike (judged D k x t h w) })

-- ---- the same numbers

-- WHAT STANDS BEHIND THEM, AND WHAT THE WORK AREA HELD, DOES NOT MATTER
pub successor_alike : (D k x : ℕ) (t h w t' h' w' : List ℕ) → take D t ≡ take D t' → take (D / 2) h ≡ take (D / 2) h' → length w ≡ length w'
    → AlikeLooked D (successor_at D k x t h w) (successor_at D k x t' h' w')
successor_alike D k x t h w t' h' w' table ends work = successor_looks agreeing k x
  where
    lengths : length (take (D / 2) h) ≡ length (take (D / 2) h')
    lengths = ap length ends

    same : (e : ℕ) → e < D / 2 → get_or h e 0 ≡ get_or h' e 0
    same e l = sym (get_or-take (D / 2) h e 0 l) ∙ ap (λ (a : List ℕ). get_or a e 0) ends ∙ get_or-take (D / 2) h' e 0 l

    agreeing : Agreeing D t h w t' h' w'
    agreeing = record {
      table = table;
      ends = λ e l. (so_iff (get_or h e 0) (get_or h' e 0)).1 (inl (same e l));
      ends_room = (λ l. (let s = simp length-take at lengths in omega arith), λ l. (let s = simp length-take at lengths in omega arith));
      work_room = (λ l. omega arith, λ l. omega arith);
    }
