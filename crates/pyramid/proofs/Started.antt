-- What an outcome hands back, and the three ways that a start ends.
--   HandsBare o a s == an outcome is this answer, and these are the figures of its state
--   bare            == so it is of what is handed back with its numbers
--   hands, hands_bare == what a call leaves that hands this back
--   start_refused   == 1 or 2: nothing is written
--   start_bad       == 3: the table is no permutation
--   start_done      == a base
use mathlib.Core.List.{List, []}
use mathlib.Core.Logic.{◌≢◌}
use mathlib.Core.Path.{◌≡◌, refl, sym, ap, ap₂, ◌∙◌}
use Prim.Native.Nat.{ℕ}
use borrow.Author.Tests.{ne_eqb}
use lib.ListN.{length, take}
use Rattle.darts.specs.Answers.{Answer as Answered, done, no_permutation}
use Rattle.darts.specs.Cases.{answer_of}
use Rattle.darts.specs.Map.{permutes, culprits, permutation_test}
use Rattle.darts.specs.State.{State as Stated, zeros, base_state}
use Rattle.darts.specs.Calls.{leaves, begins, start, fitting, cleared}
use Rattle.laws.proofs.runs.Ends.{state_path}
use Rattle.engine.specs.Counted.{CyclesAre}
use Rattle.pyramid.specs.Values.{state_of, figures_of, base_with, left, unsettled, Hands}
use Rattle.pyramid.specs.declared.Outcome.{Outcome}

pub record HandsBare (o : Outcome) (a : Answered) (s : Stated) : Type 0 where
  pub answer : answer_of o.answer ≡ a
  pub state : figures_of (state_of o.state) ≡ s

pub bare : {o : Outcome} {a : Answered} {s : Stated} → Hands o a s → HandsBare o a (figures_of s)
bare H = record { answer = H.answer; state = ap (λ (s : Stated). figures_of s) H.state }

pub hands_bare : (o : Outcome) {a : Answered} (s : Stated) → HandsBare o a (figures_of s)
    → (t h w : List ℕ) → unsettled (left o t h w) ≡ unsettled (leaves a s t h w)
hands_bare o s H t h w = ap₂ (λ (a : Answered) (s : Stated). leaves a s t h w) H.answer H.state

pub hands : (o : Outcome) {a : Answered} {s : Stated} → Hands o a s → (t h w : List ℕ) → left o t h w ≡ leaves a s t h w
hands o H t h w = ap₂ (λ (a : Answered) (s : Stated). leaves a s t h w) H.answer H.state

module _ (D : ℕ) (t h w : List ℕ) where
  pub start_refused : (o : Outcome) {a : Answered} → a ≡ fitting D (length t) (length h) (length w) → a.number ≢ 0 → Hands o a zeros
      → left o t h w ≡ start D t h w
  unfolding start
  start_refused o {a} E n H = hands o H t h w ∙ sym (rw (← E, ne_eqb a.number 0 n))

  -- the base stores the numbers of its cycles
  pub base_numbers : {v f : ℕ} → CyclesAre D (take D t) [] v f → base_with D v f ≡ base_state D (take D t)
  base_numbers C = state_path refl refl refl refl C.vertices C.faces

  module _ (E : done ≡ fitting D (length t) (length h) (length w)) where
    pub start_bad : (o : Outcome) {d c : ℕ} → culprits d c ≡ permutation_test D t → Hands o (no_permutation d c) zeros
        → left o t h (cleared D w) ≡ start D t h w
    unfolding start begins
    start_bad o b H = hands o H t h (cleared D w) ∙ sym (rw (← E, ← b))

    pub start_done : (o : Outcome) {v f : ℕ} → permutes ≡ permutation_test D t → CyclesAre D (take D t) [] v f → Hands o done (base_with D v f)
        → left o t h (cleared D w) ≡ start D t h w
    unfolding start begins
    start_done o b C H =
        hands o H t h (cleared D w) ∙ ap (λ (s : Stated). leaves done s t h (cleared D w)) (base_numbers C)
        ∙ sym (rw (← E, ← b))
