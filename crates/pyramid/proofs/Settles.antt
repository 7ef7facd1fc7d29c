-- The stored numbers put right once a call's work is done.
--   moved_nowhere == numbers that are moved nowhere stay
--   moved_figures == of the state that they are moved to only the figures are looked at
--   settles       == what a call left, but for the numbers: those that it was given can be moved to its operations
--   settled       == and with the numbers moved so it is what the call leaves
--   judged_settles, judged_settled == the same of what comes once the call is judged
--   done_most     == no more contractions than operations
--   settle_up, settle_down == the numbers moved where operations were done, and where they were undone
use mathlib.Core.List.{List, [], reverse}
use mathlib.Core.Logic.{◌≢◌}
use mathlib.Core.Path.{◌≡◌, refl, sym, ap, ap₂, ◌∙◌, subst}
use Prim.Native.Nat.{ℕ, ◌+◌, ◌-◌, ◌≤◌}
use native.Mathlib.Decide.{ℕ_discrete, dec_le}
use native.Mathlib.Omega.{arith}
use lib.ListN.{length, take, length-take, length-reverse}
use Rattle.slices.specs.Part.{part}
use Rattle.slices.proofs.Part.{part_length}
use Rattle.darts.specs.Answers.{Answer as Answered}
use Rattle.darts.specs.Cases.{answer_of}
use Rattle.darts.specs.State.{State}
use Rattle.darts.specs.Pyramid.{Pyramid}
use Rattle.darts.specs.Calls.{After, leaves, table_of, past_of}
use Rattle.darts.specs.Moves.{contractions_in, moved_to}
use Rattle.darts.proofs.Fitting.{count_facts}
use Rattle.laws.proofs.runs.Ends.{state_path}
use Rattle.laws.proofs.runs.Pyramids.{pyramid_built}
use Rattle.laws.proofs.tests.Room.{pyramid_room}
use Rattle.laws.proofs.calls.Judging.{Lent}
use Rattle.laws.proofs.calls.Numbers.{pyramid_most}
use Rattle.laws.proofs.sentences.Refusals.{Returned, refused_returns}
use Rattle.laws.proofs.chained.OnLent.{Call, called, step_of, called_on, called_left}
use Rattle.laws.proofs.moves.Contractions.{contractions_most}
use Rattle.laws.proofs.moves.Numbers.{Exchanged, moved_exchanged}
use Rattle.laws.proofs.moves.Called.{following, called_kept, called_moved}
use Rattle.pyramid.specs.Steps.{Judged}
use Rattle.pyramid.specs.Settling.{Settles, Settled}
use Rattle.pyramid.specs.Values.{state_of, figures_with, figures_of, left, unsettled}
use Rattle.pyramid.proofs.Judges.{lent_of}
use Rattle.pyramid.proofs.OnState.{Plain, stood_ends}
use Rattle.pyramid.specs.declared.Outcome.{Outcome}

-- ---- a part that is none

part_none : (n m : ℕ) (h : List ℕ) → m ≤ n → part n m h ≡ []
part_none n m h l = let none : m - n ≡ 0 = omega arith in rw none

none_done : (n m : ℕ) (h : List ℕ) → m ≤ n → contractions_in (part n m h) ≡ 0
unfolding contractions_in
none_done n m h l = ap contractions_in (part_none n m h l)

pub moved_nowhere : (s : State) (h : List ℕ) → moved_to s s h ≡ s
unfolding moved_to
moved_nowhere s h =
    let n = s.operations in
    let none : contractions_in (part n n h) ≡ 0 = none_done n n h (omega arith) in
    rw none (state_path refl refl refl refl (omega arith) (omega arith))

moved_figures : (s z : State) (h : List ℕ) → moved_to s (figures_of z) h ≡ moved_to s z h
unfolding moved_to
moved_figures s z h = refl

-- ---- the operations of a pyramid that is lent

operations_fit : {s : State} {t h w : List ℕ} → Lent s t h w → s.operations ≤ length h
operations_fit {s} {t} {h} L =
    let count = (pyramid_built L.pyramid).layered.count in
    let room = pyramid_room L.pyramid in
    omega (arith, L.lengths.history)

-- a history that holds the past is as long
kept_fit : (s : State) (g h : List ℕ) → past_of s g ≡ past_of s h → s.operations ≤ length h → s.operations ≤ length g
unfolding past_of
kept_fit s g h e l =
    let n = s.operations in
    let same : length (reverse (take n g)) ≡ length (reverse (take n h)) = ap length e in
    omega (arith, length-reverse (take n g), length-reverse (take n h), length-take n g, length-take n h)

few_darts : {s : State} {t past : List ℕ} → Pyramid s t past → s.darts ≤ 65536
few_darts {s} P = (count_facts s.darts P.count).small

-- ---- what a call left

-- what a call left, the numbers of s moved to it
abbrev moved : State → After → After
moved s b = leaves b.answer (moved_to s b.state b.history) b.table b.history b.work

-- at most 65,536 operations, vertices and faces
abbrev Few : State → Type 0
Few s = (s.operations ≤ 65536) × (s.vertices ≤ 65536) × (s.faces ≤ 65536)

-- what was exchanged along a history that is long enough
module _ (s z : State) (h : List ℕ) where
  abbrev n : ℕ
  n = s.operations

  abbrev m : ℕ
  m = z.operations

  module _ (X : Exchanged (part m n h) (part n m h) s z) (before : n ≤ length h) (behind : m ≤ length h) (few : Few s) where
    settles_by : contractions_in (part n m h) ≤ s.vertices → m - n - contractions_in (part n m h) ≤ s.faces → Settles s m h
    settles_by v f = record { before = before; after = behind; vertices = v; faces = f; few = few.0; few_vertices = few.1; few_faces = few.2 }

    exchanged_settles : Settles s m h
    exchanged_settles = go (dec_le n m)
      where
        go : Dec (n ≤ m) → Settles s m h
        go (yes up) =
            let none = none_done m n h up in
            let size = part_length n m h behind in
            let nothing = part_length m n h before in
            settles_by (omega (arith, X.vertices)) (omega (arith, X.faces))
        go (no k) = let none = none_done n m h (omega arith) in settles_by (omega arith) (omega arith)

module _ (c : Call) {s : State} {t h w : List ℕ} (L : Lent s t h w) where
  abbrev a : After
  a = called c s t h w

  few_stored : Few s
  few_stored =
      let most = pyramid_most L.pyramid in
      let few = few_darts L.pyramid in
      let count = (pyramid_built L.pyramid).layered.count in
      let room = pyramid_room L.pyramid in
      (omega arith, omega (arith, most.vertices), omega (arith, most.faces))

  returned : a.answer.number ≢ 0 → Returned s t h a
  returned = rw (called_on c) (refused_returns s t h w (step_of c))

  -- refused: it did nothing
  refused_settles : a.answer.number ≢ 0 → Settles s a.state.operations a.history
  refused_settles r =
      let R = returned r in
      let fit = operations_fit L in
      rw (R.state, R.history) (exchanged_settles s s h (record { vertices = refl; faces = refl }) fit fit few_stored)

  accepted_settles : a.answer.number ≡ 0 → Settles s a.state.operations a.history
  accepted_settles e =
      let A = called_left c s t h w e in
      let P = A.before.pyramid in
      exchanged_settles s a.state a.history
      (moved_exchanged P ((following c).follows P A.gave) a.history (called_kept c s t h w) refl)
      (kept_fit s a.history h (called_kept c s t h w) (operations_fit L)) (operations_fit A.left.lent) few_stored

  called_settles : Settles s a.state.operations a.history
  called_settles = go (ℕ_discrete a.answer.number 0)
    where
      go : Dec (a.answer.number ≡ 0) → Settles s a.state.operations a.history
      go (yes e) = accepted_settles e
      go (no r) = refused_settles r

  -- the numbers moved are those that the call hands back
  moved_same : moved s a ≡ a
  moved_same = go (ℕ_discrete a.answer.number 0)
    where
      with_state : moved_to s a.state a.history ≡ a.state → moved s a ≡ a
      with_state e = ap (λ (z : State). leaves a.answer z a.table a.history a.work) e

      go : Dec (a.answer.number ≡ 0) → moved s a ≡ a
      go (yes e) = with_state (called_moved c s t h w e)
      go (no r) = with_state (ap₂ (moved_to s) (returned r).state (returned r).history ∙ moved_nowhere s h ∙ sym (returned r).state)

  module _ (o : Outcome) {u g x : List ℕ} (E : unsettled (left o u g x) ≡ unsettled (called c s t h w)) where
    -- THE STORED NUMBERS CAN BE MOVED TO WHAT A CALL LEFT
    pub settles : Settles s o.state.operations g
    settles = subst (λ (b : After). Settles s b.state.operations b.history) (sym E) called_settles

    -- AND MOVED SO THEY ARE THE NUMBERS THAT THE CALL HANDS BACK
    pub settled : {r : Outcome} → Settled s o g r → left r u g x ≡ called c s t h w
    settled {r} R =
        let here : left r u g x ≡ moved s (unsettled (left o u g x)) =
        ap₂ (λ (b : Answered) (z : State). leaves b z u g x) (ap answer_of R.answer) (R.state ∙ sym (moved_figures s (state_of o.state) g)) in
        let there : moved s (unsettled a) ≡ moved s a =
        ap (λ (z : State). leaves a.answer z a.table a.history a.work) (moved_figures s a.state a.history) in
        here ∙ ap (λ (b : After). moved s b) E ∙ there ∙ moved_same

-- once it is judged
module _ (c : Call) {s : State} {k : ℕ} {t h w v : List ℕ} {b : Answered} (J : Judged s k t h w v b) (fine : b.number ≡ 0)
    (plain : Plain (step_of c s (table_of s t) (past_of s h))) (o : Outcome) {u g x : List ℕ}
    (E : unsettled (left o u g x) ≡ unsettled (called c s t h v)) where
  since_judged : unsettled (left o u g x) ≡ unsettled (called c s t h w)
  since_judged =
      subst (λ (f : State → List ℕ → List ℕ → List ℕ → After). unsettled (left o u g x) ≡ unsettled (f s t h w)) (sym (called_on c))
      (stood_ends (step_of c) J fine plain
      (subst (λ (f : State → List ℕ → List ℕ → List ℕ → After). unsettled (left o u g x) ≡ unsettled (f s t h v)) (called_on c) E))

  pub judged_settles : Settles s o.state.operations g
  judged_settles = settles c (lent_of J fine) o since_judged

  pub judged_settled : {r : Outcome} → Settled s o g r → left r u g x ≡ called c s t h w
  judged_settled = settled c (lent_of J fine) o since_judged

-- ---- the numbers moved, by parts

pub done_most : (h : List ℕ) (n m : ℕ) {c : ℕ} → m ≤ length h → c ≡ contractions_in (part n m h) → c ≤ m - n
done_most h n m l e = omega (arith, contractions_most (part n m h), part_length n m h l)

plus_none : (a : ℕ) → a ≡ a + 0
plus_none a = omega arith

module _ (s z : State) (h : List ℕ) where
  abbrev from : ℕ
  from = s.operations

  abbrev to : ℕ
  to = z.operations

  pub settle_up : from ≤ to → {c : ℕ} → c ≡ contractions_in (part from to h) → figures_with z (s.vertices - c) (s.faces - (to - from - c)) ≡ moved_to s z h
  unfolding moved_to
  settle_up l {c} e =
      let fewer : from - to ≡ 0 = omega arith in
      rw (none_done to from h l, ← e, fewer) (state_path refl refl refl refl (plus_none _) (plus_none _))

  pub settle_down : to ≤ from → {c : ℕ} → c ≡ contractions_in (part to from h) → figures_with z (s.vertices + c) (s.faces + (from - to - c)) ≡ moved_to s z h
  unfolding moved_to
  settle_down l {c} e = let none = none_done from to h l in state_path refl refl refl refl (omega arith) (omega arith)
