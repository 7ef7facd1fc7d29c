-- How the call is judged: the answers one after another, each where none before it is given.
--   Fitting D t h w       == D is a number of darts, and the slices are long enough: neither 1 nor 2
--   Pyramidal D t h w     == and table and ends come from a pyramid: nor 4
--   Reaching D k t h w    == and k is at or below the top: nor 12
--   Asking D k x t h w    == and x is a dart: nor 7
--   judged_1 to judged_12 == what the answer is where one of them fails, and judged_0 where none does
--   Looking D k x t h w   == the answer with its reason; looking says that there is one
--   Why D k x t h w n     == the reason of an answer of number n
--   why                   == every answer has its own
use mathlib.Core.Bool.{false, not}
use mathlib.Core.List.{List}
use mathlib.Core.Path.{◌≡◌, sym, ◌∙◌, subst}
use Prim.Native.Nat.{ℕ, ◌/◌, ◌≤◌, ◌<◌}
use native.Mathlib.Omega.{arith}
use lib.Dec.{T, eqb, leb, ltb, leb→le, le→leb, ltb→lt, lt→ltb}
use lib.ListN.{length, take}
use Rattle.permutations.specs.Choice.{pick, T?, T→true, not_T→false}
use Rattle.std.proofs.Common.{if◌then◌else◌}
use Rattle.darts.specs.Answers.{Answer, done, no_dart_count, too_short, no_pyramid, no_level, no_edge, gone_already}
use Rattle.darts.specs.Pyramid.{dart_count}
use Rattle.darts.specs.Calls.{room}
use Rattle.darts.proofs.Fitting.{Count, Lengths, count_facts, count_test, room_facts, room_test, no_count_lem, short, fine}
use Rattle.ends.specs.Ends.{gone_by, top}
use Rattle.ends.specs.Comes.{comes}
use Rattle.ends.specs.Lookup.{judged}

pub record Fitting (D : ℕ) (t h w : List ℕ) : Type 0 where
  pub count : Count D
  pub lengths : Lengths D (length t) (length h) (length w)

pub record Pyramidal (D : ℕ) (t h w : List ℕ) : Type 0 where
  pub fits : Fitting D t h w
  pub comes_so : T (comes D (take D t) (take (D / 2) h))

pub record Reaching (D k : ℕ) (t h w : List ℕ) : Type 0 where
  pub pyramid : Pyramidal D t h w
  pub reached : k ≤ top (take (D / 2) h)

pub record Asking (D k x : ℕ) (t h w : List ℕ) : Type 0 where
  pub reaching : Reaching D k t h w
  pub inside : x < D

module _ (D k x : ℕ) (t h w : List ℕ) where
  abbrev table : List ℕ
  table = take D t

  abbrev ends : List ℕ
  ends = take (D / 2) h

  -- what is judged once 1 and 2 are not given
  abbrev rest : Answer
  rest =
      if not (comes D table ends) then no_pyramid
      else if ltb (top ends) k then no_level (top ends)
      else if leb D x then no_edge 0
      else if gone_by k ends x then gone_already 0
      else done

  pub judged_1 : ¬ (Count D) → judged D k x t h w ≡ no_dart_count
  unfolding judged
  judged_1 n = rw (← (no_count_lem D (length t) (length h) (length w) n))

  pub judged_2 : Count D → ¬ (Lengths D (length t) (length h) (length w)) → judged D k x t h w ≡ too_short
  unfolding judged
  judged_2 c n = rw (← (short D (length t) (length h) (length w) c n))

  judged_fit : Fitting D t h w → judged D k x t h w ≡ rest
  unfolding judged
  judged_fit F = rw (← (fine D (length t) (length h) (length w) F.count F.lengths))

  pub judged_4 : Fitting D t h w → ¬ (T (comes D table ends)) → judged D k x t h w ≡ no_pyramid
  judged_4 F n = judged_fit F ∙ rw (not_T→false (comes D table ends) n)

  pub judged_12 : Pyramidal D t h w → top ends < k → judged D k x t h w ≡ no_level (top ends)
  judged_12 P l = judged_fit P.fits ∙ rw (T→true (comes D table ends) P.comes_so, T→true (ltb (top ends) k) (lt→ltb (top ends) k l))

  reached_not : Reaching D k t h w → ltb (top ends) k ≡ false
  reached_not R = not_T→false (ltb (top ends) k) (λ l. omega (arith, ltb→lt (top ends) k l, R.reached))

  pub judged_7 : Reaching D k t h w → D ≤ x → judged D k x t h w ≡ no_edge 0
  judged_7 R l =
      judged_fit R.pyramid.fits
      ∙ rw (T→true (comes D table ends) R.pyramid.comes_so, reached_not R, T→true (leb D x) (le→leb D x l))

  asked_not : Asking D k x t h w → leb D x ≡ false
  asked_not A = not_T→false (leb D x) (λ l. omega (arith, leb→le D x l, A.inside))

  judged_asked : Asking D k x t h w → judged D k x t h w ≡ (if gone_by k ends x then gone_already 0 else done)
  judged_asked A =
      let R = A.reaching in
      judged_fit R.pyramid.fits
      ∙ rw (T→true (comes D table ends) R.pyramid.comes_so, reached_not R, asked_not A)

  pub judged_8 : Asking D k x t h w → T (gone_by k ends x) → judged D k x t h w ≡ gone_already 0
  judged_8 A g = judged_asked A ∙ rw (T→true (gone_by k ends x) g)

  pub judged_0 : Asking D k x t h w → ¬ (T (gone_by k ends x)) → judged D k x t h w ≡ done
  judged_0 A n = judged_asked A ∙ rw (not_T→false (gone_by k ends x) n)

  -- ONE OF THE SEVEN
  pub data Looking : Type 0 where
    is_1 : ¬ (Count D) → judged D k x t h w ≡ no_dart_count → Looking
    is_2 : Count D → ¬ (Lengths D (length t) (length h) (length w)) → judged D k x t h w ≡ too_short → Looking
    is_4 : Fitting D t h w → ¬ (T (comes D table ends)) → judged D k x t h w ≡ no_pyramid → Looking
    is_12 : Pyramidal D t h w → top ends < k → judged D k x t h w ≡ no_level (top ends) → Looking
    is_7 : Reaching D k t h w → D ≤ x → judged D k x t h w ≡ no_edge 0 → Looking
    is_8 : Asking D k x t h w → T (gone_by k ends x) → judged D k x t h w ≡ gone_already 0 → Looking
    is_0 : Asking D k x t h w → ¬ (T (gone_by k ends x)) → judged D k x t h w ≡ done → Looking

  asked : Asking D k x t h w → Dec (T (gone_by k ends x)) → Looking
  asked A (yes g) = is_8 A g (judged_8 A g)
  asked A (no n) = is_0 A n (judged_0 A n)

  reached : Reaching D k t h w → Dec (T (leb D x)) → Looking
  reached R (yes l) = let m = leb→le D x l in is_7 R m (judged_7 R m)
  reached R (no n) =
      let m : ¬ (D ≤ x) = λ l. n (le→leb D x l) in
      asked (record { reaching = R; inside = omega arith }) (T? (gone_by k ends x))

  came : Pyramidal D t h w → Dec (T (ltb (top ends) k)) → Looking
  came P (yes l) = let m = ltb→lt (top ends) k l in is_12 P m (judged_12 P m)
  came P (no n) =
      let m : ¬ (top ends < k) = λ l. n (lt→ltb (top ends) k l) in
      reached (record { pyramid = P; reached = omega arith }) (T? (leb D x))

  fitted : Fitting D t h w → Dec (T (comes D table ends)) → Looking
  fitted F (yes c) = came (record { fits = F; comes_so = c }) (T? (ltb (top ends) k))
  fitted F (no n) = is_4 F n (judged_4 F n)

  counted : Count D → Dec (T (room (length t) (length h) (length w) D)) → Looking
  counted c (yes r) = fitted (record { count = c; lengths = room_facts (length t) (length h) (length w) D r }) (T? (comes D table ends))
  counted c (no n) =
      let m : ¬ (Lengths D (length t) (length h) (length w)) = λ l. n (room_test (length t) (length h) (length w) D l) in
      is_2 c m (judged_2 c m)

  pub looking : Looking
  looking = go (T? (dart_count D))
    where
      go : Dec (T (dart_count D)) → Looking
      go (yes c) = counted (count_facts D c) (T? (room (length t) (length h) (length w) D))
      go (no n) = let m : ¬ (Count D) = λ c. n (count_test D c) in is_1 m (judged_1 m)

  -- the reason of an answer; there is no other number
  abbrev pub Why : ℕ → Type 0
  Why n =
      pick (eqb n 1) (¬ (Count D))
      (pick (eqb n 2) (Count D × (¬ (Lengths D (length t) (length h) (length w))))
      (pick (eqb n 4) (Fitting D t h w × (¬ (T (comes D table ends))))
      (pick (eqb n 12) (Pyramidal D t h w × (top ends < k))
      (pick (eqb n 7) (Reaching D k t h w × (D ≤ x))
      (pick (eqb n 8) (Asking D k x t h w × T (gone_by k ends x))
      (pick (eqb n 0) (Asking D k x t h w × (¬ (T (gone_by k ends x)))) ⊥))))))

  -- EVERY ANSWER HAS ITS OWN REASON
  pub why : Why (judged D k x t h w).number
  why = go looking
    where
      go : Looking → Why (judged D k x t h w).number
      go (is_1 n e) = subst (λ (a : Answer). Why a.number) (sym e) n
      go (is_2 c n e) = subst (λ (a : Answer). Why a.number) (sym e) (c, n)
      go (is_4 F n e) = subst (λ (a : Answer). Why a.number) (sym e) (F, n)
      go (is_12 P l e) = subst (λ (a : Answer). Why a.number) (sym e) (P, l)
      go (is_7 R l e) = subst (λ (a : Answer). Why a.number) (sym e) (R, l)
      go (is_8 A g e) = subst (λ (a : Answer). Why a.number) (sym e) (A, g)
      go (is_0 A n e) = subst (λ (a : Answer). Why a.number) (sym e) (A, n)
