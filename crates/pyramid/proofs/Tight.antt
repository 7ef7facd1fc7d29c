-- No two outcomes satisfy the statement of a call.
--   refusal_back, refusal_one == each case of a refusal has its own number and places
--   result_one               == and so has each answer: those that say the same, and hand the same where they are done, are the same
--   answer_back, answer_back_lem == an answer read back from its number and places is the answer, where a call hands nothing
--   bytes_back, bytes_back_lem == the same of the writer's answer, with the bytes that were written
--   answer_one, bytes_one    == the same where a call hands nothing, and of the writer, which hands the bytes that were written
--   state_one                == each state has its own record
--   left_one                 == what a call leaves tells what it handed back and every lent slice
--   costs_one                == and what a call with sheets leaves tells both sheets too
--   counts_one               == the same of counts
use mathlib.Core.List.{List}
use mathlib.Core.Path.{◌≡◌, refl, sym, ap, ◌∙◌}
use Prim.Native.Nat.{ℕ}
use borrow.Author.Tests.{ne_eqb}
use lib.Dec.{eqb}
use Rattle.std.proofs.Common.{if◌then◌else◌}
use Rattle.std.specs.Prelude.{Result, Ok, Err}
use Rattle.darts.specs.Answers.{Answer as Answered}
use Rattle.darts.specs.Calls.{After, Counted as CountsAfter}
use Rattle.darts.specs.Cases.{refusal_of, answer_of, bytes_of}
use Rattle.darts.proofs.Cases.{refused_number}
use Rattle.darts.specs.declared.Refusal.{Refusal}
use Rattle.darts.specs.declared.Refusal.TheVariants.{NoDartCount, TooShort, NoPermutation, NoPyramid, EmptyKernel, TooManyLevels, NoEdge, GoneAlready}
use Rattle.darts.specs.declared.Refusal.TheVariants.{OneVertex, OneFace, WholePiece, NoLevel, NoFile, NoFlag, NoPlanSize, UnfitRecord}
use Rattle.sheets.specs.declared.Zone.{Zone}
use Rattle.yarn.specs.Calls.{Costed}
use Rattle.pyramid.specs.Costs.{costs}
use Rattle.pyramid.specs.Values.{state_of, tally_of, left, counts_left}
use Rattle.pyramid.specs.declared.State.{State}
use Rattle.pyramid.specs.declared.Outcome.{Outcome}
use Rattle.pyramid.specs.declared.Counts.{Counts}

refusal_back : Answered → Refusal
refusal_back a =
    if eqb a.number 1 then NoDartCount
    else if eqb a.number 2 then TooShort a.place
    else if eqb a.number 3 then NoPermutation a.place a.second
    else if eqb a.number 4 then NoPyramid
    else if eqb a.number 5 then EmptyKernel
    else if eqb a.number 6 then TooManyLevels
    else if eqb a.number 7 then NoEdge a.place
    else if eqb a.number 8 then GoneAlready a.place
    else if eqb a.number 9 then OneVertex a.place
    else if eqb a.number 10 then OneFace a.place
    else if eqb a.number 11 then WholePiece a.place
    else if eqb a.number 12 then NoLevel a.place
    else if eqb a.number 13 then NoFile a.place
    else if eqb a.number 14 then NoFlag
    else if eqb a.number 15 then NoPlanSize
    else UnfitRecord a.place

refusal_back_lem : (r : Refusal) → refusal_back (refusal_of r) ≡ r
unfolding refusal_back
refusal_back_lem NoDartCount = refl
refusal_back_lem (TooShort n) = refl
refusal_back_lem (NoPermutation d c) = refl
refusal_back_lem NoPyramid = refl
refusal_back_lem EmptyKernel = refl
refusal_back_lem TooManyLevels = refl
refusal_back_lem (NoEdge i) = refl
refusal_back_lem (GoneAlready i) = refl
refusal_back_lem (OneVertex i) = refl
refusal_back_lem (OneFace i) = refl
refusal_back_lem (WholePiece i) = refl
refusal_back_lem (NoLevel top) = refl
refusal_back_lem (NoFile at) = refl
refusal_back_lem NoFlag = refl
refusal_back_lem NoPlanSize = refl
refusal_back_lem (UnfitRecord x) = refl

pub refusal_one : (r q : Refusal) → refusal_of r ≡ refusal_of q → r ≡ q
refusal_one r q e = sym (refusal_back_lem r) ∙ ap refusal_back e ∙ refusal_back_lem q

pub result_one : {T : Type 0} (a b : Result T Refusal) → answer_of a ≡ answer_of b → ((x y : T) → a ≡ Ok x → b ≡ Ok y → x ≡ y) → a ≡ b
result_one (Ok x) (Ok y) e k = ap Ok (k x y refl refl)
result_one (Ok x) (Err q) e k = absurd (refused_number q (sym (ap (λ (b : Answered). b.number) e)))
result_one (Err r) (Ok y) e k = absurd (refused_number r (ap (λ (b : Answered). b.number) e))
result_one (Err r) (Err q) e k = ap Err (refusal_one r q e)

answer_back : Answered → Result (Unit {0}) Refusal
answer_back a = if eqb a.number 0 then Ok tt else Err (refusal_back a)

answer_back_lem : (a : Result (Unit {0}) Refusal) → answer_back (answer_of a) ≡ a
unfolding answer_back
answer_back_lem (Ok x) = refl
answer_back_lem (Err r) = rw (ne_eqb (refusal_of r).number 0 (refused_number r), refusal_back_lem r) refl

bytes_back : Answered → Result ℕ Refusal
bytes_back a = if eqb a.number 0 then Ok a.place else Err (refusal_back a)

bytes_back_lem : (a : Result ℕ Refusal) → bytes_back (bytes_of a) ≡ a
unfolding bytes_back
bytes_back_lem (Ok n) = refl
bytes_back_lem (Err r) = rw (ne_eqb (refusal_of r).number 0 (refused_number r), refusal_back_lem r) refl

pub answer_one : (a b : Result (Unit {0}) Refusal) → answer_of a ≡ answer_of b → a ≡ b
answer_one a b e = result_one a b e (λ x y _ _. refl)

pub bytes_one : (a b : Result ℕ Refusal) → bytes_of a ≡ bytes_of b → a ≡ b
bytes_one (Ok n) (Ok m) e = ap Ok (ap (λ (b : Answered). b.place) e)
bytes_one (Ok n) (Err q) e = absurd (refused_number q (sym (ap (λ (b : Answered). b.number) e)))
bytes_one (Err r) (Ok m) e = absurd (refused_number r (ap (λ (b : Answered). b.number) e))
bytes_one (Err r) (Err q) e = ap Err (refusal_one r q e)

pub state_one : (s z : State) → state_of s ≡ state_of z → s ≡ z
state_one s z e = λ i. record {
  darts = (e i).darts;
  operations = (e i).operations;
  levels = (e i).levels;
  vertices = (e i).vertices;
  faces = (e i).faces;
  ends = (e i).ends;
}

pub record Same (o p : Outcome) (t u h g w v : List ℕ) : Type 0 where
  pub outcome : o ≡ p
  pub table : t ≡ u
  pub history : h ≡ g
  pub work : w ≡ v

-- NO TWO OUTCOMES OF START, REDUCE, SWEEP, UNDO, UNFOLD OR READ SATISFY ITS STATEMENT
pub left_one : (o p : Outcome) (t u h g w v : List ℕ) (a : After) → left o t h w ≡ a → left p u g v ≡ a → Same o p t u h g w v
left_one o p t u h g w v a d e =
    let c : left o t h w ≡ left p u g v = d ∙ sym e in
    let x = answer_one o.answer p.answer (ap (λ (z : After). z.answer) c) in
    let y = state_one o.state p.state (ap (λ (z : After). z.state) c) in
    record {
      outcome = λ i. record { state = y i; answer = x i };
      table = ap (λ (z : After). z.table) c;
      history = ap (λ (z : After). z.history) c;
      work = ap (λ (z : After). z.work) c;
    }

-- NO TWO OUTCOMES OF A CALL WITH SHEETS SATISFY ITS STATEMENT
pub record SameCosts (o p : Outcome) (t u h g w v : List ℕ) (s z k l : List Zone) : Type 0 where
  pub plain : Same o p t u h g w v
  pub sheet : s ≡ z
  pub kept : k ≡ l

pub costs_one : (o p : Outcome) (t u h g w v : List ℕ) (s z k l : List Zone) (a : Costed) → costs o t h w s k ≡ a → costs p u g v z l ≡ a
    → SameCosts o p t u h g w v s z k l
costs_one o p t u h g w v s z k l a d e =
    let c : costs o t h w s k ≡ costs p u g v z l = d ∙ sym e in
    record {
      plain = left_one o p t u h g w v (left p u g v) (ap (λ (x : Costed). x.plain) c) refl;
      sheet = ap (λ (x : Costed). x.sheets.sheet) c;
      kept = ap (λ (x : Costed). x.sheets.kept) c;
    }

pub record SameCounts (o p : Result Counts Refusal) (t u h g w v : List ℕ) : Type 0 where
  pub counted : o ≡ p
  pub table : t ≡ u
  pub history : h ≡ g
  pub work : w ≡ v

tally_one : (c d : Counts) → tally_of c ≡ tally_of d → c ≡ d
tally_one c d e = λ i. record { darts = (e i).darts; vertices = (e i).vertices; faces = (e i).faces; euler = (e i).euler }

-- NO TWO OUTCOMES OF COUNTS SATISFY ITS STATEMENT
pub counts_one : (o p : Result Counts Refusal) (t u h g w v : List ℕ) (a : CountsAfter) → counts_left o t h w ≡ a → counts_left p u g v ≡ a
    → SameCounts o p t u h g w v
counts_one o p t u h g w v a d e =
    let c : counts_left o t h w ≡ counts_left p u g v = d ∙ sym e in
    record {
      counted =
          result_one o p (ap (λ (z : CountsAfter). z.answer) c)
          (λ x y is it. tally_one x y (rw (is, it) at (ap (λ (z : CountsAfter). z.counts) c)));
      table = ap (λ (z : CountsAfter). z.table) c;
      history = ap (λ (z : CountsAfter). z.history) c;
      work = ap (λ (z : CountsAfter). z.work) c;
    }
