-- What operations, done one by one, do to the map.
--   acts os               == the operations os, as the mathematics has them
--   Ran D t past os u new == what holds once the operations os led from t and past to u and new
--   Accepted D t past os  == the operations os may be done one by one, and they end at some table and past
use mathlib.Core.List.{List, [], ◌∷◌, map}
use mathlib.Core.Path.{◌≡◌, refl, sym, ◌∙◌, ap, ap₂, subst}
use Prim.Native.Nat.{ℕ, zero, suc, ◌+◌, ◌*◌}
use native.Mathlib.Nat.{zero-add, suc-add}
use native.Mathlib.Numerals.{add-one}
use lib.ListN.{length, drop}
use Rattle.permutations.proofs.Legal.{Op, AllLegal, run as runMap}
use Rattle.darts.specs.Operation.{Kind, undo_one, undone}
use Rattle.darts.specs.Kernel.{judge, Operation, each, stands, run}
use Rattle.laws.specs.Standing.{map_of, Standing}
use Rattle.laws.proofs.bridge.Standing.{op_of}
use Rattle.laws.proofs.bridge.Judged.{judge_legal}
use Rattle.laws.proofs.bridge.Operate.{operate_acts, operate_stands, undo_operate}
use Rattle.laws.proofs.runs.Operations.{after, past_after, AllDone, none, first, run_iff, Told, done_told, told_dropped}

abbrev pub acts : List Operation → List Op
acts = map (λ o. op_of o.kind (2 * o.edge))

pub record Ran (D : ℕ) (t past : List ℕ) (os : List Operation) (u new : List ℕ) : Type 0 where
  pub standing : Standing D u new
  pub legal : AllLegal (map_of D t past) (acts os)
  pub map_after : map_of D u new ≡ runMap (map_of D t past) (acts os)
  pub tells : Told past os new
  -- undone, every entry is as it was
  pub back : undone D (length os) u new ≡ t

pub record Accepted (D : ℕ) (t past : List ℕ) (os : List Operation) : Type 0 where
  pub table : List ℕ
  pub new : List ℕ
  pub accepted : AllDone D t past os table new

-- ---- undo of several operations

undone_none : (D n : ℕ) (t : List ℕ) → undone D n t [] ≡ t
unfolding undone
undone_none D zero t = refl
undone_none D (suc n) t = refl

-- the last m of them, and then n more
pub undone_more : (D m n : ℕ) (t past : List ℕ) → undone D (m + n) t past ≡ undone D n (undone D m t past) (drop m past)
unfolding undone
undone_more D zero n t past = rw zero-add
undone_more D (suc m) n t [] = undone_none D (suc m + n) t ∙ sym (undone_none D n t)
undone_more D (suc m) n t (h ∷ past) = rw suc-add (undone_more D m n (undo_one D t h past) past)

-- ---- what operations have done

ran_none : {D : ℕ} {t past : List ℕ} → Standing D t past → Ran D t past [] t past
unfolding undone runMap
ran_none {D} {t} S = record { standing = S; legal = tt; map_after = refl; tells = done_told {D = D} {t = t} [] none; back = refl }

module _ {D : ℕ} {t past u new : List ℕ} (S : Standing D t past) (o : Operation) (os : List Operation) (fine : judge o.kind D t past o.edge ≡ 0)
    (rest : AllDone D (after D t past o) (past_after t past o) os u new) where
  ran_more : Ran D (after D t past o) (past_after t past o) os u new → Ran D t past (o ∷ os) u new
  unfolding undone runMap
  ran_more R = record {
    standing = R.standing;
    legal = ((judge_legal S o.kind o.edge).0 fine, subst (λ m. AllLegal m (acts os)) (operate_acts S o.kind o.edge fine) R.legal);
    map_after = R.map_after ∙ ap (λ m. runMap m (acts os)) (operate_acts S o.kind o.edge fine);
    tells = done_told (o ∷ os) (first fine rest);
    back =
        ap (λ n. undone D n u new) (sym (add-one (length os))) ∙ undone_more D (length os) 1 u new ∙ ap₂ (undone D 1) R.back (told_dropped R.tells)
        ∙ undo_operate S o.kind o.edge fine;
  }

-- WHAT OPERATIONS THAT WERE ACCEPTED ONE BY ONE HAVE DONE
pub ran : {D : ℕ} {t past u new : List ℕ} → Standing D t past → (os : List Operation) → AllDone D t past os u new → Ran D t past os u new
ran S [] none = ran_none S
ran {D} {t} {past} S (o ∷ os) (first fine rest) = ran_more S o os fine rest (ran {t = after D t past o} {past = past_after t past o} (operate_stands S o.kind o.edge fine) os rest)

-- where a kernel's run stands, its table does
pub run_stands : {D : ℕ} {t past u new : List ℕ} → Standing D t past → (k : Kind) (es : List ℕ) → run k D t past es ≡ stands u new → Standing D u new
run_stands {D} {t} {past} S k es r = (ran S (each k es) ((run_iff k D t past es).0 r)).standing

-- ---- what is accepted

-- OPERATIONS THAT THE MATHEMATICS ALLOWS ARE ACCEPTED
pub legal_accepted : {D : ℕ} {t past : List ℕ} → Standing D t past → (os : List Operation) → AllLegal (map_of D t past) (acts os) → Accepted D t past os
legal_accepted {D} {t} {past} S [] l = record { table = t; new = past; accepted = none }
legal_accepted {D} {t} {past} S (o ∷ os) l =
    let fine = (judge_legal S o.kind o.edge).1 l.0 in
    let legal = subst (λ m. AllLegal m (acts os)) (sym (operate_acts S o.kind o.edge fine)) l.1 in
    let A = legal_accepted {t = after D t past o} {past = past_after t past o} (operate_stands S o.kind o.edge fine) os legal in
    record { table = A.table; new = A.new; accepted = first fine A.accepted }
