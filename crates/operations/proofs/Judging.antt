-- The answer for an edge at its turn, and what is then left of the work area.
--   no_edge, gone, one_root, whole_piece_lem, fine == one test for each answer
--   joined_kept  == what has one root already keeps it
--   judged_here  == a refusal that changes nothing
--   judged_one   == the two darts had one root
--   judged_two   == they had two, and are joined
--   judged_kept  == judged after a change that keeps the roots
use mathlib.Core.Bool.{true, false}
use mathlib.Core.List.{List}
use mathlib.Core.Logic.{◌≢◌}
use mathlib.Core.Path.{◌≡◌, refl, ap, ◌∙◌, fun_ext, subst}
use Prim.Native.Nat.{ℕ, ◌+◌, ◌-◌, ◌*◌, ◌/◌, ◌≤◌, ◌<◌}
use native.Mathlib.Omega.{arith}
use lib.Dec.{eqb, eqb→eq}
use lib.ListN.{get_or}
use borrow.Author.Tests.{le-leb, lt-leb, lt-ltb, le-ltb}
use Rattle.permutations.specs.Choice.{true→T}
use Rattle.forest.proofs.Joins.{linked_self}
use Rattle.forest.specs.Forest.{Falls}
use Rattle.darts.specs.Map.{successor}
use Rattle.darts.specs.Operation.{whole_edge}
use Rattle.darts.specs.Cases.{answer_of}
use Rattle.darts.specs.Answers.{answered}
use Rattle.darts.specs.Cases.{refusal_of}
use Rattle.darts.specs.declared.Refusal.{Refusal}
use Rattle.darts.specs.declared.Refusal.TheVariants.{NoEdge, GoneAlready, WholePiece}
use Rattle.std.proofs.Common.{Result, Ok, Err}
use Rattle.area.specs.Area.{prev, there, forest_in}
use Rattle.area.proofs.Tried.{not-true, not-false}
use Rattle.operations.specs.Edge.{Says, Judged}
use Rattle.operations.specs.Operate.{judged}
use Rattle.operations.specs.Trees.{rooted, Kept, merged, Joined}
use Rattle.operations.proofs.Lent.{kept_trans, kept_joined}
use Rattle.operations.proofs.Outside.{outside_refl, outside_front, outside_there}

-- an answer says its own number and place
exact : {a : Result (Unit {0}) Refusal} → (answer_of a).second ≡ 0 → Says (answer_of a).number (answer_of a).place a
exact none = record { number = refl; place = λ _. refl; second = none }

-- so does a refusal with this number and place
pub refused_with : {r : Refusal} {n i : ℕ} → refusal_of r ≡ answered n i → Says n i (Err r)
refused_with e = record { number = ap (λ a. a.number) e; place = λ _. ap (λ a. a.place) e; second = ap (λ a. a.second) e }

-- what has one root already keeps it
joined_kept : {D p q : ℕ} {w w' : List ℕ} → Joined D w w' p q false → Kept D w w'
unfolding merged
joined_kept {D} {p} {q} {w} j =
    let one = eqb→eq (rooted D w p) (rooted D w q) (true→T (not-false (eqb (rooted D w p) (rooted D w q)) j.answer)) in
    record { outside = j.outside; falls = j.falls; roots = j.roots ∙ fun_ext (λ x. rw one (linked_self (rooted D w q) (rooted D w x))) }

-- ---- one test for each answer

module _ (D : ℕ) (w : List ℕ) (R : ℕ → ℕ) (k e i : ℕ) where
  abbrev Verdict : Result (Unit {0}) Refusal → Type 0
  Verdict = Says (judged D w R k e) i

  pub no_edge : D / 2 ≤ e → Verdict (Err (NoEdge i))
  unfolding judged
  no_edge h = rw (le-leb (D / 2) e h) (exact refl)

  module _ (edge : e < D / 2) where
    pub gone : D ≤ get_or w (D + 2 * e) 0 → Verdict (Err (GoneAlready i))
    unfolding judged there prev
    gone h = rw (lt-leb (D / 2) e edge, le-ltb (get_or w (D + 2 * e) 0) D h) (exact refl)

    module _ (here : get_or w (D + 2 * e) 0 < D) where
      pub one_root : eqb (R (2 * e)) (R (2 * e + 1)) ≡ true → {a : Result (Unit {0}) Refusal} → Says (10 - k) i a → Verdict a
      unfolding judged there prev
      one_root h said = rw (lt-leb (D / 2) e edge, lt-ltb (get_or w (D + 2 * e) 0) D here, h) said

      module _ (two : eqb (R (2 * e)) (R (2 * e + 1)) ≡ false) where
        pub whole_piece_lem : whole_edge w e ≡ true → Verdict (Err (WholePiece i))
        unfolding judged there prev
        whole_piece_lem h = rw (lt-leb (D / 2) e edge, lt-ltb (get_or w (D + 2 * e) 0) D here, two, h) (exact refl)

        fine : whole_edge w e ≡ false → Verdict (Ok tt)
        unfolding judged there prev
        fine h =
            rw (lt-leb (D / 2) e edge, lt-ltb (get_or w (D + 2 * e) 0) D here, two, h)
            (record { number = refl; place = λ n. absurd (n refl); second = refl })

-- ---- what is left

module _ {D : ℕ} {w : List ℕ} (F : Falls (forest_in D w)) where
  pub judged_here : {k e i : ℕ} {a : Result (Unit {0}) Refusal} → Verdict D w (rooted D w) k e i a → (answer_of a).number ≢ 0 → Judged D k e i w w a
  judged_here v n = record {
    answer = v;
    refused = λ _. record { outside = outside_refl D w; falls = F; roots = refl };
    done = λ z. absurd (n z);
  }

module _ {D k e i : ℕ} {w v : List ℕ} (edge : e < D / 2) (here : get_or w (D + 2 * e) 0 < D) where
  pub judged_one : {a : Result (Unit {0}) Refusal} → k < 2 → Joined D w v (2 * e) (2 * e + 1) false → Says (10 - k) i a → Judged D k e i w v a
  judged_one l j said = record {
    answer = one_root D w (rooted D w) k e i edge here (not-false _ j.answer) said;
    refused = λ _. joined_kept j;
    done = λ z. absurd (omega (arith, said.number));
  }

  pub judged_two : whole_edge w e ≡ false → Joined D w v (2 * e) (2 * e + 1) true → Judged D k e i w v (Ok tt)
  judged_two part j = record {
    answer = fine D w (rooted D w) k e i edge here (not-true _ j.answer) part;
    refused = λ n. absurd (n refl);
    done = λ _. j;
  }

-- ---- after a change that keeps the roots

module _ {D e : ℕ} {w u : List ℕ} (edge : e < D / 2) (κ : Kept D w u) where
  whole_same : whole_edge u e ≡ whole_edge w e
  unfolding whole_edge successor
  whole_same = rw (outside_front κ.outside (2 * e) (omega arith), outside_front κ.outside (2 * e + 1) (omega arith))

  judged_same : (k : ℕ) → judged D u (rooted D u) k e ≡ judged D w (rooted D w) k e
  unfolding judged
  judged_same k = rw (κ.roots, outside_there κ.outside (2 * e) (omega arith), whole_same)

  pub judged_kept : {k i : ℕ} {v : List ℕ} {a : Result (Unit {0}) Refusal} → Judged D k e i u v a → Judged D k e i w v a
  judged_kept {k} {i} {a = a} j = record {
    answer = subst (λ n. Says n i a) (judged_same k) j.answer;
    refused = λ n. kept_trans κ (j.refused n);
    done = λ z. kept_joined κ (j.done z);
  }
