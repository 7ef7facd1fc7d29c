-- The turn of an edge, with the note of what its contraction merges.
--   no_edge_noted == what is no edge is refused, and nothing has changed
--   taken_refused == the edge is refused
--   taken_for     == what its contraction and its note ask of the work area, where it may be done
--   taken_done    == it is done, and noted
--   kept_noted    == the turn after a change that keeps the roots is the turn from before it
use mathlib.Core.Bool.{true, not, false≢true}
use mathlib.Core.List.{List}
use mathlib.Core.Logic.{◌≢◌}
use mathlib.Core.Path.{◌≡◌, refl, sym, ap, ap₂, ◌∙◌, fun_ext}
use Prim.Native.Nat.{ℕ, ◌+◌, ◌*◌, ◌/◌, ◌≤◌, ◌<◌, min, max}
use Rattle.std.proofs.Common.{Result, Ok, Err}
use native.Mathlib.Omega.{arith}
use lib.ListN.{set}
use borrow.Author.Tests.{le-leb}
use Rattle.permutations.specs.Choice.{eqb_same}
use Rattle.darts.specs.declared.Refusal.{Refusal}
use Rattle.darts.specs.declared.Refusal.TheVariants.{NoEdge}
use Rattle.darts.proofs.Cases.{refused_number}
use Rattle.darts.specs.Kernel.{judge}
use Rattle.darts.specs.Operation.{kind_of}
use Rattle.forest.specs.Forest.{root}
use Rattle.area.specs.Area.{Room, table_in, past_in}
use Rattle.operations.specs.Edge.{Judged, Bounds}
use Rattle.operations.specs.Operate.{operated}
use Rattle.operations.specs.Trees.{Kept, Joined, rooted, merged}
use Rattle.operations.proofs.Operation.{operated_same}
use Rattle.engine.specs.Held.{Ready}
use Rattle.engine.specs.Runs.{Stays, Turned}
use Rattle.engine.proofs.Ready.{beyond_refl, beyond_trans, ready_stays, ready_judged, ready_for, ready_did}
use Rattle.sheets.specs.Sheets.{into}
use Rattle.sheets.specs.Notes.{note_of}
use Rattle.yarn.specs.Places.{merge_by}
use Rattle.noting.specs.Running.{TurnedNoted}
use Rattle.noting.proofs.Late.{outside_late, operated_late}
use Rattle.noting.proofs.Places.{joins_linked}
use Rattle.noting.proofs.Stepping.{roots_below}

-- ---- what is no edge

no_edge : {D m e i : ℕ} {w : List ℕ} → Ready D m 1 w → D / 2 ≤ e → Turned D m 1 e i w w (Err (NoEdge i))
unfolding judge
no_edge {D} {e = e} {w = w} ρ far = record {
  answer = record { number = sym (rw (le-leb (D / 2) e far)); place = λ _. refl; second = refl };
  beyond = beyond_refl D w;
  done = λ z. absurd (omega arith);
  refused = λ _. record { ready = ρ; table = refl; past = refl; beyond = beyond_refl D w };
}

pub no_edge_noted : {D m e i : ℕ} {w : List ℕ} → Ready D m 1 w → D / 2 ≤ e → TurnedNoted D m e i w w (Err (NoEdge i))
no_edge_noted {w = w} ρ far = record {
  plain = w;
  turned = no_edge ρ far;
  late = refl;
  two = λ z. absurd (omega arith);
  roots = λ z. absurd (omega arith);
  noted = λ z. absurd (omega arith);
  left = λ _. refl;
}

-- ---- judged, and done or not

module _ {D m e i : ℕ} {w v : List ℕ} (ρ : Ready D m 1 w) where
  pub taken_refused : {r : Refusal} → Judged D 1 e i w v (Err r) → TurnedNoted D m e i w v (Err r)
  taken_refused {r} j =
      let s = ready_stays ρ (j.refused (refused_number r)) in
      record {
        plain = v;
        turned = record {
          answer = ready_judged ρ j;
          beyond = s.beyond;
          done = λ z. absurd (refused_number r z);
          refused = λ _. s;
        };
        late = outside_late (j.refused (refused_number r)).outside;
        two = λ z. absurd (refused_number r z);
        roots = λ z. absurd (refused_number r z);
        noted = λ z. absurd (refused_number r z);
        left = λ _. refl;
      }

  module _ (j : Judged D 1 e i w v (Ok tt)) where
    joined : Joined D w v (2 * e) (2 * e + 1) true
    joined = j.done refl

    fine : judge (kind_of 1) D (table_in D w) (past_in D m w) e ≡ 0
    fine = sym (ready_judged ρ j).number

    apart : rooted D w (2 * e) ≢ rooted D w (2 * e + 1)
    apart same = false≢true (sym (joined.answer ∙ ap not (eqb_same same)))

    asked : Room D v × ((m < D / 2) × Bounds D v (2 * e) (2 * e + 1))
    asked = ready_for ρ e fine joined

    module _ {low high : ℕ} (lower : low ≡ min (rooted D w (2 * e)) (rooted D w (2 * e + 1)))
        (higher : high ≡ max (rooted D w (2 * e)) (rooted D w (2 * e + 1))) where
      pub taken_for : Room D v × (Bounds D v (2 * e) (2 * e + 1) × ((m < D / 2) × (low < D) × (high < D)))
      taken_for =
          let a = roots_below ρ.area.room ρ.falls (2 * e) in
          let b = roots_below ρ.area.room ρ.falls (2 * e + 1) in
          (asked.0, (asked.1.1, (asked.1.0, omega arith, omega arith)))

      pub taken_done : {x : List ℕ} → x ≡ set (operated D m v 1 e) (3 * D + D / 2 + m) (note_of (into low high)) → TurnedNoted D m e i w x (Ok tt)
      unfolding merged merge_by
      taken_done is =
          let u : List ℕ = operated D m v 1 e in
          let (goes, beyond) = ready_did ρ e fine joined refl in
          let o = operated_same asked.0 m 1 e asked.1.1 in
          record {
            plain = u;
            turned = record {
              answer = ready_judged ρ j;
              beyond = beyond;
              done = λ _. goes;
              refused = λ n. absurd (n refl);
            };
            late = operated_late m 1 e asked.1.0 asked.1.1 ∙ outside_late joined.outside;
            two = λ _. apart;
            roots = λ _. ap root o.forest ∙ joined.roots ∙ fun_ext (λ x. sym (joins_linked (rooted D w) e x));
            noted = λ _. is ∙ ap₂ (λ a b. set u (3 * D + D / 2 + m) (note_of (into a b))) lower higher;
            left = λ n. absurd (n refl);
          }

-- ---- after a change that keeps the roots

module _ {D m : ℕ} {w u : List ℕ} (ρ : Ready D m 1 w) (κ : Kept D w u) where
  S : Stays D m 1 w u
  S = ready_stays ρ κ

  kept_turned : {e i : ℕ} {x : List ℕ} {r : Result (Unit {0}) Refusal} → Turned D m 1 e i u x r → Turned D m 1 e i w x r
  kept_turned τ = record {
    answer = rw (← S.table, ← S.past) τ.answer;
    beyond = beyond_trans S.beyond τ.beyond;
    done = λ z. let g = τ.done z in record {
      ready = g.ready;
      table = rw (← S.table, ← S.past) g.table;
      past = rw (← S.table, ← S.past) g.past;
    };
    refused = λ n. let s = τ.refused n in record {
      ready = s.ready;
      table = s.table ∙ S.table;
      past = s.past ∙ S.past;
      beyond = beyond_trans S.beyond s.beyond;
    };
  }

  pub kept_noted : {e i : ℕ} {v : List ℕ} {r : Result (Unit {0}) Refusal} → TurnedNoted D m e i u v r → TurnedNoted D m e i w v r
  kept_noted τ = record {
    plain = τ.plain;
    turned = kept_turned τ.turned;
    late = τ.late ∙ outside_late κ.outside;
    two = rw (← κ.roots) τ.two;
    roots = rw (← κ.roots) τ.roots;
    noted = rw (← κ.roots) τ.noted;
    left = τ.left;
  }
