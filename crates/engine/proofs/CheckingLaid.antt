-- The check of a table and a history that stand in the work area already: they are linked and decided.
--   laid_too_many == no where there are more than D/2 operations
--   relink_no     == no where tests 1 to 5 fail
--   relinked_area == linked: the work area holds the map
--   laid_decided  == the decision answers
--   laid_finds    == and its numbers are those of what stands there
use mathlib.Core.Bool.{Bool, true, false}
use mathlib.Core.List.{List, reverse, reverse-reverse}
use mathlib.Core.Path.{◌≡◌, refl, sym, ap, ◌∙◌}
use Prim.Native.Nat.{ℕ, ◌+◌, ◌-◌, ◌*◌, ◌/◌, ◌≤◌, ◌<◌}
use Rattle.std.proofs.Common.{Option}
use native.Mathlib.Omega.{arith}
use lib.ListN.{take, drop}
use Rattle.permutations.specs.Choice.{true→T}
use Rattle.darts.specs.State.{State}
use Rattle.area.specs.Area.{Room, table_in, past_in, tried}
use Rattle.area.specs.Load.{relinks}
use Rattle.area.specs.Shape.{history_in}
use Rattle.engine.specs.Held.{Area}
use Rattle.engine.specs.Checks.{Decided, CheckedLaid}
use Rattle.engine.specs.Counted.{FindsCycles}
use Rattle.engine.specs.declared.Cycles.{Cycles}
use Rattle.engine.proofs.Checking.{loaded_beyond, decided_beyond}
use Rattle.engine.proofs.Ready.{beyond_trans}
use Rattle.engine.proofs.Decides.{refuted, pyramid_loads, pyramid_few}
use Rattle.engine.proofs.Given.{linked_stand}
use Rattle.engine.proofs.Loaded.{Loaded, relinks_right}

module _ (s : State) where
  abbrev D : ℕ
  D = s.darts

  abbrev n : ℕ
  n = s.operations

  pub laid_too_many : (w : List ℕ) → D / 2 < n → CheckedLaid s w w false
  laid_too_many w many = record {
    answer = refuted (λ P. let few = pyramid_few P in omega arith);
    beyond = record { size = refl; rest = refl };
    history = refl;
  }

  module _ {w : List ℕ} (room : Room D w) (few : n ≤ D / 2) {m : Bool} {v : List ℕ} (linked : tried m v ≡ relinks D n w) where
    L : Loaded D n w (drop (3 * D) w) w (tried m v)
    L = rw linked (relinks_right linked_stand n w room few)

    stands : take n (drop (3 * D) w) ≡ history_in D n w
    stands = let e : n ≡ 3 * D + n - 3 * D = omega arith in ap (λ (k : ℕ). take k (drop (3 * D) w)) e

    v_past : past_in D n v ≡ past_in D n w
    v_past = L.past ∙ ap reverse stands

    v_history : history_in D n v ≡ history_in D n w
    v_history = sym (reverse-reverse (history_in D n v)) ∙ ap reverse v_past ∙ reverse-reverse (history_in D n w)

    pub relink_no : m ≡ false → CheckedLaid s w v false
    relink_no e = record {
      answer = refuted (λ P. rw (← stands, ← L.fine, e) at (pyramid_loads P));
      beyond = loaded_beyond L;
      history = v_history;
    }

    pub relinked_area : m ≡ true → Area D n v
    relinked_area fine = L.area (true→T fine)

    pub laid_decided : {coming : ℕ} {u : List ℕ} {r : Bool} → Decided s coming v u r → CheckedLaid s w u r
    laid_decided δ = record {
      answer = rw (L.table, v_past) at δ.answer;
      beyond = beyond_trans (loaded_beyond L) (decided_beyond δ);
      history = ap (take (3 * D + n - 3 * D)) δ.rest ∙ v_history;
    }

    pub laid_finds : (f : Option Cycles) → FindsCycles D (table_in D v) (past_in D n v) f → FindsCycles D (table_in D w) (past_in D n w) f
    laid_finds f F = rw (L.table, v_past) at F
