-- The first kernel under way in the work area.
--   refused_over    == an edge that is there and is refused is refused by 9 or 11
--   Taking g D plan w₀ w e m == w is w₀ after the edges below e, of which m were taken; the edges from e on survive
--   taking_begins   == no edge has had its turn
--   passed_over     == two codes
--   taken_not, turn_refused == one code, and the edge was refused
--   taken_on, turn_done     == one code, and the edge was contracted
--   taking_ends     == no edge is left
use mathlib.Core.Bool.{Bool, true, false, false≢true, ◌&&◌, ◌||◌, not}
use mathlib.Core.List.{List, ◌∷◌}
use mathlib.Core.Logic.{◌≢◌}
use mathlib.Core.Path.{◌≡◌, refl, sym, ◌∙◌}
use Prim.Native.Nat.{ℕ, suc, ◌+◌, ◌-◌, ◌*◌, ◌/◌, ◌≤◌, ◌<◌}
use native.Mathlib.Numerals.{add-one}
use native.Mathlib.Omega.{arith}
use lib.Dec.{eqb, leb}
use borrow.Author.Tests.{lt-leb}
use Rattle.permutations.specs.Choice.{eqb_other}
use Rattle.darts.specs.declared.Refusal.{Refusal}
use Rattle.darts.proofs.Cases.{refused_number}
use Rattle.std.proofs.Common.{Result, Ok, Err, if◌then◌else◌}
use Rattle.std.specs.Prelude.{is_ok}
use Rattle.darts.specs.Map.{gone, same_vertex}
use Rattle.darts.specs.Operation.{contraction, kind_of, lead, number, edge_of, whole_edge}
use Rattle.darts.specs.Kernel.{judge, shared, rising, pass}
use Rattle.laws.proofs.bridge.Numbers.{number_edge}
use Rattle.area.specs.Area.{table_in, past_in}
use Rattle.engine.specs.Held.{Ready}
use Rattle.engine.specs.Runs.{Went, Turned}
use Rattle.engine.proofs.Ready.{beyond_refl}
use Rattle.engine.proofs.Parts.{past_none}
use Rattle.engine.proofs.Underway.{Underway, underway_over, underway_kept, underway_on, underway_ends}
use Rattle.grids.specs.Grid.{Grid, edges, darts_of}
use Rattle.grids.specs.Base.{base_table}
use Rattle.grids.specs.Plans.{one_code, takes_first, first_kernel}

-- ---- an edge's answer

module _ (D : ℕ) (t past : List ℕ) (e : ℕ) (inside : e < D / 2) (there : gone past (2 * e) ≡ false) where
  pub refused_over : judge contraction D t past e ≢ 0 → (eqb (judge contraction D t past e) 9 || eqb (judge contraction D t past e) 11) ≡ true
  unfolding judge shared
  refused_over = rw (lt-leb (D / 2) e inside, there) (go (same_vertex D t (2 * e) (2 * e + 1)) (whole_edge t e))
    where
      answer : Bool → Bool → ℕ
      answer v p = let s : ℕ = if v then 9 else 0 in if leb 1 s then s else if p then 11 else 0

      go : (v p : Bool) → answer v p ≢ 0 → (eqb (answer v p) 9 || eqb (answer v p) 11) ≡ true
      go true p n = refl
      go false true n = refl
      go false false n = absurd (n refl)

-- an edge that is done is gone, and no other
later_survive : (t past : List ℕ) (e x : ℕ) → e < x → gone past (2 * x) ≡ false
    → gone (number contraction (lead contraction t e) ∷ past) (2 * x) ≡ false
unfolding gone edge_of
later_survive t past e x l h =
    let k : number contraction (lead contraction t e) / 4 ≢ 2 * x / 2 = (λ z. omega (arith, number_edge contraction t e)) in
    rw (eqb_other k) h

-- ---- the pass

pub record Taking (g : Grid) (D : ℕ) (plan w₀ w : List ℕ) (e m : ℕ) : Type 0 where
  pub under : Underway D 1 (takes_first g plan) (first_kernel g plan) w₀ m (rising e (D / 2 - e)) w m
  pub later : (x : ℕ) → e ≤ x → gone (past_in D m w) (2 * x) ≡ false

pub taking_begins : {g : Grid} {D : ℕ} (plan : List ℕ) {w : List ℕ} → D ≡ darts_of g → Ready D 0 1 w → table_in D w ≡ base_table g
    → Taking g D plan w w 0 0
unfolding first_kernel pass kind_of gone
taking_begins {g} {D} plan {w} count ready table =
    let all : D / 2 - 0 ≡ edges g = omega arith in
    record {
      under = record { same = rw (all, table, past_none D w, ← count); ready = ready; beyond = beyond_refl D w };
      later = λ x h. rw (past_none D w) refl;
    }

module _ {g : Grid} {D : ℕ} {plan w₀ w : List ℕ} {e m : ℕ} (count : D ≡ darts_of g) (σ : Taking g D plan w₀ w e m) where
  module _ (more : e < D / 2) {b : Bool} (asked : b ≡ one_code g plan e) where
    at_turn : Underway D 1 (takes_first g plan) (first_kernel g plan) w₀ m (e ∷ rising (suc e) (D / 2 - suc e)) w m
    unfolding rising
    at_turn = let left : D / 2 - e ≡ suc (D / 2 - suc e) = omega arith in rw left at σ.under

    abbrev answer : ℕ
    answer = judge contraction D (table_in D w) (past_in D m w) e

    takes : takes_first g plan (table_in D w) (past_in D m w) e ≡ (b && not (eqb answer 9 || eqb answer 11))
    unfolding takes_first
    takes = rw (← count, ← asked)

    later_on : (x : ℕ) → e + 1 ≤ x → gone (past_in D m w) (2 * x) ≡ false
    later_on x h = σ.later x (omega arith)

    pub passed_over : b ≡ false → Taking g D plan w₀ w (e + 1) m
    passed_over two = record { under = rw (add-one e) (underway_over at_turn (takes ∙ rw two)); later = later_on }

    module _ (one : b ≡ true) {v : List ℕ} where
      pub taken_not : {r : Refusal} → Turned D m 1 e m w v (Err r) → Taking g D plan w₀ v (e + 1) m
      unfolding kind_of
      taken_not {r} τ =
          let s = τ.refused (refused_number r) in
          let refused : answer ≢ 0 = λ z. refused_number r (τ.answer.number ∙ z) in
          let no = refused_over D (table_in D w) (past_in D m w) e more (σ.later e (omega arith)) refused in
          record {
            under = rw (add-one e) (underway_kept s (underway_over at_turn (takes ∙ rw (one, no))));
            later = λ x h. rw s.past (later_on x h);
          }

      pub taken_on : Turned D m 1 e m w v (Ok tt) → Taking g D plan w₀ v (e + 1) (m + 1)
      unfolding kind_of
      taken_on τ =
          let none : answer ≡ 0 = sym τ.answer.number in
          record {
            under = rw (add-one e, add-one m) (rw (add-one m) at (underway_on at_turn (takes ∙ rw (one, none)) τ));
            later = λ x h. rw (τ.done refl).past (later_survive (table_in D w) (past_in D m w) e x (omega arith) (later_on x h));
          }

      -- THE EDGE'S TURN, REFUSED OR DONE
      pub turn_refused : (r : Result (Unit {0}) Refusal) → Turned D m 1 e m w v r → is_ok r ≡ false → Taking g D plan w₀ v (e + 1) m
      turn_refused (Ok x) τ f = absurd (false≢true (sym f))
      turn_refused (Err a) τ f = taken_not τ

      pub turn_done : (r : Result (Unit {0}) Refusal) → Turned D m 1 e m w v r → is_ok r ≡ true → Taking g D plan w₀ v (e + 1) (m + 1)
      turn_done (Ok x) τ t = taken_on τ
      turn_done (Err a) τ t = absurd (false≢true t)

  pub taking_ends : D / 2 ≤ e → Went D (first_kernel g plan) w₀ w (Ok m)
  unfolding rising
  taking_ends none = let z : D / 2 - e ≡ 0 = omega arith in underway_ends (rw z at σ.under)
