-- What the steps of a pyramid keep.
--   Fitted D z u new   == the table u has D numbers, the past new has as many as the state z counts, and they are at most D/2
--   Keeps step         == so it is with whatever the step gives from a pyramid
--   pyramid_fitted     == so it is with a pyramid
--   reduce_keeps, sweep_keeps, undo_keeps, unfold_keeps == the four steps keep it
--   Onto s past z new  == z and new are s and past with some operations more
--   Adds step          == a step that adds operations: reduce_adds, sweep_adds
--   Lessens step       == a step that takes the last ones away: undo_lessens, unfold_lessens
use mathlib.Core.Bool.{Bool, true, false}
use mathlib.Core.List.{List, [], ◌++◌, reverse, append_assoc}
use mathlib.Core.Path.{◌≡◌, refl, sym, ap, ◌∙◌, subst}
use Prim.Native.Nat.{ℕ, zero, suc, ◌-◌, ◌/◌, ◌≤◌}
use lib.Dec.{eqb, ltb}
use lib.ListN.{length, drop, take, take-append-drop}
use Rattle.darts.specs.Operation.{Kind, removal, undone}
use Rattle.darts.specs.State.{State, Result, gives, raised, reduce}
use Rattle.darts.specs.Levels.{sweep, end_below, lowered, undo_level, undo_levels, unfold_to}
use Rattle.darts.specs.Pyramid.{Pyramid}
use Rattle.laws.proofs.runs.Results.{refuses≢gives, then, same_result}
use Rattle.laws.proofs.runs.Reduces.{reduced}
use Rattle.laws.proofs.runs.Sweeps.{loops}
use Rattle.laws.proofs.runs.Pyramids.{pyramid_built, pyramid_sweep, reduce_pyramid, sweep_pyramid}
use Rattle.laws.proofs.runs.Undo.{undo_pyramid, unfold_pyramid}
use Rattle.laws.proofs.tests.Room.{pyramid_room}

pub record Fitted (D : ℕ) (z : State) (u new : List ℕ) : Type 0 where
  pub table : length u ≡ D
  pub history : length new ≡ z.operations
  pub room : length new ≤ D / 2

pub record Onto (s : State) (past : List ℕ) (z : State) (new : List ℕ) : Type 0 where
  pub darts : z.darts ≡ s.darts
  pub more : List ℕ
  pub history : new ≡ more ++ past

module _ (step : State → List ℕ → List ℕ → Result) where
  pub record Keeps : Type 0 where
    pub fitted : {s : State} {t past : List ℕ} {z : State} {u new : List ℕ} → Pyramid s t past → step s t past ≡ gives z u new → Fitted s.darts z u new

  pub record Adds : Type 0 where
    pub onto : {s : State} {t past : List ℕ} {z : State} {u new : List ℕ} → Pyramid s t past → step s t past ≡ gives z u new → Onto s past z new

  pub record Lessens : Type 0 where
    pub onto : {s : State} {t past : List ℕ} {z : State} {u new : List ℕ} → Pyramid s t past → step s t past ≡ gives z u new → Onto z new s past

-- ---- a kernel adds operations

module _ {s : State} {t past : List ℕ} {z : State} {u new : List ℕ} (P : Pyramid s t past) where
  reduce_onto : (k : Kind) (es : List ℕ) → reduce k es s t past ≡ gives z u new → Onto s past z new
  unfolding raised
  reduce_onto k es e =
      let B = pyramid_built P in
      let R = reduced B.standing B.layered (record { kind = k; edges = es }) e in
      record { darts = ap (λ (z : State). z.darts) R.state; more = reverse R.ran.tells.numbers; history = R.ran.tells.history }

  sweep_onto : sweep s t past ≡ gives z u new → Onto s past z new
  sweep_onto e = reduce_onto removal (loops s t past) (sym (pyramid_sweep P) ∙ e)

pub reduce_adds : (k : Kind) (es : List ℕ) → Adds (reduce k es)
reduce_adds k es = record { onto = λ P e. reduce_onto P k es e }

pub sweep_adds : Adds sweep
sweep_adds = record { onto = λ P e. sweep_onto P e }

-- ---- undo takes the last ones away

onto_none : {s : State} {past : List ℕ} → Onto s past s past
onto_none = record { darts = refl; more = []; history = refl }

onto_more : {s : State} {past : List ℕ} {y : State} {mid : List ℕ} {z : State} {new : List ℕ} → Onto s past y mid → Onto y mid z new → Onto s past z new
onto_more {past = past} A B = record {
  darts = B.darts ∙ A.darts;
  more = B.more ++ A.more;
  history = B.history ∙ ap (λ (l : List ℕ). B.more ++ l) A.history ∙ sym (append_assoc B.more A.more past);
}

lowered_onto : (s : State) (u : List ℕ) (n : ℕ) (past : List ℕ) → Onto (lowered s u (drop n past)) (drop n past) s past
unfolding lowered
lowered_onto s u n past = record { darts = refl; more = take n past; history = sym (take-append-drop n past) }

undo_onto : (s : State) (t past : List ℕ) {z : State} {u new : List ℕ} → undo_level s t past ≡ gives z u new → Onto z new s past
unfolding undo_level
undo_onto s t past {z} {u} {new} e = go (eqb s.levels 0) refl
  where
    go : (b : Bool) → eqb s.levels 0 ≡ b → Onto z new s past
    go true h = absurd (refuses≢gives (rw h at e))
    go false h = same_result (λ z u new. Onto z new s past) (rw h at e) (lowered_onto s (undone s.darts (s.operations - end_below s) t past) (s.operations - end_below s) past)

undo_levels_onto : (n : ℕ) (s : State) (t past : List ℕ) {z : State} {u new : List ℕ} → undo_levels n s t past ≡ gives z u new → Onto z new s past
unfolding undo_levels
undo_levels_onto zero s t past e = same_result (λ z u new. Onto z new s past) e onto_none
undo_levels_onto (suc n) s t past e =
    let first = then (undo_level s t past) (undo_levels n) e in
    onto_more (undo_levels_onto n first.state first.table first.past first.next) (undo_onto s t past first.first)

unfold_onto : (k : ℕ) (s : State) (t past : List ℕ) {z : State} {u new : List ℕ} → unfold_to k s t past ≡ gives z u new → Onto z new s past
unfolding unfold_to
unfold_onto k s t past {z} {u} {new} e = go (ltb s.levels k) refl
  where
    go : (b : Bool) → ltb s.levels k ≡ b → Onto z new s past
    go true h = absurd (refuses≢gives (rw h at e))
    go false h = undo_levels_onto (s.levels - k) s t past (rw h at e)

pub undo_lessens : Lessens undo_level
undo_lessens = record { onto = λ {s} {t} {past} P e. undo_onto s t past e }

pub unfold_lessens : (k : ℕ) → Lessens (unfold_to k)
unfold_lessens k = record { onto = λ {s} {t} {past} P e. unfold_onto k s t past e }

-- ---- the numbers that a pyramid has

pub pyramid_fitted : {s : State} {t past : List ℕ} → Pyramid s t past → Fitted s.darts s t past
pyramid_fitted P = let B = pyramid_built P in record { table = B.standing.size; history = sym B.layered.count; room = pyramid_room P }

fitted_at : {D : ℕ} {z : State} {u new : List ℕ} → z.darts ≡ D → Pyramid z u new → Fitted D z u new
fitted_at {z = z} {u = u} {new = new} e P = subst (λ D. Fitted D z u new) e (pyramid_fitted P)

pub reduce_keeps : (k : Kind) (es : List ℕ) → Keeps (reduce k es)
reduce_keeps k es = record { fitted = λ P e. fitted_at (reduce_onto P k es e).darts (reduce_pyramid P k es e) }

pub sweep_keeps : Keeps sweep
sweep_keeps = record { fitted = λ P e. fitted_at (sweep_onto P e).darts (sweep_pyramid P e) }

pub undo_keeps : Keeps undo_level
undo_keeps = record { fitted = λ {s} {t} {past} P e. fitted_at (sym (undo_onto s t past e).darts) (undo_pyramid P e) }

pub unfold_keeps : (k : ℕ) → Keeps (unfold_to k)
unfold_keeps k = record { fitted = λ {s} {t} {past} P e. fitted_at (sym (unfold_onto k s t past e).darts) (unfold_pyramid P k e) }
