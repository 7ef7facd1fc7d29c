-- The four steps of a pyramid, as the calls on a state make them.
--   Step                   == from a state, a table and a past to a result
--   Lowered n s z == n levels undone: as many levels fewer, and the same D
--   Leads f                == the step f leads from pyramids to pyramids of the same D, over the same base, and its refusals do not say 0
--   reduce_leads, sweep_leads, undo_leads, unfold_leads == each of the four does
use mathlib.Core.Bool.{Bool, true, false}
use mathlib.Core.List.{List}
use mathlib.Core.Path.{◌≡◌, refl, sym, ap, ◌∙◌}
use Prim.Native.Nat.{ℕ, zero, suc, ◌+◌, ◌-◌, ◌≤◌}
use native.Mathlib.Decide.{ℕ_discrete}
use native.Mathlib.Numerals.{add-one}
use native.Mathlib.Omega.{arith}
use lib.Dec.{ltb, ltb→lt, nltb→le}
use Rattle.permutations.specs.Choice.{eqb_other, not_T→false}
use Rattle.darts.specs.Operation.{Kind, removal}
use Rattle.darts.specs.State.{State, Result, gives, raised, reduce}
use Rattle.darts.specs.Levels.{sweep, lowered, undo_level, undo_levels, unfold_to}
use Rattle.darts.specs.Pyramid.{Pyramid}
use Rattle.laws.proofs.runs.Results.{refuses≢gives, then, same_result}
use Rattle.laws.proofs.runs.Reduces.{reduce_raises}
use Rattle.laws.proofs.runs.Sweeps.{loops, sweep_raises}
use Rattle.laws.proofs.runs.Pyramids.{pyramid_sweep, reduce_pyramid, sweep_pyramid}
use Rattle.laws.proofs.runs.Undo.{undo_returns, undo_levels_lem, undo_pyramid, unfold_pyramid}
use Rattle.laws.proofs.runs.Earnest.{Earnest, earnest_reduce, earnest_sweep, earnest_undo, earnest_unfold}

abbrev pub Step : Type 0
Step = State → List ℕ → List ℕ → Result

pub record Leads (f : Step) : Type 0 where
  pub pyramid : {s : State} {t past : List ℕ} {z : State} {u new : List ℕ} → Pyramid s t past → f s t past ≡ gives z u new → Pyramid z u new
  pub darts : {s : State} {t past : List ℕ} {z : State} {u new : List ℕ} → f s t past ≡ gives z u new → z.darts ≡ s.darts
  pub ground : {s : State} {t past : List ℕ} {z : State} {u new : List ℕ} → Pyramid s t past → f s t past ≡ gives z u new
      → unfold_to 0 z u new ≡ unfold_to 0 s t past
  pub earnest : (s : State) (t past : List ℕ) → Earnest (f s t past)

-- ---- levels less

pub record Lowered (n : ℕ) (s z : State) : Type 0 where
  pub darts : z.darts ≡ s.darts
  pub levels : s.levels ≡ n + z.levels

pub undo_lowers : (s : State) (t past : List ℕ) {z : State} {u new : List ℕ} → undo_level s t past ≡ gives z u new → Lowered 1 s z
unfolding undo_level lowered
undo_lowers s t past {z} {u} {new} e = go (ℕ_discrete s.levels 0)
  where
    go : Dec (s.levels ≡ 0) → Lowered 1 s z
    go (yes h) = absurd (refuses≢gives (rw h at e))
    go (no n) =
        same_result (λ z u new. Lowered 1 s z) (rw (eqb_other n) at e)
        (record { darts = refl; levels = omega arith })

undo_levels_lower : (n : ℕ) (s : State) (t past : List ℕ) {z : State} {u new : List ℕ} → undo_levels n s t past ≡ gives z u new → Lowered n s z
unfolding undo_levels
undo_levels_lower zero s t past e =
    same_result (λ z u new. Lowered 0 s z) e (record { darts = refl; levels = omega arith })
undo_levels_lower (suc n) s t past e =
    let first = then (undo_level s t past) (undo_levels n) e in
    let one = undo_lowers s t past first.first in
    let more = undo_levels_lower n first.state first.table first.past first.next in
    record {
      darts = more.darts ∙ one.darts;
      levels = omega arith;
    }

module _ (k : ℕ) (s : State) (t past : List ℕ) {z : State} {u new : List ℕ} (e : unfold_to k s t past ≡ gives z u new) where
  pub unfold_undoes : (k ≤ s.levels) × (undo_levels (s.levels - k) s t past ≡ gives z u new)
  unfolding unfold_to
  unfold_undoes = go (ltb s.levels k) refl
    where
      go : (b : Bool) → ltb s.levels k ≡ b → (k ≤ s.levels) × (undo_levels (s.levels - k) s t past ≡ gives z u new)
      go true h = absurd (refuses≢gives (rw h at e))
      go false h = (nltb→le s.levels k (rw h tt), rw h at e)

  pub unfold_lowers : Lowered (s.levels - k) s z
  unfold_lowers = undo_levels_lower (s.levels - k) s t past unfold_undoes.1

-- ---- what lies below all levels

to_base : (s : State) (t past : List ℕ) → unfold_to 0 s t past ≡ undo_levels s.levels s t past
unfolding unfold_to
to_base s t past =
    let none : ltb s.levels 0 ≡ false = not_T→false (ltb s.levels 0) (λ h. omega (arith, ltb→lt s.levels 0 h)) in
    let all : s.levels - 0 ≡ s.levels = omega arith in
    rw (none, all)

module _ (s : State) (t past : List ℕ) {z : State} {u new : List ℕ} where
  one_up : (k : Kind) (es : List ℕ) → reduce k es s t past ≡ gives z u new → (z.darts ≡ s.darts) × (z.levels ≡ suc s.levels)
  unfolding raised
  one_up k es e = let up = (reduce_raises s t past k es e).state in (ap (λ s. s.darts) up, ap (λ s. s.levels) up ∙ add-one s.levels)

  reduce_ground : Pyramid s t past → (k : Kind) (es : List ℕ) → reduce k es s t past ≡ gives z u new → unfold_to 0 z u new ≡ unfold_to 0 s t past
  unfolding undo_levels
  reduce_ground P k es e =
      to_base z u new ∙ ap (λ n. undo_levels n z u new) (one_up k es e).1 ∙ rw (undo_returns P k es e) (sym (to_base s t past))

  undo_levels_ground : (n : ℕ) → undo_levels n s t past ≡ gives z u new → unfold_to 0 z u new ≡ unfold_to 0 s t past
  undo_levels_ground n e =
      to_base z u new
      ∙ sym (to_base s t past ∙ ap (λ m. undo_levels m s t past) (undo_levels_lower n s t past e).levels ∙ undo_levels_lem n z.levels s t past ∙ rw e)

  undo_ground : undo_level s t past ≡ gives z u new → unfold_to 0 z u new ≡ unfold_to 0 s t past
  unfolding undo_levels
  undo_ground e = undo_levels_ground 1 (rw e)

-- ---- THE FOUR STEPS LEAD FROM PYRAMIDS TO PYRAMIDS

pub reduce_leads : (k : Kind) (es : List ℕ) → Leads (reduce k es)
reduce_leads k es = record {
  pyramid = λ P e. reduce_pyramid P k es e;
  darts = λ {s} {t} {past} e. (one_up s t past k es e).0;
  ground = λ {s} {t} {past} P e. reduce_ground s t past P k es e;
  earnest = earnest_reduce k es;
}

pub sweep_leads : Leads sweep
unfolding raised
sweep_leads = record {
  pyramid = sweep_pyramid;
  darts = λ {s} {t} {past} e. ap (λ (z : State). z.darts) (sweep_raises s t past e).state;
  ground = λ {s} {t} {past} P e. reduce_ground s t past P removal (loops s t past) (sym (pyramid_sweep P) ∙ e);
  earnest = earnest_sweep;
}

pub undo_leads : Leads undo_level
undo_leads = record {
  pyramid = undo_pyramid;
  darts = λ {s} {t} {past} e. (undo_lowers s t past e).darts;
  ground = λ {s} {t} {past} P e. undo_ground s t past e;
  earnest = earnest_undo;
}

pub unfold_leads : (k : ℕ) → Leads (unfold_to k)
unfold_leads k = record {
  pyramid = λ P e. unfold_pyramid P k e;
  darts = λ {s} {t} {past} e. (unfold_lowers k s t past e).darts;
  ground = λ {s} {t} {past} P e. undo_levels_ground s t past (s.levels - k) (unfold_undoes k s t past e).1;
  earnest = earnest_unfold k;
}
