-- What the four steps do to the past, and that they keep the base.
--   Grown past new   == new goes on from past: `fresh` are the history numbers before it, the last one first
--   Moved past new   == one of the two goes on from the other
--   reduce_grown, sweep_grown, undo_shrunk, unfold_shrunk == so each of the four steps moves it
--   reduce_base, sweep_base, undo_base, unfold_base       == everything undone, the base is the same
--   Follows s t past z u new == z, u and new are a pyramid of as many darts over the same base, its past moved
--   Following f      == the step f leads from pyramids to such
--   reduce_follows, sweep_follows, undo_follows, unfold_follows == each of the four does
use mathlib.Core.List.{List, [], ◌++◌, append_assoc, reverse}
use mathlib.Core.Path.{◌≡◌, refl, sym, ap, ◌∙◌, subst}
use Prim.Native.Nat.{ℕ, zero, suc, ◌-◌}
use native.Mathlib.Decide.{ℕ_discrete}
use lib.ListN.{length, take, take-append-drop}
use Rattle.permutations.specs.Choice.{eqb_other}
use Rattle.darts.specs.Operation.{Kind, removal, undone}
use Rattle.darts.specs.Kernel.{Operation}
use Rattle.darts.specs.State.{State, gives, reduce}
use Rattle.darts.specs.Levels.{sweep, end_below, undo_level, undo_levels, unfold_to}
use Rattle.darts.specs.Pyramid.{Pyramid}
use Rattle.laws.proofs.runs.Operations.{Told}
use Rattle.laws.proofs.runs.Results.{refuses≢gives, then, same_result}
use Rattle.laws.proofs.runs.Reduces.{reduce_tells, reduced, reduced_base}
use Rattle.laws.proofs.runs.Sweeps.{loops, sweep_told}
use Rattle.laws.proofs.runs.Pyramids.{pyramid_built, pyramid_sweep, Stacked, ground, over, stacked}
use Rattle.laws.proofs.runs.Undo.{undo_returns, undo_pyramid}
use Rattle.laws.proofs.chained.Steps.{Step, Leads, undo_lowers, unfold_undoes, reduce_leads, sweep_leads, undo_leads, unfold_leads}

pub record Grown (past new : List ℕ) : Type 0 where
  pub fresh : List ℕ
  pub grown : new ≡ fresh ++ past

pub data Moved (past new : List ℕ) : Type 0 where
  up : Grown past new → Moved past new
  down : Grown new past → Moved past new

abbrev pub grown_on : {a b c : List ℕ} → Grown a b → Grown b c → Grown a c
grown_on {a} G H = record {
  fresh = H.fresh ++ G.fresh;
  grown = H.grown ∙ ap (λ l. H.fresh ++ l) G.grown ∙ sym (append_assoc H.fresh G.fresh a);
}

-- ---- the past

told_grown : {past : List ℕ} {os : List Operation} {new : List ℕ} → Told past os new → Grown past new
told_grown T = record { fresh = reverse T.numbers; grown = T.history }

module _ (s : State) (t past : List ℕ) {z : State} {u new : List ℕ} where
  pub reduce_grown : (k : Kind) (es : List ℕ) → reduce k es s t past ≡ gives z u new → Grown past new
  reduce_grown k es e = told_grown (reduce_tells s t past k es e)

  pub sweep_grown : sweep s t past ≡ gives z u new → Grown past new
  sweep_grown e = told_grown (sweep_told s t past e)

  pub undo_shrunk : undo_level s t past ≡ gives z u new → Grown new past
  unfolding undo_level
  undo_shrunk e = go (ℕ_discrete s.levels 0)
    where
      n : ℕ
      n = s.operations - end_below s

      go : Dec (s.levels ≡ 0) → Grown new past
      go (yes h) = absurd (refuses≢gives (rw h at e))
      go (no o) = same_result (λ z u new. Grown new past) (rw (eqb_other o) at e) (record { fresh = take n past; grown = sym (take-append-drop n past) })

undos_shrunk : (n : ℕ) (s : State) (t past : List ℕ) {z : State} {u new : List ℕ} → undo_levels n s t past ≡ gives z u new → Grown new past
unfolding undo_levels
undos_shrunk zero s t past e = same_result (λ z u new. Grown new past) e (record { fresh = []; grown = refl })
undos_shrunk (suc n) s t past e =
    let first = then (undo_level s t past) (undo_levels n) e in
    grown_on (undos_shrunk n first.state first.table first.past first.next) (undo_shrunk s t past first.first)

pub unfold_shrunk : (k : ℕ) (s : State) (t past : List ℕ) {z : State} {u new : List ℕ} → unfold_to k s t past ≡ gives z u new → Grown new past
unfold_shrunk k s t past e = undos_shrunk (s.levels - k) s t past (unfold_undoes k s t past e).1

-- ---- the base

abbrev pub base_from : ℕ → List ℕ → List ℕ → List ℕ
base_from D t past = undone D (length past) t past

module _ {s : State} {t past : List ℕ} {z : State} {u new : List ℕ} (P : Pyramid s t past) where
  pub reduce_base : (k : Kind) (es : List ℕ) → reduce k es s t past ≡ gives z u new → base_from s.darts u new ≡ base_from s.darts t past
  reduce_base k es e =
      let B = pyramid_built P in
      reduced_base B.layered (reduced B.standing B.layered (record { kind = k; edges = es }) e)

  pub sweep_base : sweep s t past ≡ gives z u new → base_from s.darts u new ≡ base_from s.darts t past
  sweep_base e = reduce_base removal (loops s t past) (sym (pyramid_sweep P) ∙ e)

pub undo_base : {s : State} {t past : List ℕ} {z : State} {u new : List ℕ} → Pyramid s t past → undo_level s t past ≡ gives z u new
    → base_from s.darts u new ≡ base_from s.darts t past
unfolding undo_level
undo_base {s} {t} {past} {z} {u} {new} P e = go (stacked P)
  where
    go : Stacked s t past → base_from s.darts u new ≡ base_from s.darts t past
    go (ground h) = absurd (refuses≢gives (rw h at e))
    go (over {s = s₁} {t = t₁} {past = past₁} Q k f) =
        let same : s.darts ≡ s₁.darts = (reduce_leads k.kind k.edges).darts f in
        same_result (λ z u new. base_from s.darts u new ≡ base_from s.darts t past) (sym (undo_returns Q k.kind k.edges f) ∙ e)
        (subst (λ (D : ℕ). base_from D t₁ past₁ ≡ base_from D t past) (sym same) (sym (reduce_base Q k.kind k.edges f)))

undos_base : (n : ℕ) {s : State} {t past : List ℕ} {z : State} {u new : List ℕ} → Pyramid s t past → undo_levels n s t past ≡ gives z u new
    → base_from s.darts u new ≡ base_from s.darts t past
unfolding undo_levels
undos_base zero {s} {t} {past} P e = same_result (λ z u new. base_from s.darts u new ≡ base_from s.darts t past) e refl
undos_base (suc n) {s} {t} {past} {z} {u} {new} P e =
    let first = then (undo_level s t past) (undo_levels n) e in
    let same : first.state.darts ≡ s.darts = (undo_lowers s t past first.first).darts in
    let rest = undos_base n (undo_pyramid P first.first) first.next in
    subst (λ (D : ℕ). base_from D u new ≡ base_from D first.table first.past) same rest ∙ undo_base P first.first

pub unfold_base : {s : State} {t past : List ℕ} {z : State} {u new : List ℕ} → Pyramid s t past → (k : ℕ) → unfold_to k s t past ≡ gives z u new
    → base_from s.darts u new ≡ base_from s.darts t past
unfold_base {s} {t} {past} P k e = undos_base (s.levels - k) P (unfold_undoes k s t past e).1

-- ---- the four steps

pub record Follows (s : State) (t past : List ℕ) (z : State) (u new : List ℕ) : Type 0 where
  pub pyramid : Pyramid z u new
  pub darts : z.darts ≡ s.darts
  pub base : base_from z.darts u new ≡ base_from s.darts t past
  pub moved : Moved past new

-- the step f does so, wherever it gives something of a pyramid
pub record Following (f : Step) : Type 0 where
  pub follows : {s : State} {t past : List ℕ} {z : State} {u new : List ℕ} → Pyramid s t past → f s t past ≡ gives z u new → Follows s t past z u new

module _ {f : Step} (L : Leads f) {s : State} {t past : List ℕ} {z : State} {u new : List ℕ} (P : Pyramid s t past) (e : f s t past ≡ gives z u new) where
  followed : base_from s.darts u new ≡ base_from s.darts t past → Moved past new → Follows s t past z u new
  followed base moved = record {
    pyramid = L.pyramid P e;
    darts = L.darts e;
    base = ap (λ (D : ℕ). base_from D u new) (L.darts e) ∙ base;
    moved = moved;
  }

-- A KERNEL, THE SWEEP, UNDO AND UNFOLD KEEP THE BASE, AND DO OPERATIONS OR UNDO SOME
pub reduce_follows : (k : Kind) (es : List ℕ) → Following (reduce k es)
reduce_follows k es = record {
  follows = λ {s} {t} {past} P e. followed (reduce_leads k es) P e (reduce_base P k es e) (up (reduce_grown s t past k es e));
}

pub sweep_follows : Following sweep
sweep_follows = record { follows = λ {s} {t} {past} P e. followed sweep_leads P e (sweep_base P e) (up (sweep_grown s t past e)) }

pub undo_follows : Following undo_level
undo_follows = record { follows = λ {s} {t} {past} P e. followed undo_leads P e (undo_base P e) (down (undo_shrunk s t past e)) }

pub unfold_follows : (k : ℕ) → Following (unfold_to k)
unfold_follows k = record { follows = λ {s} {t} {past} P e. followed (unfold_leads k) P e (unfold_base P k e) (down (unfold_shrunk k s t past e)) }
