-- Undo returns what was there before.
--   undo_returns                 == undo of one level returns what the kernel was given: the state, every entry of the table, the history
--   sweep_undo_returns           == the same for the sweep
--   unfold_returns               == unfold returns what the kernels above were given
--   undo_levels_lem                  == undoing j + k levels is undoing j, then k
--   unfold_top                   == unfold to the top changes nothing
--   undo_is_unfold               == undo is unfold to the level below; at the base there is none, and level 1 is above the top
--   undo_pyramid, unfold_pyramid == undo and unfold lead from pyramids to pyramids
use mathlib.Core.Bool.{Bool, true, false}
use mathlib.Core.List.{List, [], ◌∷◌}
use mathlib.Core.Path.{◌≡◌, refl, sym, ◌∙◌, ap, fun_ext}
use Prim.Native.Nat.{ℕ, zero, suc, ◌+◌, ◌-◌}
use native.Mathlib.Decide.{ℕ_discrete}
use native.Mathlib.Nat.{zero-add, suc-add}
use native.Mathlib.Numerals.{add-one}
use native.Mathlib.Omega.{arith}
use lib.Dec.{eqb, ltb, ltb→lt}
use lib.ListN.{length}
use Rattle.permutations.specs.Choice.{pick, eqb_other, not_T→false}
use Rattle.darts.specs.Operation.{Kind, removal, undone}
use Rattle.darts.specs.State.{State, gives, and_then, raised, reduce}
use Rattle.darts.specs.Levels.{sweep, end_below, undo_level, undo_levels, unfold_to}
use Rattle.darts.specs.Pyramid.{Kernel, Pyramid, build}
use Rattle.darts.specs.Kernel.{each}
use Rattle.laws.proofs.runs.Operations.{told_longer, told_dropped}
use Rattle.laws.proofs.runs.Ends.{Layered, Stores, below_raised, lowered_raised}
use Rattle.laws.proofs.runs.Results.{refuses≢gives, then, then_then, same_result}
use Rattle.laws.proofs.runs.Reduces.{Reduced, reduced}
use Rattle.laws.proofs.runs.Builds.{built}
use Rattle.laws.proofs.runs.Sweeps.{loops}
use Rattle.laws.proofs.runs.Pyramids.{pyramid_built, pyramid_sweep, reduce_pyramid, Stacked, ground, over, stacked}

-- ---- one level

module _ {D : ℕ} {s : State} {t past : List ℕ} {k : Kernel} {z : State} {u new : List ℕ} (L : Layered D s past) (N : Stores s t past) (R : Reduced D s t past k z u new) where
  -- the last level holds this kernel's operations
  level_count : length new - end_below (raised s u new) ≡ length (each k.kind k.edges)
  level_count = rw (below_raised L R.room u new R.grows) (let n = L.count in let h = told_longer R.ran.tells in omega arith)

  undo_raised : undo_level (raised s u new) u new ≡ gives s t past
  unfolding undo_level raised
  undo_raised =
      let above : eqb (s.levels + 1) 0 ≡ false = eqb_other {m = s.levels + 1} {n = 0} (omega arith) in
      let back : undone s.darts (length (each k.kind k.edges)) u new ≡ t = rw L.size R.ran.back in
      rw (above, level_count, back, told_dropped R.ran.tells, lowered_raised L R.room u new R.grows N)

module _ {s : State} {t past : List ℕ} {z : State} {u new : List ℕ} (P : Pyramid s t past) where
  -- UNDO RETURNS THE STATE, EVERY ENTRY OF THE TABLE, AND THE HISTORY
  pub undo_returns : (k : Kind) (es : List ℕ) → reduce k es s t past ≡ gives z u new → undo_level z u new ≡ gives s t past
  undo_returns k es e =
      let B = pyramid_built P in
      let R = reduced B.standing B.layered (record { kind = k; edges = es }) e in
      rw R.state (undo_raised B.layered B.stored R)

  pub sweep_undo_returns : sweep s t past ≡ gives z u new → undo_level z u new ≡ gives s t past
  sweep_undo_returns e = undo_returns removal (loops s t past) (sym (pyramid_sweep P) ∙ e)

-- ---- several levels

-- "it equals that many undos"
pub undo_levels_lem : (j k : ℕ) (s : State) (t past : List ℕ) → undo_levels (j + k) s t past ≡ and_then (undo_levels j s t past) (undo_levels k)
unfolding undo_levels
undo_levels_lem zero k s t past = rw zero-add
undo_levels_lem (suc j) k s t past = rw suc-add
    (ap (and_then (undo_level s t past)) (fun_ext (λ s. fun_ext (λ t. fun_ext (λ past. undo_levels_lem j k s t past))))
    ∙ sym (then_then (undo_level s t past) (undo_levels j) (undo_levels k)))

undo_levels_returns : {s : State} {t past : List ℕ} {z : State} {u new : List ℕ} → Pyramid s t past
    → (ks : List Kernel) → build s t past ks ≡ gives z u new → undo_levels (length ks) z u new ≡ gives s t past
unfolding undo_levels build
undo_levels_returns P [] e = sym e
undo_levels_returns {s} {t} {past} {z} {u} {new} P (k ∷ ks) e =
    let first = then (reduce k.kind k.edges s t past) (λ s t past. build s t past ks) e in
    let rest = undo_levels_returns {s = first.state} {t = first.table} {past = first.past} (reduce_pyramid P k.kind k.edges first.first) ks first.next in
    ap (λ n. undo_levels n z u new) (sym (add-one (length ks))) ∙ undo_levels_lem (length ks) 1 z u new
    ∙ rw (rest, undo_returns P k.kind k.edges first.first)

-- UNFOLD RETURNS THE LEVEL AS IT WAS BEFORE THE KERNELS ks
pub unfold_returns : {s : State} {t past : List ℕ} {z : State} {u new : List ℕ} → Pyramid s t past
    → (ks : List Kernel) → build s t past ks ≡ gives z u new → unfold_to s.levels z u new ≡ gives s t past
unfolding unfold_to
unfold_returns {s} {t} {past} {z} {u} {new} P ks e =
    let B = pyramid_built P in
    let height = (built B.standing B.layered B.stored ks e).height in
    let reached : ltb z.levels s.levels ≡ false = not_T→false (ltb z.levels s.levels) (λ h. omega (arith, ltb→lt z.levels s.levels h)) in
    let steps : z.levels - s.levels ≡ length ks = omega arith in
    rw (reached, steps) (undo_levels_returns P ks e)

-- "the top itself changes nothing"
pub unfold_top : (s : State) (t past : List ℕ) → unfold_to s.levels s t past ≡ gives s t past
unfolding unfold_to undo_levels
unfold_top s t past =
    let top : ltb s.levels s.levels ≡ false = not_T→false (ltb s.levels s.levels) (λ h. omega (arith, ltb→lt s.levels s.levels h)) in
    let none : s.levels - s.levels ≡ 0 = omega arith in
    rw (top, none)

-- "undo one level; unfold to level k (.. it equals that many undos ..)", "undo at the base, or k above the top": UNDO IS UNFOLD TO THE LEVEL BELOW
pub undo_is_unfold : (s : State) (t past : List ℕ) → undo_level s t past ≡ unfold_to (pick (eqb s.levels 0) 1 (s.levels - 1)) s t past
unfolding unfold_to undo_levels undo_level
undo_is_unfold s t past = go (ℕ_discrete s.levels 0)
  where
    go : Dec (s.levels ≡ 0) → undo_level s t past ≡ unfold_to (pick (eqb s.levels 0) 1 (s.levels - 1)) s t past
    go (yes e) = rw e
    go (no n) =
        let below : ltb s.levels (s.levels - 1) ≡ false = not_T→false _ (λ h. omega (arith, ltb→lt s.levels (s.levels - 1) h)) in
        let one : s.levels - (s.levels - 1) ≡ suc zero = omega arith in
        rw (eqb_other n, below, one, eqb_other n)

-- ---- pyramids below

pub undo_pyramid : {s : State} {t past : List ℕ} {z : State} {u new : List ℕ} → Pyramid s t past → undo_level s t past ≡ gives z u new → Pyramid z u new
unfolding undo_level
undo_pyramid {s} {t} {past} {z} {u} {new} P e = go (stacked P)
  where
    go : Stacked s t past → Pyramid z u new
    go (ground h) = absurd (refuses≢gives (rw h at e))
    go (over Q k f) = same_result Pyramid (sym (undo_returns Q k.kind k.edges f) ∙ e) Q

undo_levels_pyramid : {z : State} {u new : List ℕ} (n : ℕ) {s : State} {t past : List ℕ} → Pyramid s t past → undo_levels n s t past ≡ gives z u new
    → Pyramid z u new
unfolding undo_levels
undo_levels_pyramid zero P e = same_result Pyramid e P
undo_levels_pyramid (suc n) {s} {t} {past} P e =
    let first = then (undo_level s t past) (undo_levels n) e in
    undo_levels_pyramid n (undo_pyramid P first.first) first.next

pub unfold_pyramid : {s : State} {t past : List ℕ} {z : State} {u new : List ℕ} → Pyramid s t past
    → (k : ℕ) → unfold_to k s t past ≡ gives z u new → Pyramid z u new
unfolding unfold_to
unfold_pyramid {s} {t} {past} {z} {u} {new} P k e = go (ltb s.levels k) refl
  where
    go : (b : Bool) → ltb s.levels k ≡ b → Pyramid z u new
    go true h = absurd (refuses≢gives (rw h at e))
    go false h = undo_levels_pyramid (s.levels - k) P (rw h at e)
