-- One level less in the work area.
--   stacked_few   == a pyramid has at most 64 levels
--   below_le      == its last kernel begins no later than it ends
--   lowered_level == what taking back the last level leaves
--   Falling k s z w v == on the way from s down to level k: z and v are as far as it went
--   falling_start, falling_more, falling_end == none yet, one level more, level k
use mathlib.Core.List.{List, [], ◌∷◌}
use mathlib.Core.Path.{◌≡◌, refl, sym, ap, subst, ◌∙◌}
use Prim.Native.Nat.{ℕ, zero, suc, ◌-◌, ◌≤◌, ◌<◌}
use native.Mathlib.Decide.{dec_le}
use native.Mathlib.Nat.{not-suc-le-zero, le_of_suc-le-suc}
use native.Mathlib.Omega.{arith}
use borrow.Author.Tests.{ne_eqb, le-leb, lt-leb}
use lib.ListN.{length, get_or, take, length-take}
use lib.Seq.{get_or-take}
use Rattle.darts.specs.State.{State, gives, and_then}
use Rattle.darts.specs.Levels.{end_below, lowered, undo_level, undo_levels}
use Rattle.laws.proofs.runs.Ends.{Rising, Layered}
use Rattle.laws.proofs.runs.Pyramids.{pyramid_built}
use Rattle.laws.proofs.runs.Undo.{undo_pyramid}
use Rattle.area.specs.Area.{table_in, past_in}
use Rattle.engine.specs.Held.{Beyond}
use Rattle.engine.specs.Back.{TookBack}
use Rattle.pyramid.specs.Steps.{Sunk, state_in, Stacked, Lowered, Unfolded}
use Rattle.pyramid.specs.Values.{figures_of}

-- a mark that rises to the last one is not above it
rising_le : (from : ℕ) (marks : List ℕ) (to i : ℕ) → Rising from marks to → i < length marks → get_or marks i 0 ≤ to
rising_le from [] to i r h = absurd (not-suc-le-zero h)
rising_le from (m ∷ []) to zero r h = let e = r.1 in omega arith
rising_le from (m ∷ m' ∷ ms) to zero r h = let l = rising_le m (m' ∷ ms) to zero r.1 (omega arith) in let k = r.1.0 in omega arith
rising_le from (m ∷ ms) to (suc i) r h = rising_le m ms to i r.1 (le_of_suc-le-suc h)

module _ (s : State) (w : List ℕ) (S : Stacked s w) where
  abbrev D : ℕ
  D = s.darts

  abbrev n : ℕ
  n = s.operations

  layered : Layered D (state_in s w) (past_in D n w)
  layered = (pyramid_built S.pyramid).layered

  pub stacked_few : s.levels ≤ 64
  stacked_few = layered.most

  pub below_le : end_below s ≤ n
  unfolding end_below
  below_le = go (dec_le s.levels 1)
    where
      go : Dec (s.levels ≤ 1) → end_below s ≤ n
      go (yes h) = rw (le-leb s.levels 1 h) (omega arith)
      go (no h) =
          let few = layered.most in
          let size = layered.sixty_four in
          let i : s.levels - 2 < s.levels = omega arith in
          let long : s.levels - 2 < length (take s.levels s.ends) = omega (arith, length-take s.levels s.ends) in
          rw (lt-leb s.levels 1 (omega arith))
          (rw (get_or-take s.levels s.ends (s.levels - 2) 0 i) at (rising_le 0 (take s.levels s.ends) n (s.levels - 2) layered.rise long))

  module _ (some : 0 < s.levels) (v : List ℕ) (B : TookBack D n (n - end_below s) w v) where
    back : n - (n - end_below s) ≡ end_below s
    back = let l = below_le in omega arith

    abbrev below : State
    below = lowered s (table_in D v) (past_in D (end_below s) v)

    stepped : undo_level (state_in s w) (table_in D w) (past_in D n w) ≡ gives below (table_in D v) (past_in D (end_below s) v)
    unfolding undo_level lowered end_below
    stepped = rw (ne_eqb s.levels 0 (λ e. omega arith), ← B.table, ← B.past, back)

    lowers : Lowered s (figures_of below) w v
    unfolding lowered
    lowers = record {
      step = stepped;
      stacked = record {
        pyramid = undo_pyramid S.pyramid stepped;
        area = rw back at B.area;
      };
      darts = refl;
      levels = omega arith;
      beyond = B.beyond;
    }

    -- only the figures are looked at
    same_figures : (z : State) → Lowered s (figures_of z) w v → Lowered s z w v
    same_figures z L = record {
      step = L.step;
      stacked = record { pyramid = L.stacked.pyramid; area = L.stacked.area };
      darts = L.darts;
      levels = L.levels;
      beyond = L.beyond;
    }

    pub lowered_level : (z : State) → Sunk s z → Lowered s z w v
    lowered_level z is =
        same_figures z (subst (λ (y : State). Lowered s y w v) (sym (is (table_in D v) (past_in D (end_below s) v))) lowers)

-- ---- level after level, down to level k

pub record Falling (k : ℕ) (s z : State) (w v : List ℕ) : Type 0 where
  pub rest : undo_levels (s.levels - k) (state_in s w) (table_in s.darts w) (past_in s.darts s.operations w)
      ≡ undo_levels (z.levels - k) (state_in z v) (table_in z.darts v) (past_in z.darts z.operations v)
  pub stacked : Stacked z v
  pub darts : z.darts ≡ s.darts
  pub beyond : Beyond s.darts w v

pub falling_start : (k : ℕ) {s : State} {w : List ℕ} → Stacked s w → Falling k s s w w
falling_start k S = record { rest = refl; stacked = S; darts = refl; beyond = record { size = refl; rest = refl } }

pub falling_more : {k : ℕ} {s z y : State} {w v u : List ℕ} → Falling k s z w v → k < z.levels → Lowered z y v u → Falling k s y w u
unfolding undo_levels
falling_more {k} {s} {z} {y} {w} {v} {u} F h L = record {
  rest = F.rest ∙ more;
  stacked = L.stacked;
  darts = L.darts ∙ F.darts;
  beyond = record {
    size = L.beyond.size ∙ F.beyond.size;
    rest = rw F.darts at L.beyond.rest ∙ F.beyond.rest;
  };
}
  where
    count : z.levels - k ≡ suc (y.levels - k)
    count = let l = L.levels in omega arith

    more : undo_levels (z.levels - k) (state_in z v) (table_in z.darts v) (past_in z.darts z.operations v)
        ≡ undo_levels (y.levels - k) (state_in y u) (table_in y.darts u) (past_in y.darts y.operations u)
    more = rw count (ap (λ r. and_then r (undo_levels (y.levels - k))) L.step)

pub falling_end : {k : ℕ} {s z : State} {w v : List ℕ} → Falling k s z w v → z.levels ≤ k → Unfolded k s z w v
unfolding undo_levels
falling_end {k} {s} {z} {w} {v} F h = record {
  step = F.rest ∙ (let e : z.levels - k ≡ 0 = omega arith in rw e refl);
  stacked = F.stacked;
  darts = F.darts;
  beyond = F.beyond;
}
