-- The walk, step by step.
--   gone_not, gone_if     == whether a dart is gone, by the number of its end
--   after_removal, after_contraction == where the walk goes on, by that number
--   onward_below          == it stays on darts
--   Walking D k t ends x y i == after i gone darts the walk from x is at y
--   walking_begins        == it starts at the base successor
--   walking_more          == where y is gone, not all D steps are done
--   walking_on            == it goes on from a gone dart
--   walking_ends          == it ends at one that is not gone
--   walked_few            == its count is at most twice the operations done by level k
use mathlib.Core.Bool.{true, false}
use mathlib.Core.List.{List}
use mathlib.Core.Logic.{◌≢◌}
use mathlib.Core.Path.{◌≡◌, refl, sym, ap, ◌∙◌, subst}
use Prim.Native.Nat.{ℕ, zero, suc, ◌+◌, ◌-◌, ◌*◌, ◌/◌, ◌%◌, ◌≤◌, ◌<◌}
use native.Mathlib.Numerals.{add-one}
use native.Mathlib.Omega.{arith}
use borrow.Author.Tests.{le-leb}
use lib.Dec.{leb, T_not}
use lib.ListN.{get_or}
use Rattle.permutations.specs.Choice.{true→T}
use Rattle.permutations.specs.Partner.{partner}
use Rattle.permutations.proofs.PartnerLemmas.{partner_below}
use Rattle.darts.specs.Map.{successor}
use Rattle.darts.specs.Operation.{Kind, contraction, removal, kind_of}
use Rattle.ends.specs.Ends.{level_of, end_of, ends_by, gone_by, done_by}
use Rattle.ends.specs.Walk.{Found, onward_by, onward, walk_from, walk, Walks}

-- ---- by the number of the end

module _ (ends : List ℕ) (y : ℕ) {v : ℕ} (read : v ≡ get_or ends (y / 2) 0) where
  pub gone_not : (k : ℕ) → v / 2 ≡ 0 → false ≡ gone_by k ends y
  unfolding gone_by end_of ends_by level_of
  gone_not k z = sym (rw (← read, z))

  pub gone_if : (k : ℕ) → v / 2 ≢ 0 → leb (v / 2) k ≡ gone_by k ends y
  unfolding gone_by end_of ends_by level_of
  gone_if k n = sym (rw (← read, le-leb 1 (v / 2) (omega arith)))

  module _ (t : List ℕ) {r : ℕ} where
    pub after_removal : 0 ≡ v % 2 → r ≡ get_or t y 0 → r ≡ onward t ends y
    unfolding onward onward_by end_of kind_of successor
    after_removal z e = rw (← read, ← z) e

    pub after_contraction : 1 ≡ v % 2 → {q : ℕ} → q ≡ partner y → r ≡ get_or t q 0 → r ≡ onward t ends y
    unfolding onward onward_by end_of kind_of successor
    after_contraction z p e = rw (← read, ← z, ← p) e

-- ---- the walk

module _ {D k : ℕ} {t ends : List ℕ} {x : ℕ} (even : D % 2 ≡ 0) (W : Walks D k t ends x) where
  by_below : (κ : Kind) (y : ℕ) → y < D → onward_by κ t y < D
  unfolding onward_by
  by_below removal y l = W.inside y l
  by_below contraction y l = W.inside (partner y) (partner_below D y l even)

  pub onward_below : (y : ℕ) → y < D → onward t ends y < D
  unfolding onward
  onward_below y l = by_below (kind_of (end_of ends y)) y l

pub record Walking (D k : ℕ) (t ends : List ℕ) (x y i : ℕ) : Type 0 where
  pub below : y < D
  pub few : i ≤ D
  pub same : walk_from (D - i) k t ends y i ≡ walk D k t ends x

pub walking_begins : {D k : ℕ} {t ends : List ℕ} {x y : ℕ} → Walks D k t ends x → x < D → y ≡ get_or t x 0 → Walking D k t ends x y 0
unfolding walk successor
walking_begins {D} {x = x} W l e = let all : D - 0 ≡ D = omega arith in record { below = rw e (W.inside x l); few = omega arith; same = rw (all, e) }

-- a dart that is not gone is where the walk ends
stop_here : (n k : ℕ) (t ends : List ℕ) (y i : ℕ) → gone_by k ends y ≡ false → walk_from n k t ends y i ≡ record { dart = y; passed = i }
unfolding walk_from
stop_here zero k t ends y i f = refl
stop_here (suc n) k t ends y i f = rw f

-- and from a gone one it goes on
go_on : (n k : ℕ) (t ends : List ℕ) (y i : ℕ) → gone_by k ends y ≡ true
    → walk_from (suc n) k t ends y i ≡ walk_from n k t ends (onward t ends y) (suc i)
unfolding walk_from
go_on n k t ends y i g = rw g

module _ {D k : ℕ} {t ends : List ℕ} {x y i : ℕ} (σ : Walking D k t ends x y i) where
  pub walking_more : Walks D k t ends x → gone_by k ends y ≡ true → i < D
  unfolding walk_from
  walking_more W g = go (D - i) refl
    where
      last : D - i ≡ 0 → (walk D k t ends x).dart ≡ y
      last z = sym (ap (λ (f : Found). f.dart) (rw z at σ.same))

      go : (n : ℕ) → D - i ≡ n → i < D
      go zero z = absurd (T_not (gone_by k ends y) (rw (last z) at W.arrives) (true→T g))
      go (suc n) z = omega arith

  pub walking_on : D % 2 ≡ 0 → Walks D k t ends x → gone_by k ends y ≡ true → {z j : ℕ} → z ≡ onward t ends y → j ≡ i + 1
      → Walking D k t ends x z j
  walking_on even W g e c =
      let more = walking_more W g in
      let one : D - i ≡ suc (D - suc i) = omega arith in
      record {
        below = rw e (onward_below even W y σ.below);
        few = omega arith;
        same = rw (e, c, add-one i) (sym (go_on (D - suc i) k t ends y i g) ∙ rw one at σ.same);
      }

  pub walking_ends : gone_by k ends y ≡ false → record { dart = y; passed = i } ≡ walk D k t ends x
  walking_ends f = sym (stop_here (D - i) k t ends y i f) ∙ σ.same

pub walked_few : {D k : ℕ} {t ends : List ℕ} {x : ℕ} {f : Found} → Walks D k t ends x → f ≡ walk D k t ends x → f.passed ≤ 2 * done_by k ends
walked_few {k = k} {ends = ends} W e = subst (λ (g : Found). g.passed ≤ 2 * done_by k ends) (sym e) W.few
