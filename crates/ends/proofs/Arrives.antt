-- The walk over a base arrives: it goes by a permutation, so that it would come back to where it began.
--   Goes D k t ends f    == from darts that are gone by level k, f goes on as the walk does
--   way_walks            == a way by f is the walk, and the numbers that it passes are the walk's count
--   turned D k ends y    == y's partner where its edge is contracted by level k, y itself otherwise
--   steps D k t ends     == the permutation by which the walk goes
--   base_walks           == over any base, with any ends, the walk from a dart that is not gone arrives
--   comes_walks          == so it does over table and ends that come from a pyramid
use mathlib.Core.Bool.{Bool, true, false, ◌&&◌}
use mathlib.Core.List.{List, []}
use mathlib.Core.Path.{◌≡◌, sym, ap, subst}
use Prim.Native.Nat.{ℕ, zero, suc, ◌+◌, ◌/◌, ◌≤◌, ◌<◌}
use native.Mathlib.Nat.{not-suc-le-zero}
use native.Mathlib.Omega.{arith}
use lib.Dec.{T, ltb, ltb→lt, lt→ltb, not_T}
use lib.ListN.{length}
use Rattle.permutations.specs.Choice.{pick, T?, T→true, not_T→false, and_left, and_right, and_intro}
use Rattle.permutations.specs.Partner.{partner}
use Rattle.permutations.proofs.PartnerLemmas.{partner_edge, partner_partner, partner_below}
use Rattle.permutations.specs.Perm.{Perm, below}
use Rattle.permutations.specs.Cycle.{meets_back, soon}
use Rattle.darts.specs.Map.{successor, permutes, permutation_test, passed}
use Rattle.darts.specs.Operation.{Kind, contraction, removal, kind_of}
use Rattle.darts.specs.Pyramid.{dart_count}
use Rattle.laws.specs.Standing.{Standing, map_of}
use Rattle.laws.proofs.bridge.Standing.{next_entry}
use Rattle.laws.proofs.bridge.Bases.{base_stands, all_live}
use Rattle.laws.proofs.bridge.Verdicts.{passed_iff}
use Rattle.ends.specs.Ends.{end_of, gone_by}
use Rattle.ends.specs.Walk.{onward_by, onward, walk_from, walk, Walks}
use Rattle.ends.specs.Comes.{comes}
use Rattle.ends.proofs.Ways.{Way, way_none, way_first, way_end, way_soon, way_few}
use Rattle.ends.proofs.GoneDarts.{gone_darts, gone_count, gone_listed}

-- ---- a way is the walk

pub record Goes (D k : ℕ) (t ends : List ℕ) (f : ℕ → ℕ) : Type 0 where
  pub on : (y : ℕ) → y < D → T (gone_by k ends y) → f y ≡ onward t ends y
  pub stays : (y : ℕ) → y < D → f y < D

module _ {D k : ℕ} {t ends : List ℕ} {f : ℕ → ℕ} (G : Goes D k t ends f) where
  pub way_walks : (n fuel y z i : ℕ) → y < D → n ≤ fuel → Way f (gone_by k ends) y z n → walk_from fuel k t ends y i ≡ record { dart = z; passed = i + n }
  unfolding walk_from
  way_walks zero zero y z i h l w = let none : i + 0 ≡ i = omega arith in rw none (ap (λ (d : ℕ). record { dart = d; passed = i }) (way_none w).0)
  way_walks zero (suc fuel) y z i h l w =
      let e = way_none w in
      let none : i + 0 ≡ i = omega arith in
      rw (not_T→false (gone_by k ends y) e.1, none) (ap (λ (d : ℕ). record { dart = d; passed = i }) e.0)
  way_walks (suc n) zero y z i h l w = absurd (not-suc-le-zero l)
  way_walks (suc n) (suc fuel) y z i h l w =
      let e = way_first w in
      let next : onward t ends y ≡ f y = sym (G.on y h e.0) in
      let count : suc i + n ≡ i + suc n = omega arith in
      rw (T→true (gone_by k ends y) e.0, next, ← count) (way_walks n fuel (f y) z (suc i) (G.stays y h) (omega arith) e.1)

-- ---- the permutation by which the walk goes

is_contraction : Kind → Bool
is_contraction contraction = true
is_contraction removal = false

exchanged : ℕ → ℕ → List ℕ → ℕ → Bool
exchanged D k ends y = ltb y D && (gone_by k ends y && is_contraction (kind_of (end_of ends y)))

turned : ℕ → ℕ → List ℕ → ℕ → ℕ
turned D k ends y = pick (exchanged D k ends y) (partner y) y

-- every dart of a base leads where its entry says
pub base_next : {D : ℕ} {t : List ℕ} → Standing D t [] → (y : ℕ) → y < D → (map_of D t []).next y ≡ successor t y
base_next {D} S y h = next_entry S y ((all_live D y).1 h)

module _ (D k : ℕ) (t ends : List ℕ) (S : Standing D t []) where
  -- partners are exchanged together
  both : (y : ℕ) → T (exchanged D k ends y) → T (exchanged D k ends (partner y))
  unfolding exchanged gone_by end_of
  both y e =
      let h = ltb→lt y D (and_left (ltb y D) (gone_by k ends y && is_contraction (kind_of (end_of ends y))) e) in
      let r = and_right (ltb y D) (gone_by k ends y && is_contraction (kind_of (end_of ends y))) e in
      rw (partner_edge y) (and_intro (ltb (partner y) D) _ (lt→ltb (partner y) D (partner_below D y h S.even)) r)

  turned_turned : (y : ℕ) → turned D k ends (turned D k ends y) ≡ y
  unfolding turned
  turned_turned y = go (T? (exchanged D k ends y))
    where
      go : Dec (T (exchanged D k ends y)) → turned D k ends (turned D k ends y) ≡ y
      go (yes e) = rw (T→true (exchanged D k ends y) e, T→true (exchanged D k ends (partner y)) (both y e)) (partner_partner y)
      go (no n) = rw (not_T→false (exchanged D k ends y) n, not_T→false (exchanged D k ends y) n)

  turned_far : (y : ℕ) → D ≤ y → turned D k ends y ≡ y
  unfolding turned exchanged
  turned_far y h = rw (not_T→false (ltb y D) (λ l. omega (arith, ltb→lt y D l)))

  abbrev steps : ℕ → ℕ
  steps y = (map_of D t []).next (turned D k ends y)

  steps_perm : Perm D steps
  steps_perm =
      let π = S.good.perm in
      record {
        inv = λ y. turned D k ends (π.inv y);
        back = λ y. rw π.back (turned_turned y);
        forth = λ y. rw turned_turned (π.forth y);
        still = λ y h. rw (turned_far y h) (π.still y h);
      }

  -- from a dart that is not gone the first step is to its successor
  step_first : (y : ℕ) → y < D → ¬ T (gone_by k ends y) → steps y ≡ successor t y
  unfolding turned exchanged
  step_first y h n = rw (T→true (ltb y D) (lt→ltb y D h), not_T→false (gone_by k ends y) n) (base_next S y h)

  step_on : (y : ℕ) → y < D → T (gone_by k ends y) → steps y ≡ onward t ends y
  unfolding turned exchanged onward onward_by is_contraction
  step_on y h g = rw (T→true (ltb y D) (lt→ltb y D h), T→true (gone_by k ends y) g) (go (kind_of (end_of ends y)))
    where
      go : (κ : Kind) → (map_of D t []).next (pick (is_contraction κ) (partner y) y) ≡ onward_by κ t y
      go contraction = base_next S (partner y) (partner_below D y h S.even)
      go removal = base_next S y h

  steps_go : Goes D k t ends steps
  steps_go = record { on = step_on; stays = λ y h. below steps_perm h }

  -- OVER ANY BASE, WITH ANY ENDS, THE WALK FROM A DART THAT IS NOT GONE ARRIVES
  pub base_walks : (x : ℕ) → x < D → ¬ T (gone_by k ends x) → Walks D k t ends x
  unfolding walk
  base_walks x h n =
      let first = step_first x h n in
      let m = soon steps_perm (meets_back steps_perm x) in
      let s = way_soon steps (gone_by k ends) m.0 (steps x) (subst (λ y. ¬ T (gone_by k ends y)) (sym m.2) n) in
      let w = way_walks steps_go s.count D (steps x) s.to 0 (below steps_perm h) (let a = s.soon in let b = m.1 in omega arith) s.way in
      let ends_at : walk_from D k t ends (successor t x) 0 ≡ record { dart = s.to; passed = 0 + s.count } = rw (← first) w in
      let bound = way_few steps_perm (gone_by k ends) (gone_darts k 0 ends) (gone_listed k ends) x s.to s.count n s.way in
      let twice = gone_count k 0 ends in
      record {
        inside = S.inside;
        few = rw ends_at (omega arith);
        arrives = rw ends_at (not_T (gone_by k ends s.to) (way_end s.way));
      }

-- ---- what comes from a pyramid has a base

pub comes_base : (D : ℕ) (t ends : List ℕ) → T (comes D t ends) → permutation_test D t ≡ permutes
unfolding comes
comes_base D t ends c = (passed_iff (permutation_test D t)).0 (and_left (passed (permutation_test D t)) _ c)

pub comes_walks : (D k : ℕ) (t ends : List ℕ) → T (dart_count D) → length t ≡ D → length ends ≡ D / 2 → T (comes D t ends)
    → (x : ℕ) → x < D → ¬ T (gone_by k ends x) → Walks D k t ends x
comes_walks D k t ends count size half c = base_walks D k t ends (base_stands D t count size (comes_base D t ends c))
