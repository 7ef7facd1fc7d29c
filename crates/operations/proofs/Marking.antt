-- A walk from i round its cycle that writes i at each dart of it, in the forest's part.
--   Passed f i n z          == z is passed on the first n steps from i
--   all_passed              == where n steps lead back to i, all that i meets is passed
--   Marking D k i w₀ w x    == w is w₀ on the walk, at x: the darts before x are marked, and off the cycle nothing has changed
--   marking_begins          == before the first turn
--   marking_room            == the four parts still fit
--   marking_falls           == a turn leaves one step fewer
--   marking_goes_on         == one dart more
--   marking_ends            == back at i the whole cycle is marked
use mathlib.Core.List.{List}
use mathlib.Core.Logic.{◌≢◌, inl, inr, by_cases}
use mathlib.Core.Path.{◌≡◌, refl, sym, ap, ◌∙◌, subst}
use Prim.Native.Nat.{ℕ, ◌+◌, ◌*◌, ◌<◌}
use native.Mathlib.Decide.{ℕ_discrete}
use native.Mathlib.Omega.{arith}
use lib.ListN.{length, get_or, set}
use lib.Seq.{get_or-set_same, get_or-set_other}
use Rattle.permutations.specs.Perm.{Perm, below}
use Rattle.permutations.specs.Cycle.{walk, walk_add, Meets, meets_ind, meets_sym, meets?}
use Rattle.area.specs.Area.{Room, around}
use Rattle.operations.specs.Trees.{Outside}
use Rattle.operations.specs.Cycles.{step_in, MarkedIn}
use Rattle.operations.proofs.Outside.{outside_refl, outside_trans, outside_room, outside_around, forest_length, forest_at, set_outside}
use Rattle.operations.proofs.Steps.{step_there, next_there, left, left_falls}

-- ---- once round

record Passed (f : ℕ → ℕ) (i n z : ℕ) : Type 0 where
  at : ℕ
  before : at < n
  there : walk f at i ≡ z

module _ (f : ℕ → ℕ) (i n : ℕ) (some : 0 < n) (again : walk f n i ≡ i) where
  one_more : (j : ℕ) → walk f (j + 1) i ≡ f (walk f j i)
  unfolding walk
  one_more j = walk_add f j 1 i

  passed_first : Passed f i n i
  unfolding walk
  passed_first = record { at = 0; before = some; there = refl }

  passed_next : (z : ℕ) → Passed f i n z → Passed f i n (f z)
  passed_next z p =
      by_cases (ℕ_discrete (p.at + 1) n)
      (λ e. subst (Passed f i n) (sym again ∙ ap (λ (j : ℕ). walk f j i) (sym e) ∙ one_more p.at ∙ ap f p.there) passed_first)
      (λ o. record { at = p.at + 1; before = omega (arith, p.before); there = one_more p.at ∙ ap f p.there })

  -- all that i meets is passed on the way back to i
  all_passed : {z : ℕ} → Meets f i z → Passed f i n z
  all_passed m = meets_ind f (Passed f i n) passed_next m passed_first

-- ---- marking

pub record Marking (D k i : ℕ) (w₀ w : List ℕ) (x : ℕ) : Type 0 where
  pub outside : Outside D w₀ w
  pub inside : x < D
  pub here : get_or w₀ (D + x) 0 < D
  pub steps : ℕ
  pub some : 0 < steps
  pub reached : walk (step_in D k w₀) steps i ≡ x
  pub done : (j : ℕ) → j < steps → get_or w (2 * D + walk (step_in D k w₀) j i) 0 ≡ i
  pub rest : (z : ℕ) → z < D → (Meets (step_in D k w₀) z i → ⊥) → get_or w (2 * D + z) 0 ≡ get_or w₀ (2 * D + z) 0

module _ {D k i : ℕ} {w₀ : List ℕ} (room : Room D w₀) (π : Perm D (step_in D k w₀)) where
  pub marking_begins : i < D → get_or w₀ (D + i) 0 < D → get_or w₀ (2 * D + i) 0 ≡ i → Marking D k i w₀ w₀ (around k w₀ i)
  unfolding walk
  marking_begins h l own =
      let e = step_there k w₀ h l in
      rw (← e)
      (record {
        outside = outside_refl D w₀;
        inside = below π h;
        here = next_there k w₀ π h l;
        steps = 1;
        some = omega arith;
        reached = refl;
        done = λ j b. let z : j ≡ 0 = omega arith in rw z own;
        rest = λ z b n. refl;
      })

  module _ {w : List ℕ} {x : ℕ} (m : Marking D k i w₀ w x) where
    back_to : Meets (step_in D k w₀) x i
    back_to = meets_sym π (record { steps = m.steps; there = m.reached })

    written : Outside D w₀ (set w (2 * D + x) i)
    written = outside_trans m.outside (set_outside D w x i m.inside)

    next_step : around k (set w (2 * D + x) i) x ≡ step_in D k w₀ x
    next_step = outside_around written room k x m.inside ∙ sym (step_there k w₀ m.inside m.here)

    pub marking_falls : {y : ℕ} → y ≡ around k (set w (2 * D + x) i) x → x ≢ i → left (step_in D k w₀) D y i < left (step_in D k w₀) D x i
    marking_falls e n = rw (e ∙ next_step) (left_falls π back_to n)

    pub marking_room : Room D (set w (2 * D + x) i)
    marking_room = outside_room written room

    fits : 2 * D + x < length w
    fits = omega (arith, m.inside, m.outside.size, room.fits)

    pub marking_goes_on : {y : ℕ} → y ≡ around k (set w (2 * D + x) i) x → Marking D k i w₀ (set w (2 * D + x) i) y
    unfolding walk
    marking_goes_on e =
        rw (e ∙ next_step)
        (record {
          outside = written;
          inside = below π m.inside;
          here = next_there k w₀ π m.inside m.here;
          steps = m.steps + 1;
          some = omega arith;
          reached = walk_add (step_in D k w₀) m.steps 1 i ∙ ap (step_in D k w₀) m.reached;
          done = λ j b.
              by_cases (ℕ_discrete (walk (step_in D k w₀) j i) x)
              (λ same. rw same (get_or-set_same w (2 * D + x) i 0 fits))
              (λ other.
              get_or-set_other w (2 * D + x) (2 * D + walk (step_in D k w₀) j i) i 0 (λ q. other (omega arith))
              ∙ m.done j (by_cases (ℕ_discrete j m.steps) (λ q. absurd (other (rw q m.reached))) (λ q. omega arith)));
          rest = λ z b n.
              get_or-set_other w (2 * D + x) (2 * D + z) i 0 (λ q. let s : x ≡ z = omega arith in n (rw s at back_to))
              ∙ m.rest z b n;
        })

    pub marking_ends : x ≡ i → MarkedIn D k i w₀ w
    marking_ends e =
        record {
          outside = m.outside;
          marked =
              record {
                size = forest_length D w (outside_room m.outside room).fits ∙ sym (forest_length D w₀ room.fits);
                each = λ z b.
                    by_cases (meets? π z i)
                    (λ s. let p = all_passed (step_in D k w₀) i m.steps m.some (m.reached ∙ e) (meets_sym π s) in
                    inl (s, forest_at D w z b ∙ rw (← p.there) (m.done p.at p.before)))
                    (λ n. inr (n, forest_at D w z b ∙ m.rest z b n ∙ sym (forest_at D w₀ z b)));
              };
        }
