-- Going round a vertex or a face in the work area.
--   ring_good    == it is a map's
--   around_next  == the dart after a survivor is the mathematics' own
--   step_ring    == and so is each step
--   step_perm    == the steps are a permutation
use mathlib.Core.Bool.{◌&&◌}
use mathlib.Core.List.{List}
use mathlib.Core.Path.{◌≡◌, sym, ◌∙◌, fun_ext}
use Prim.Native.Nat.{ℕ, zero, suc, ◌≤◌, ◌<◌}
use native.Mathlib.Omega.{arith}
use lib.Dec.{T, ltb, ltb→lt, lt→ltb}
use Rattle.permutations.specs.Choice.{pick, T?, T→true, not_T→false, T-ext, and_intro, and_left, and_right}
use Rattle.permutations.specs.Partner.{partner}
use Rattle.permutations.specs.Perm.{Perm}
use Rattle.permutations.specs.Map.{Map, Good, partner_live}
use Rattle.permutations.proofs.Dual.{face_at, good_dual}
use Rattle.darts.specs.Map.{successor, live}
use Rattle.darts.specs.Operation.{Kind, contraction, removal, kind_of}
use Rattle.area.specs.Area.{there, past_in, around}
use Rattle.laws.proofs.bridge.Standing.{live_iff, next_entry}
use Rattle.operations.specs.Cycles.{step_in}
use Rattle.laws.specs.Standing.{cycles_of}
use Rattle.engine.specs.Held.{Area, map_in}
use Rattle.engine.proofs.Area.{there_live}
use Rattle.engine.proofs.Parts.{successor_in}

pub ring_good : {D : ℕ} {m : Map} → Good D m → (k : Kind) → Good D (record { live = m.live; next = cycles_of k m })
ring_good G contraction = G
ring_good G removal = good_dual G

module _ {D n : ℕ} {w : List ℕ} (A : Area D n w) where
  abbrev past : List ℕ
  past = past_in D n w

  small : (x : ℕ) → T (live D past x) → x < D
  small x h = ((live_iff D past x).0 h).0

  map_next : (x : ℕ) → T (live D past x) → (map_in D n w).next x ≡ successor w x
  map_next x h = next_entry A.stands x h ∙ successor_in D w x (small x h)

  -- THE DART AFTER A SURVIVOR IS THE MATHEMATICS' OWN
  pub around_next : (k : ℕ) → k ≤ 1 → (x : ℕ) → T (live D past x) → around k w x ≡ cycles_of (kind_of k) (map_in D n w) x
  unfolding around kind_of
  around_next zero l x h = sym (face_at A.stands.good x h ∙ map_next (partner x) (partner_live A.stands.good x h))
  around_next (suc zero) l x h = sym (map_next x h)
  around_next (suc (suc k)) l x h = absurd (omega arith)

  step_test : (x : ℕ) → (ltb x D && there D w x) ≡ live D past x
  step_test x = T-ext (ltb x D && there D w x) (live D past x)
      (λ t. rw (there_live A x (ltb→lt x D (and_left (ltb x D) (there D w x) t))) at (and_right (ltb x D) (there D w x) t))
      (λ t. and_intro (ltb x D) (there D w x) (lt→ltb x D (small x t)) (rw (there_live A x (small x t)) t))

  pub step_ring : (k : ℕ) → k ≤ 1 → step_in D k w ≡ cycles_of (kind_of k) (map_in D n w)
  unfolding step_in
  step_ring k l = fun_ext (λ x. rw (step_test x) (go x (T? (live D past x))))
    where
      go : (x : ℕ) → Dec (T (live D past x)) → pick (live D past x) (around k w x) x ≡ cycles_of (kind_of k) (map_in D n w) x
      go x (yes h) = rw (T→true (live D past x) h) (around_next k l x h)
      go x (no h) = rw (not_T→false (live D past x) h) (sym ((ring_good A.stands.good (kind_of k)).gone x h))

  -- THE STEPS ARE A PERMUTATION
  pub step_perm : (k : ℕ) → k ≤ 1 → Perm D (step_in D k w)
  step_perm k l = rw (step_ring k l) (ring_good A.stands.good (kind_of k)).perm
