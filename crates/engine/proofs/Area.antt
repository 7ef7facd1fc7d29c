-- A work area that holds a map.
--   area_of     == an area whose past is told
--   noted_known == where each survivor is noted before its successor, the dart before is known
--   past_last   == the past begins with the last operation
--   area_sound  == every number in it is in bounds
--   there_live  == what is there survives
use mathlib.Core.List.{List, ◌∷◌}
use mathlib.Core.Path.{◌≡◌, sym, ap, ◌∙◌}
use Prim.Native.Nat.{ℕ, zero, suc, ◌+◌, ◌*◌, ◌/◌, ◌≤◌, ◌<◌}
use native.Mathlib.Decide.{ℕ_discrete}
use native.Mathlib.Nat.{not-suc-le-zero}
use native.Mathlib.Omega.{arith}
use lib.Dec.{T, ltb, ltb→lt, lt→ltb}
use lib.ListN.{length}
use Rattle.permutations.specs.Choice.{T?, T-ext}
use Rattle.darts.specs.Map.{successor, live, before}
use Rattle.darts.specs.Tests.{numbered}
use Rattle.area.specs.Area.{prev, there, stamp, table_in, past_in, Room}
use Rattle.operations.specs.Back.{Sound}
use Rattle.laws.specs.Standing.{Standing}
use Rattle.laws.proofs.bridge.Standing.{live_iff, entry_live}
use Rattle.laws.proofs.bridge.Before.{before_live, before_leads, before_only}
use Rattle.engine.specs.Held.{Area}
use Rattle.engine.proofs.Edges.{numbered_cons}
use Rattle.engine.proofs.Parts.{Noted, successor_in, past_suc}

pub room_kept : {D : ℕ} (w v : List ℕ) → length v ≡ length w → Room D w → Room D v
room_kept w v e r = record { even = r.even; some = r.some; small = r.small; fits = rw e r.fits }

pub area_of : {D : ℕ} {past : List ℕ} (n : ℕ) (w : List ℕ) → past_in D n w ≡ past → Room D w → n ≤ D / 2 → T (numbered D past) → Standing D (table_in D w) past
    → ((x : ℕ) → T (live D past x) → prev D w x ≡ before D (table_in D w) past x) → ((x : ℕ) → x < D → ¬ T (live D past x) → D ≤ prev D w x) → Area D n w
area_of n w e room few numbers stands known gones = record {
  room = room;
  few = few;
  numbers = rw e numbers;
  stands = rw e stands;
  known = rw e known;
  gones = rw e gones;
}

pub noted_known : {D : ℕ} {past : List ℕ} (w : List ℕ) → Standing D (table_in D w) past → ((z : ℕ) → T (live D past z) → Noted D w z)
    → (x : ℕ) → T (live D past x) → prev D w x ≡ before D (table_in D w) past x
noted_known {D} {past} w S notes x h =
    let z : ℕ = before D (table_in D w) past x in
    let l : T (live D past z) = before_live S x h in
    let e : successor w z ≡ x = sym (successor_in D w z ((live_iff D past z).0 l).0) ∙ before_leads S x h in
    rw e at (notes z l)

pub past_last : {D n : ℕ} {w : List ℕ} → Area D (suc n) w → past_in D (suc n) w ≡ stamp D w n ∷ past_in D n w
past_last {D} {n} {w} A = past_suc D n w (omega (arith, A.few, A.room.fits))

module _ {D n : ℕ} {w : List ℕ} (A : Area D n w) where
  abbrev table : List ℕ
  table = table_in D w

  abbrev past : List ℕ
  past = past_in D n w

  small : (x : ℕ) → T (live D past x) → x < D
  small x h = ((live_iff D past x).0 h).0

  pub prev_live : (x : ℕ) → T (live D past x) → T (live D past (prev D w x))
  prev_live x h = rw (A.known x h) (before_live A.stands x h)

  pub prev_leads : (x : ℕ) → T (live D past x) → successor w (prev D w x) ≡ x
  prev_leads x h =
      sym (successor_in D w (prev D w x) (small (prev D w x) (prev_live x h)))
      ∙ rw (A.known x h) (before_leads A.stands x h)

  pub leads_live : (x : ℕ) → T (live D past x) → T (live D past (successor w x))
  leads_live x h = rw (← (successor_in D w x (small x h))) (entry_live A.stands x h)

  pub live_noted : (z : ℕ) → T (live D past z) → Noted D w z
  live_noted z h =
      A.known (successor w z) (leads_live z h)
      ∙ sym (before_only A.stands (successor w z) z h (successor_in D w z (small z h)))

  -- no two survivors lead to one dart
  pub leads_one : (x y : ℕ) → T (live D past x) → T (live D past y) → successor w x ≡ successor w y → x ≡ y
  leads_one x y h i e = sym (live_noted x h) ∙ ap (prev D w) e ∙ live_noted y i

  -- WHAT IS THERE SURVIVES
  pub there_live : (x : ℕ) → x < D → there D w x ≡ live D past x
  unfolding there
  there_live x h = T-ext (ltb (prev D w x) D) (live D past x)
      (λ t. from (ltb→lt (prev D w x) D t) (T? (live D past x)))
      (λ t. lt→ltb (prev D w x) D (small (prev D w x) (prev_live x t)))
    where
      from : prev D w x < D → Dec (T (live D past x)) → T (live D past x)
      from l (yes k) = k
      from l (no k) = absurd (omega (arith, A.gones x h k))

-- ---- in bounds

numbers_below : (D n : ℕ) (w : List ℕ) → 3 * D + n ≤ length w → T (numbered D (past_in D n w)) → (i : ℕ) → i < n → stamp D w i < 2 * D
numbers_below D zero w fits t i l = absurd (not-suc-le-zero l)
numbers_below D (suc n) w fits t i l =
    let k = (numbered_cons D (stamp D w n) (past_in D n w)).0 (rw (past_suc D n w (omega arith)) at t) in
    go (ℕ_discrete i n) k.0 (λ m. numbers_below D n w (omega arith) k.1.1 i m)
  where
    go : Dec (i ≡ n) → stamp D w n < 2 * D → (i < n → stamp D w i < 2 * D) → stamp D w i < 2 * D
    go (yes e) last rest = rw e last
    go (no e) last rest = rest (omega arith)

-- EVERY NUMBER IS IN BOUNDS
pub area_sound : {D n : ℕ} {w : List ℕ} → Area D n w → Sound D n w
unfolding stamp successor
area_sound {D} {n} {w} A = record {
  mapped = record { room = A.room; darts = λ x h. rw (← (successor_in D w x h)) (A.stands.inside x h) };
  few = omega (arith, A.few);
  numbers = numbers_below D n w (omega (arith, A.few, A.room.fits)) A.numbers;
}
