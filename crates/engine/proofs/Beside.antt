-- Work areas that differ in the forest's part only hold the same map.
--   beside_table  == they hold one table
--   beside_past   == and one past
--   beside_area   == where w holds a map, so does v
--   beside_rooted == and what the roots say of the one they say of the other
use mathlib.Core.List.{List, reverse}
use mathlib.Core.Path.{◌≡◌, sym, ap, ◌∙◌}
use Prim.Native.Nat.{ℕ, ◌+◌, ◌-◌, ◌*◌, ◌<◌}
use native.Mathlib.Omega.{arith}
use lib.ListN.{get_or, take}
use lib.Seq.{take-take, get_or-take}
use Rattle.area.specs.Area.{prev, table_in, past_in}
use Rattle.operations.specs.Trees.{Outside}
use Rattle.laws.proofs.bridge.Standing.{live_iff}
use Rattle.engine.specs.Held.{Area, Rooted}
use Rattle.engine.proofs.Area.{area_of, room_kept}

module _ {D : ℕ} {w v : List ℕ} (B : Outside D w v) where
  pub beside_table : table_in D v ≡ table_in D w
  beside_table = sym (take-take D (2 * D) v (omega arith)) ∙ ap (take D) B.front ∙ take-take D (2 * D) w (omega arith)

  pub beside_past : (n : ℕ) → past_in D n v ≡ past_in D n w
  beside_past n = ap (λ l. reverse (take (3 * D + n - 3 * D) l)) B.rest

  beside_prev : (x : ℕ) → x < D → prev D v x ≡ prev D w x
  unfolding prev
  beside_prev x h =
      sym (get_or-take (2 * D) v (D + x) 0 (omega arith)) ∙ ap (λ l. get_or l (D + x) 0) B.front ∙ get_or-take (2 * D) w (D + x) 0 (omega arith)

  -- THE OTHER HOLDS THE MAP TOO
  pub beside_area : {n : ℕ} → Area D n w → Area D n v
  beside_area {n} A =
      area_of n v (beside_past n) (room_kept w v B.size A.room) A.few A.numbers (rw beside_table A.stands)
      (rw beside_table (λ x h. beside_prev x ((live_iff D (past_in D n w) x).0 h).0 ∙ A.known x h))
      (λ x l h. rw (beside_prev x l) (A.gones x l h))

  pub beside_rooted : (n k : ℕ) {R : ℕ → ℕ} → Rooted D n k w R → Rooted D n k v R
  beside_rooted n k Λ = rw (beside_table, beside_past n) Λ
