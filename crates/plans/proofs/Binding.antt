-- Each dart of a base noted before its successor.
--   unbound     == before the first dart nothing is noted
--   entry_below == the next dart's entry is a dart
--   binds       == one dart more is noted: no dart that was noted leads to the same
--   bound_all   == after the last all are
use mathlib.Core.List.{List, []}
use mathlib.Core.Logic.{◌≢◌}
use mathlib.Core.Path.{◌≡◌, refl, sym, ap, ◌∙◌}
use Prim.Native.Nat.{ℕ, ◌+◌, ◌*◌, ◌≤◌, ◌<◌}
use native.Mathlib.Decide.{ℕ_discrete}
use native.Mathlib.Omega.{arith}
use lib.ListN.{get_or, set, length-set}
use lib.Seq.{get_or-set_same, get_or-set_other, take-set-le, drop-set-lt}
use Rattle.darts.specs.Map.{successor}
use Rattle.laws.specs.Standing.{Standing}
use Rattle.laws.proofs.bridge.Standing.{entry_one}
use Rattle.laws.proofs.bridge.Bases.{all_live}
use Rattle.area.specs.Area.{Room, prev, table_in}
use Rattle.engine.proofs.Parts.{successor_in}
use Rattle.plans.specs.Prepared.{Bound}

pub unbound : {D : ℕ} {w : List ℕ} → Bound D 0 w w
unbound = record { size = refl; table = refl; rest = refl; notes = λ z h. absurd (omega arith) }

module _ {D : ℕ} {w : List ℕ} (S : Standing D (table_in D w) []) {n : ℕ} {v : List ℕ} (b : Bound D n w v) where
  entry : (z : ℕ) → z < D → successor (table_in D w) z ≡ successor v z
  entry z h = ap (λ t. successor t z) (sym b.table) ∙ successor_in D v z h

  one : (x z : ℕ) → x < D → z < D → successor v x ≡ successor v z → x ≡ z
  one x z h k e = entry_one S x ((all_live D x).1 h) z ((all_live D z).1 k) (entry x h ∙ e ∙ sym (entry z k))

  module _ (more : n < D) where
    below : successor v n < D
    below = rw (entry n more) at (S.inside n more)

    pub entry_below : {r : ℕ} → r ≡ get_or v n 0 → r < D
    unfolding successor
    entry_below e = rw e below

    abbrev y : ℕ
    y = successor v n

    abbrev u : List ℕ
    u = set v (D + y) n

    same : (z : ℕ) → z < D → successor u z ≡ successor v z
    unfolding successor
    same z h = get_or-set_other v (D + y) z n 0 (omega arith)

    module _ (room : Room D w) where
      noted : (z : ℕ) → z < n + 1 → Dec (z ≡ n) → prev D u (successor v z) ≡ z
      unfolding prev
      noted z h (yes e) = rw e (get_or-set_same v (D + y) n 0 (omega (arith, below, b.size, room.fits)))
      noted z h (no i) =
          let other : successor v z ≢ y = λ e. i (one z n (omega arith) more e) in
          get_or-set_other v (D + y) (D + successor v z) n 0 (omega arith) ∙ b.notes z (omega arith)

      bind_next : Bound D (n + 1) w u
      bind_next = record {
        size = length-set v (D + y) n ∙ b.size;
        table = take-set-le D v (D + y) n (omega arith) ∙ b.table;
        rest = drop-set-lt (4 * D) v (D + y) n (omega (arith, below)) ∙ b.rest;
        notes = λ z h. rw (same z (omega arith)) (noted z h (ℕ_discrete z n));
      }

      pub binds : {r : ℕ} → r ≡ get_or v n 0 → Bound D (n + 1) w (set v (D + r) n)
      unfolding successor
      binds e = rw e bind_next

pub bound_all : {D n : ℕ} {w v : List ℕ} → Bound D n w v → D ≤ n → Bound D D w v
bound_all b h = record { size = b.size; table = b.table; rest = b.rest; notes = λ z k. b.notes z (omega arith) }
