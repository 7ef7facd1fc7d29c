-- The map that a table holds: its survivors, and where they lead.
--   op_of k p    == the operation of kind k on the edge of p, as the mathematics has it
--   live_iff    == live: a dart, and a survivor
--   next_entry, entry_live, entry_one == a survivor leads where its entry says, to a survivor, and no other leads there
use mathlib.Core.List.{List}
use mathlib.Core.Path.{◌≡◌, sym, ◌∙◌}
use Prim.Native.Nat.{ℕ, ◌<◌}
use mathlib.Core.Logic.Iff
use mathlib.Core.Logic.{◌↔◌}
use lib.Dec.{T, ltb, ltb→lt, lt→ltb}
use Rattle.permutations.specs.Choice.{T→true, and_iff}
use Rattle.permutations.specs.Perm.{inj}
use Rattle.permutations.specs.Map.{next_live}
use Rattle.permutations.proofs.Legal.{Op, Contract, Remove}
unfoldable pub use Rattle.darts.specs.Map.{live}
use Rattle.darts.specs.Map.{successor, survives}
use Rattle.darts.specs.Operation.{Kind, contraction, removal}
use Rattle.laws.specs.Standing.{map_of, Standing}

abbrev pub op_of : Kind → ℕ → Op
op_of contraction p = Contract p
op_of removal p = Remove p

-- live: a dart, and a survivor
pub live_iff : (D : ℕ) (past : List ℕ) (x : ℕ) → T (live D past x) ↔ ((x < D) × T (survives past x))
unfolding live
live_iff D past x = and_iff (ltb x D) (survives past x) (ltb→lt x D, lt→ltb x D) (λ h. Iff.rfl)

-- ---- a survivor's entry

module _ {D : ℕ} {t past : List ℕ} (S : Standing D t past) (x : ℕ) (h : T (live D past x)) where
  -- a survivor leads, in the map, where its entry says
  pub next_entry : (map_of D t past).next x ≡ successor t x
  next_entry = rw (T→true (live D past x) h)

  pub entry_live : T (live D past (successor t x))
  entry_live = rw next_entry at (next_live S.good x h)

  -- no two survivors lead to one dart
  pub entry_one : (y : ℕ) → T (live D past y) → successor t x ≡ successor t y → x ≡ y
  entry_one y k e = inj S.good.perm (next_entry ∙ e ∙ sym (rw (T→true (live D past y) k)))
