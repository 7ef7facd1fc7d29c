-- An edge that may be done.
--   fine_live         == it survives
--   end_live          == with a dart its partner survives
--   numbers_one_more  == with its number the past passes tests 1 and 2
--   room_for_one_more == fewer operations than edges are done
use mathlib.Core.List.{List, ◌∷◌}
use mathlib.Core.Logic.{inl, inr}
use mathlib.Core.Path.{◌≡◌}
use Prim.Native.Nat.{ℕ, ◌*◌, ◌/◌, ◌<◌}
use native.Mathlib.Omega.{arith}
use lib.Dec.{T, T_not}
use Rattle.permutations.specs.Partner.{End}
use Rattle.permutations.specs.Map.{partner_live}
use Rattle.darts.specs.Map.{gone, survives, live}
use Rattle.darts.specs.Operation.{Kind, contraction, removal, lead, number}
use Rattle.darts.specs.Kernel.{judge}
use Rattle.darts.specs.Tests.{numbered}
use Rattle.laws.proofs.tests.Room.{numbered_room}
use Rattle.area.specs.Area.{table_in, past_in}
use Rattle.laws.specs.Standing.{Standing}
use Rattle.laws.proofs.bridge.Standing.{live_iff}
use Rattle.laws.proofs.bridge.Judged.{judge_legal}
use Rattle.laws.proofs.bridge.Numbers.{number_lead}
use Rattle.engine.specs.Held.{Area}
use Rattle.engine.proofs.Edges.{numbered_cons}
use Rattle.engine.proofs.Parts.{past_length}
use Rattle.laws.proofs.bridge.Lead.{lead_end}

pub fine_live : {D : ℕ} {t past : List ℕ} → Standing D t past → (k : Kind) (e : ℕ) → judge k D t past e ≡ 0 → T (live D past (2 * e))
fine_live S contraction e z = ((judge_legal S contraction e).0 z).lives
fine_live S removal e z = ((judge_legal S removal e).0 z).lives

pub end_live : {D : ℕ} {t past : List ℕ} → Standing D t past → {p x : ℕ} → End p x → T (live D past p) → T (live D past x)
end_live S (inl e) h = rw e h
end_live S {p} (inr e) h = rw e (partner_live S.good p h)

number_below : (k : Kind) (D p : ℕ) → p < D → number k p < 2 * D
unfolding number
number_below contraction D p h = omega arith
number_below removal D p h = omega arith

module _ {D n : ℕ} {w : List ℕ} (A : Area D n w) (k : Kind) (e : ℕ) (fine : judge k D (table_in D w) (past_in D n w) e ≡ 0) where
  abbrev past : List ℕ
  past = past_in D n w

  abbrev p : ℕ
  p = lead k (table_in D w) e

  pub lead_live : T (live D past p)
  lead_live = end_live A.stands (lead_end k (table_in D w) e) (fine_live A.stands k e fine)

  pub numbers_one_more : T (numbered D (number k p ∷ past))
  unfolding survives
  numbers_one_more =
      let i = (live_iff D past p).0 lead_live in
      (numbered_cons D (number k p) past).1 (number_below k D p i.0, (rw (number_lead k p) (T_not (gone past p) i.1), A.numbers))

  -- FEWER OPERATIONS THAN EDGES
  pub room_for_one_more : n < D / 2
  room_for_one_more =
      rw (past_length D n w (omega (arith, A.few, A.room.fits))) at (numbered_room D A.room.even (number k p ∷ past) numbers_one_more)
