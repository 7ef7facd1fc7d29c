-- `operations::cycles::replay` meets its contract: what is left of the replay at each turn answers the same, and joins the same, as the whole.
--
--   Replaying D n k w₀ w i == w is w₀ after the first i operations: the replay from here is the replay from the start
--   turn_head              == the operations that are left: this one, h, and those after it
--   turn_other             == h is of the other kind
--   turn_apart             == h finds two roots, which are joined
--   turn_together          == h finds one root: the answer is no
--   replay_ends            == none is left: the answer is yes
use mathlib.Core.Bool.{Bool, true, false}
use mathlib.Core.List.{List, ◌∷◌}
use mathlib.Core.Logic.{◌≢◌}
use mathlib.Core.Path.{◌≡◌, refl, sym, ap, ◌∙◌}
use Prim.Native.Nat.{ℕ, ◌+◌, ◌*◌, ◌/◌, ◌%◌, ◌≤◌, ◌<◌}
use native.Mathlib.Omega.{arith}
use lib.ListN.{get_or}
use Rattle.permutations.specs.Partner.{partner}
use Rattle.permutations.proofs.PartnerLemmas.{partner_below}
use Rattle.area.specs.Area.{Room}
use Rattle.area.proofs.Parts.{part_cons, part_none}
use Rattle.operations.specs.Trees.{rooted, Joined}
use Rattle.operations.specs.Replay.{rejoined, replayed, Numbered, Replayed}
use Rattle.operations.proofs.Outside.{outside_trans, outside_rest}
use Rattle.operations.proofs.Replay.{replay_other, rejoin_other, replay_together, replay_apart, rejoin_apart}
use Rattle.operations.proofs.cycles.replay.Invariants.{left, Replaying}
use Rattle.operations.proofs.cycles.replay.Goals as goal
use Rattle.operations.proofs.cycles.replay.Goals.{then-h-k+else-not-join, else-h-k}

module _ {D n k : ℕ} {w₀ w : List ℕ} {i : ℕ} (room : Room D w₀) (numbered : Numbered D n w₀) (now : Replaying D n k w₀ w i) (more : i < n)
    {h : ℕ} (read : h ≡ get_or w (3 * D + i) 0) where
  there : h ≡ get_or w₀ (3 * D + i) 0
  there = read ∙ outside_rest now.outside i

  of_dart : h / 2 < D
  of_dart = omega (arith, there, numbered.each i more)

  of_partner : partner (h / 2) < D
  of_partner = partner_below D (h / 2) of_dart room.even

  turn_head : left D n w₀ i ≡ h ∷ left D n w₀ (i + 1)
  turn_head =
      let e : 3 * D + i + 1 ≡ 3 * D + (i + 1) = omega arith in
      part_cons (3 * D + i) (3 * D + n) w₀ (omega arith) (omega arith)
      ∙ rw (← there, e) refl

  turn_other : h % 2 ≢ k → Replaying D n k w₀ w (i + 1)
  turn_other other =
      record {
        low = omega arith;
        outside = now.outside;
        falls = now.falls;
        answer = now.answer ∙ ap (replayed k (rooted D w)) turn_head ∙ replay_other k (rooted D w) h (left D n w₀ (i + 1)) other;
        roots = now.roots ∙ ap (rejoined k (rooted D w)) turn_head ∙ rejoin_other k (rooted D w) h (left D n w₀ (i + 1)) other;
      }

  module _ (same : h % 2 ≡ k) {w' : List ℕ} {r : Bool} (j : Joined D w w' (h / 2) (partner (h / 2)) r) where
    turn_apart : r ≡ true → Replaying D n k w₀ w' (i + 1)
    turn_apart two =
        record {
          low = omega arith;
          outside = outside_trans now.outside j.outside;
          falls = j.falls;
          answer = now.answer ∙ ap (replayed k (rooted D w)) turn_head
              ∙ replay_apart k (rooted D w) h (left D n w₀ (i + 1)) same (sym two ∙ j.answer)
              ∙ ap (λ (R : ℕ → ℕ). replayed k R (left D n w₀ (i + 1))) (sym j.roots);
          roots = now.roots ∙ ap (rejoined k (rooted D w)) turn_head
              ∙ rejoin_apart k (rooted D w) h (left D n w₀ (i + 1)) same
              ∙ ap (λ (R : ℕ → ℕ). rejoined k R (left D n w₀ (i + 1))) (sym j.roots);
        }

    turn_together : r ≡ false → Replayed D n k w₀ w' false
    turn_together one =
        record {
          outside = outside_trans now.outside j.outside;
          falls = j.falls;
          answer = sym (now.answer ∙ ap (replayed k (rooted D w)) turn_head
              ∙ replay_together k (rooted D w) h (left D n w₀ (i + 1)) same (sym one ∙ j.answer));
          roots = λ e. let z : ◌≡◌ {A = ℕ} 0 1 = cc in absurd (omega arith);
        }

replay_ends : {D n k : ℕ} {w₀ w : List ℕ} {i : ℕ} → Replaying D n k w₀ w i → n ≤ i → Replayed D n k w₀ w true
unfolding replayed rejoined
replay_ends {D} {n} {k} {w₀} {w} {i} now none =
    let e = part_none (3 * D + i) (3 * D + n) w₀ (omega arith) in
    record {
      outside = now.outside;
      falls = now.falls;
      answer = sym (now.answer ∙ ap (replayed k (rooted D w)) e);
      roots = λ _. sym (now.roots ∙ ap (rejoined k (rooted D w)) e);
    }

pub join-requires-clause-p_lt_d : goal.join-requires-clause-p_lt_d
join-requires-clause-p_lt_d c =
    let p = of_dart c.requires.room c.requires.numbered c.loop-i.invariant c.loop-i-test.true c.at-h.ensures in
    let q = of_partner c.requires.room c.requires.numbered c.loop-i.invariant c.loop-i-test.true c.at-h.ensures in
    (p, rw c.partner-q.ensures q)

pub returns-then-not-join : goal.returns-then-not-join
returns-then-not-join c =
    rw c.bit-k.ensures at
    (turn_together c.requires.room c.requires.numbered c.loop-i.invariant
    c.loop-i-test.true c.at-h.ensures c.if-h-k.true
    (rw c.partner-q.ensures at c.join.ensures) c.if-not-join.true)

pub loop-i-preserved : goal.loop-i-preserved
loop-i-preserved c =
    let turn = turn_other c.requires.room c.requires.numbered c.loop-i.invariant c.loop-i-test.true c.at-h.ensures in
    elim c.if-h-k.branch [
      | then-h-k+else-not-join w ↦ rw w.work-is (turn_apart c.requires.room c.requires.numbered c.loop-i.invariant c.loop-i-test.true c.at-h.ensures w.if-h-k.true
          (rw w.partner-q.ensures at w.join.ensures) w.if-not-join.false)
      | else-h-k w ↦ rw w.work-is (turn w.if-h-k.false)
    ]

pub returns : goal.returns
returns c = rw c.bit-k.ensures at (replay_ends c.loop-i.invariant c.loop-i-test.false)
