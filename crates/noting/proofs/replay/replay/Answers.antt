-- `noting::replay::replay` meets its contract: what is left at each turn answers, joins and merges the same as the whole.
use native.Mathlib.Omega.{arith}
use Rattle.noting.proofs.Replaying.{replay_begin, replay_room, number_below, turn_on, turn_refused, replay_ends}
use Rattle.noting.proofs.replay.replay.Goals as goal

pub loop-t-init : goal.loop-t-init
loop-t-init c = replay_begin c.requires.falls c.requires.starts

pub step-requires : goal.step-requires
step-requires c =
    let l = c.loop-t.invariant in
    record {
      room = replay_room c.requires.room l;
      falls = l.falls;
      t_bound = (omega (arith, c.loop-t-test.true, c.requires.n_bound), number_below c.requires.numbered l c.loop-t-test.true c.at-h.ensures);
    }

pub loop-t-preserved : goal.loop-t-preserved
loop-t-preserved c =
    turn_on c.requires.room c.requires.falls c.requires.n_bound c.loop-t.invariant c.loop-t-test.true c.at-h.ensures c.step.ensures c.if-not-step.false

pub returns-then-not-step : goal.returns-then-not-step
returns-then-not-step c =
    turn_refused c.requires.room c.requires.falls c.requires.n_bound c.loop-t.invariant c.loop-t-test.true c.at-h.ensures c.step.ensures c.if-not-step.true

pub returns : goal.returns
returns c = replay_ends c.loop-t.invariant c.loop-t-test.false
