-- `engine::check::decide` meets its contract: each no refutes one test, and the yes is that of the last.
--   last_coming == the kind that is replayed last is the coming one, where one is coming
use mathlib.Core.Path.{◌≡◌, refl, sym, ◌∙◌}
use Prim.Native.Nat.{◌≤◌}
use native.Mathlib.Omega.{arith}
use Rattle.std.proofs.Common.{Option, Some, None}
use Rattle.std.specs.Option.{unwrap_or}
use Rattle.darts.specs.Kinds.{bit}
use Rattle.darts.specs.declared.Kind.{Kind}
use Rattle.darts.specs.declared.Kind.TheVariants.{Contract}
use Rattle.area.specs.Shape.{state_with}
use Rattle.engine.specs.Checks.{coming_of}
use Rattle.engine.proofs.Area.{area_sound}
use Rattle.engine.proofs.Decides.{shape_no, back_no, all_taken, decided, decided_takes, decided_are, decided_coming}
use Rattle.engine.proofs.check.decide.Goals as goal

last_coming : (coming : Option Kind) {k : Kind} → k ≡ unwrap_or coming Contract → coming_of coming ≤ 1 → bit k ≡ coming_of coming
last_coming (Some k) e l = rw e refl
last_coming None e l = absurd (omega arith)

pub returns-then-not-shape : goal.returns-then-not-shape
returns-then-not-shape c = record { decided = shape_no (state_with c.args.state) c.requires c.shape.ensures c.if-not-shape.true; finds_cycles = tt }

pub decide_contracted-requires : goal.decide_contracted-requires
decide_contracted-requires c =
    record {
      area = c.requires;
      work_value = sym c.shape.ensures ∙ c.if-not-shape.false;
      work_value_2 = (c.only_contractions.ensures c.if-only_contractions.true).1;
    }

pub returns-then-only_contractions : goal.returns-then-only_contractions
returns-then-only_contractions c =
    let only = c.only_contractions.ensures c.if-only_contractions.true in
    record { decided = decided_coming only.0 c.decide_contracted.ensures.decided; finds_cycles = c.decide_contracted.ensures.finds_cycles }

pub take_back_last-requires : goal.take_back_last-requires
take_back_last-requires c = record { sound = area_sound c.requires; c_le_n = omega arith }

pub returns-then-not-take_back_last : goal.returns-then-not-take_back_last
returns-then-not-take_back_last c =
    record { decided = back_no (state_with c.args.state) c.requires c.take_back_last.ensures c.if-not-take_back_last.true; finds_cycles = tt }

pub try_both-requires : goal.try_both-requires
try_both-requires c =
    let base = all_taken (state_with c.args.state) c.requires c.take_back_last.ensures c.if-not-take_back_last.false in
    record { area = base.0; numbered = base.1 }

pub returns-in_err-base : goal.returns-in_err-base
returns-in_err-base c =
    record {
      decided = rw c.from_residual.ensures
          (decided_coming (last_coming c.args.coming c.unwrap_or.ensures)
          (decided (state_with c.args.state) c.requires c.take_back_last.ensures c.if-not-take_back_last.false c.shape.ensures
          c.if-not-shape.false c.in_err-base.ensures.both_tried));
      finds_cycles = rw c.from_residual.ensures tt;
    }

pub present-requires : goal.present-requires
present-requires c =
    let M = c.in_ok-base.ensures in
    decided_takes (state_with c.args.state) c.requires c.take_back_last.ensures c.if-not-take_back_last.false c.shape.ensures
    c.if-not-shape.false M.both_tried refl M.finds_cycles

pub returns : goal.returns
returns c =
    let M = c.in_ok-base.ensures in record {
      decided = decided_coming (last_coming c.args.coming c.unwrap_or.ensures)
          (decided (state_with c.args.state) c.requires c.take_back_last.ensures c.if-not-take_back_last.false c.shape.ensures
          c.if-not-shape.false M.both_tried);
      finds_cycles = decided_are (state_with c.args.state) c.requires c.take_back_last.ensures c.if-not-take_back_last.false c.shape.ensures
          c.if-not-shape.false M.both_tried refl M.finds_cycles c.present.ensures;
    }
