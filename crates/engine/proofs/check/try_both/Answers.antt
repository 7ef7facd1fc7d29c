-- `engine::check::try_both` meets its contract: replaying one kind changes the forest only, so that the other finds the same base.
--   other_tried == the other kind, whose forest goes
use mathlib.Core.Bool.{Bool}
use mathlib.Core.List.{List}
use mathlib.Core.Path.{◌≡◌, refl}
use Prim.Native.Nat.{ℕ, ◌-◌}
use Rattle.darts.specs.Kinds.{bit, other}
use Rattle.darts.specs.declared.Kind.{Kind}
use Rattle.darts.proofs.Bits.{bit_small, bit_other}
use Rattle.engine.specs.Checks.{KindTried}
use Rattle.engine.proofs.Beside.{beside_area}
use Rattle.engine.proofs.Counts.{both_counted, both_counted_back}
use Rattle.engine.proofs.Tries.{outside_numbered, kind_grown, both_no, both_yes}
use Rattle.engine.proofs.check.try_both.Goals as goal

other_tried : {D n : ℕ} {w v : List ℕ} {q : Bool} (k : Kind) {o : Kind} → o ≡ other k → KindTried D n (bit o) (bit o) w v q
    → KindTried D n (1 - bit k) (bit k) w v q
other_tried k e K = kind_grown (bit k) (rw (e, bit_other k) at K)

pub returns-in_default : goal.returns-in_default
returns-in_default c =
    let K = c.in_default.ensures in
    record {
      both_tried = both_no (bit_small c.args.kind) (λ _. refl) (other_tried c.args.kind c.other.ensures K.kind_tried) c.requires.area refl;
      finds_cycles = tt;
    }

pub try_kind-requires-2 : goal.try_kind-requires-2
try_kind-requires-2 c =
    let o = c.in-Ok.ensures.kind_tried.outside in
    record { area = beside_area o c.requires.area; numbered = outside_numbered o c.requires.numbered }

pub returns-in_default-try_kind : goal.returns-in_default-try_kind
returns-in_default-try_kind c =
    let K = c.in-Ok.ensures in
    let M = c.in_default-try_kind.ensures in
    record {
      both_tried = both_yes (bit_small c.args.kind) (λ _. refl) (other_tried c.args.kind c.other.ensures K.kind_tried) refl M.kind_tried;
      finds_cycles = tt;
    }

pub returns-in-Contract : goal.returns-in-Contract
returns-in-Contract c =
    let K = c.in-Ok.ensures in
    let M = c.in-Ok-try_kind.ensures in
    record {
      both_tried = both_yes (bit_small c.args.kind) (λ _. refl) (other_tried c.args.kind c.other.ensures K.kind_tried) refl M.kind_tried;
      finds_cycles = both_counted K.kind_tried.outside (rw (c.other.ensures, c.in-Contract.is) at K.cycles_value) (rw c.in-Contract.is at M.cycles_value);
    }

pub returns-in-Remove : goal.returns-in-Remove
returns-in-Remove c =
    let K = c.in-Ok.ensures in
    let M = c.in-Ok-try_kind.ensures in
    record {
      both_tried = both_yes (bit_small c.args.kind) (λ _. refl) (other_tried c.args.kind c.other.ensures K.kind_tried) refl M.kind_tried;
      finds_cycles = both_counted_back K.kind_tried.outside (rw (c.other.ensures, c.in-Remove.is) at K.cycles_value) (rw c.in-Remove.is at M.cycles_value);
    }
