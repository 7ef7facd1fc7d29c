-- `lookup::passes::take_kind` meets its contract: the trees change nothing that is held.
use Rattle.darts.specs.Kinds.{kind_is}
use Rattle.darts.proofs.Bits.{bit_small}
use Rattle.engine.proofs.Around.{step_perm}
use Rattle.engine.proofs.Labelled.{labelled_ready}
use Rattle.lookup.proofs.Labelling.{labelled_passed}
use Rattle.lookup.proofs.passes.take_kind.Goals as goal

pub label-requires : goal.label-requires
label-requires c = record { room = c.requires.room; perm = step_perm c.requires _ (bit_small c.args.kind) }

pub pass-requires : goal.pass-requires
pass-requires c = labelled_ready c.requires (bit_small c.args.kind) c.label.ensures.labelled

pub returns : goal.returns
returns c = labelled_passed c.requires (bit_small c.args.kind) c.label.ensures.labelled (kind_is c.args.kind) _ _ c.pass.ensures
