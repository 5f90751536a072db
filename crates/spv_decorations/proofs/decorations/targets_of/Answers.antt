use Rattle.std.proofs.Common.{arith}
use Rattle.spv_module.specs.View.{seen}
use Rattle.spv_decorations.proofs.Reading.{has-none_targets, has-more_targets}
use Rattle.spv_decorations.proofs.decorations.targets_of.Goals as goal

pub instructions-init : goal.instructions-init
instructions-init c = has-none_targets c.with_hasher-targets.result c.with_hasher-targets.ensures.empty

pub instructions-preserved : goal.instructions-preserved
instructions-preserved c =
    has-more_targets c.instructions.targets c.add_target.new.targets c.args.insts.now c.instructions.k (seen c.at.result) c.instructions.invariant c.in_ok-add_target.ensures (omega arith) c.at.ensures
