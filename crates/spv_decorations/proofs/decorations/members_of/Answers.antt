use Rattle.std.proofs.Common.{arith}
use Rattle.spv_module.specs.View.{seen}
use Rattle.spv_decorations.proofs.Reading.{has-none_members, has-more_members}
use Rattle.spv_decorations.proofs.decorations.members_of.Goals as goal

pub instructions-init : goal.instructions-init
instructions-init c = has-none_members c.with_hasher-members.result c.with_hasher-members.ensures.empty

pub instructions-preserved : goal.instructions-preserved
instructions-preserved c =
    has-more_members c.instructions.members c.add_member.new.members c.args.insts.now c.instructions.k (seen c.at.result) c.instructions.invariant c.in_ok-add_member.ensures (omega arith) c.at.ensures
