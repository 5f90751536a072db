use Rattle.spv_tree.proofs.Listed.{exit-target, block-target, entered-target}
use Rattle.spv_tree.proofs.flattening.target_of.Goals as goal

pub returns-in-Exit : goal.returns-in-Exit
returns-in-Exit c = exit-target c.args.arm.now c.in-Exit.exit c.in-Exit.is

pub returns-in-Block : goal.returns-in-Block
returns-in-Block c = block-target c.args.arm.now c.in-Block.block c.in-Block.is

pub returns-in-Loop : goal.returns-in-Loop
returns-in-Loop c = entered-target c.args.arm.now c.in-Loop.entered c.deref.result.now c.in-Loop.is c.deref.ensures
