use Rattle.spv_tree.specs.declared.body.Item as item
use Rattle.spv_tree.proofs.Listed.{loop-target}
use Rattle.spv_tree.proofs.Sequences.{choice-none, never, op-none, split-none, switch-none}
use Rattle.spv_tree.proofs.flattening.target_of_item.Goals as goal

pub unreachable-requires : goal.unreachable-requires
unreachable-requires c = never c.args.item.now (item.Op c.in-Op.field-0) c.in-Op.is (op-none c.in-Op.field-0) c.requires

pub unreachable-requires-in-Choice : goal.unreachable-requires-in-Choice
unreachable-requires-in-Choice c = never c.args.item.now (item.Choice c.in-Choice.field-0) c.in-Choice.is (choice-none c.in-Choice.field-0) c.requires

pub unreachable-requires-in-Switch : goal.unreachable-requires-in-Switch
unreachable-requires-in-Switch c = never c.args.item.now (item.Switch c.in-Switch.field-0) c.in-Switch.is (switch-none c.in-Switch.field-0) c.requires

pub unreachable-requires-in-Split : goal.unreachable-requires-in-Split
unreachable-requires-in-Split c = never c.args.item.now (item.Split c.in-Split.field-0) c.in-Split.is (split-none c.in-Split.field-0) c.requires

pub returns : goal.returns
returns c = loop-target c.args.item.now c.in-Loop.turn c.in-Loop.is
