use Rattle.std.proofs.Common.{◌≡◌, max, List, subst}
use Rattle.spv_bodies.specs.Bodies.{Body, depth, depth_of_arms}
use Rattle.spv_tree.specs.declared.body.Arm.{Arm}
use Rattle.spv_tree.specs.Tree.{arms_of}
use Rattle.spv_tree.specs.Depth.{capped}
use Rattle.spv_tree.proofs.Depths.{exit-depth, block-depth, entered-depth, arms-depth, choice-depth, op-depth, split-depth, items-depth, loop-depth, branch-depth, leaving-depth, switch-depth}
use Rattle.spv_tree.proofs.depth.+depth.Goals as goal

pub depth_of_arm-returns-in-Exit : goal.depth_of_arm-returns-in-Exit
depth_of_arm-returns-in-Exit t c = exit-depth c.args.arm.now c.in-Exit.field-0 c.in-Exit.is

pub depth_of_arm-returns-in-Block : goal.depth_of_arm-returns-in-Block
depth_of_arm-returns-in-Block t c = block-depth c.args.arm.now c.in-Block.block c.depth_of_sequence.result c.in-Block.is c.depth_of_sequence.ensures

pub depth_of_arm-returns-in-Loop : goal.depth_of_arm-returns-in-Loop
depth_of_arm-returns-in-Loop t c =
    entered-depth c.args.arm.now c.in-Loop.entered c.deref.result.now c.depth_of_loop.result c.depth_of_sequence-in-Loop.result c.greater.result c.in-Loop.is c.deref.ensures c.depth_of_loop.ensures
    c.depth_of_sequence-in-Loop.ensures c.greater.ensures

pub depth_of_arms-arms-preserved : goal.depth_of_arms-arms-preserved
depth_of_arms-arms-preserved t c =
    arms-depth c.args.arms.now c.arms.arm-index c.arm-item.result c.arms.depth c.depth_of_arm.result c.greater-depth.result c.arms-test.true c.arm-item.is c.arms.invariant c.depth_of_arm.ensures c.greater-depth.ensures

pub depth_of_choice-returns : goal.depth_of_choice-returns
depth_of_choice-returns t c =
    choice-depth c.args.choice.now c.around.result c.depth_of_arm.result c.depth_of_arm-2.result c.depth_of_arm.ensures c.depth_of_arm-2.ensures c.around.ensures

pub depth_of_item-returns-in-Op : goal.depth_of_item-returns-in-Op
depth_of_item-returns-in-Op t c = op-depth c.args.item.now c.in-Op.field-0 c.in-Op.is

pub depth_of_item-returns-in-Split : goal.depth_of_item-returns-in-Split
depth_of_item-returns-in-Split t c = split-depth c.args.item.now c.in-Split.field-0 c.in-Split.is

pub depth_of_items-items-preserved : goal.depth_of_items-items-preserved
depth_of_items-items-preserved t c =
    items-depth c.args.items.now c.items.item-index c.item-item.result c.items.depth c.depth_of_item.result c.greater-depth.result c.items-test.true c.item-item.is c.items.invariant c.depth_of_item.ensures c.greater-depth.ensures

pub depth_of_loop-returns : goal.depth_of_loop-returns
depth_of_loop-returns t c =
    loop-depth c.args.turn.now c.around.result c.depth_of_opening.result c.depth_of_sequence.result c.depth_of_opening.ensures c.depth_of_sequence.ensures c.around.ensures

pub depth_of_opening-returns-in-Branch : goal.depth_of_opening-returns-in-Branch
depth_of_opening-returns-in-Branch t c = branch-depth c.args.opening.now c.in-Branch.arm c.depth_of_arm.result c.in-Branch.is c.depth_of_arm.ensures

pub depth_of_opening-returns-in-Split : goal.depth_of_opening-returns-in-Split
depth_of_opening-returns-in-Split t c = leaving-depth c.args.opening.now c.in-Split.leaving c.depth_of_arm-in-Split.result c.in-Split.is c.depth_of_arm-in-Split.ensures

pub depth_of_switch-returns : goal.depth_of_switch-returns
depth_of_switch-returns t c =
    switch-depth c.args.switch.now c.around.result c.depth_of_arm.result c.depth_of_arms.result c.depth_of_arm.ensures
    (subst (λ (others : List Arm). (b : Body) → capped (depth_of_arms (arms_of b others)) ≡ max (capped (depth b)) c.depth_of_arms.result) c.as_slice.ensures c.depth_of_arms.ensures)
    c.around.ensures
