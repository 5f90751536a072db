use Rattle.std.proofs.Common.{◌≡◌, ◌++◌, List, OnOk, subst, ap, ◌∙◌}
use Rattle.spv_bodies.specs.Listing.{Branching}
use Rattle.spv_tree.specs.declared.body.Arm.{Arm}
use Rattle.spv_tree.specs.Branches.{branchings, branches_of_list}
use Rattle.spv_tree.proofs.Gathering.{op-gathers, choice-gathers, switch-gathers, loop-gathers, items-gather, arms-gather, exit-gathers, block-gathers, entered-gathers, branch-gathers, leaving-gathers}
use Rattle.spv_tree.proofs.gather.+gather.Goals as goal

pub gather_arm-returns-in-Exit : goal.gather_arm-returns-in-Exit
gather_arm-returns-in-Exit t c =
    subst (λ (z : List Branching). OnOk c.add_exit.result (branchings c.add_exit.new.found.items ≡ branchings c.args.found.now.items ++ z))
    (exit-gathers c.args.arm.now c.in-Exit.exit c.args.block c.in-Exit.is) c.add_exit.ensures

pub gather_arm-returns-in-Block : goal.gather_arm-returns-in-Block
gather_arm-returns-in-Block t c =
    subst (λ (z : List Branching). OnOk c.gather.result (branchings c.gather.new.found.items ≡ branchings c.args.found.now.items ++ z))
    (block-gathers c.args.arm.now c.in-Block.inner c.args.block c.in-Block.is) c.gather.ensures

pub gather_arm-returns-in_ok-last-in-Loop : goal.gather_arm-returns-in_ok-last-in-Loop
gather_arm-returns-in_ok-last-in-Loop t c =
    subst (λ (z : List Branching). OnOk c.gather-in-Loop.result (branchings c.gather-in-Loop.new.found.items ≡ z))
    (entered-gathers c.args.arm.now c.in-Loop.entered c.deref.result.now c.args.block c.in_ok-last-in-Loop.last (branchings c.args.found.now.items) (branchings c.gather_loop.new.found.items) c.in-Loop.is c.deref.ensures c.in_ok-last-in-Loop.ensures)
    c.gather-in-Loop.ensures

pub gather_choice-returns : goal.gather_choice-returns
gather_choice-returns t c =
    choice-gathers c.args.choice.now c.args.block (branchings c.args.found.now.items) (branchings c.gather_arm.new.found.items) (branchings c.gather_arm-2.new.found.items) c.in_ok-gather_arm.ensures
    c.in_ok-gather_arm-2.ensures

pub gather_item-returns-in-Op : goal.gather_item-returns-in-Op
gather_item-returns-in-Op t c = op-gathers c.args.item.now c.in-Op.field-0 c.in-Op.is (branchings c.args.found.now.items) c.args.block

pub gather_loop-returns : goal.gather_loop-returns
gather_loop-returns t c =
    loop-gathers c.args.turn.now c.args.block (branchings c.args.found.now.items) (branchings c.add_entry.new.found.items) (branchings c.gather_opening.new.found.items) (branchings c.gather.new.found.items)
    c.in_ok-add_entry.ensures c.in_ok-gather_opening.ensures c.in_ok-gather.ensures

pub gather_opening-returns-in-Branch : goal.gather_opening-returns-in-Branch
gather_opening-returns-in-Branch t c =
    subst (λ (z : List Branching). OnOk c.gather_arm.result (branchings c.gather_arm.new.found.items ≡ branchings c.args.found.now.items ++ z))
    (branch-gathers c.args.opening.now c.in-Branch.arm c.args.block c.in-Branch.is) c.gather_arm.ensures

pub gather_opening-returns-in_ok-add_exit-in-Split : goal.gather_opening-returns-in_ok-add_exit-in-Split
gather_opening-returns-in_ok-add_exit-in-Split t c =
    subst (λ (z : List Branching). OnOk c.gather_arm-in-Split.result (branchings c.gather_arm-in-Split.new.found.items ≡ z))
    (leaving-gathers c.args.opening.now c.in-Split.leaving c.args.block (branchings c.args.found.now.items) (branchings c.add_exit.new.found.items) c.in-Split.is c.in_ok-add_exit-in-Split.ensures)
    c.gather_arm-in-Split.ensures

pub gather_switch-returns : goal.gather_switch-returns
gather_switch-returns t c =
    switch-gathers c.args.switch.now c.args.block (branchings c.args.found.now.items) (branchings c.gather_arm.new.found.items) (branchings c.gather_arms.new.found.items) c.in_ok-gather_arm.ensures
    (c.in_ok-gather_arms.ensures ∙ ap (λ (z : List Arm). branchings c.gather_arm.new.found.items ++ branches_of_list c.args.block z) c.as_slice.ensures)

pub gather_items-items-preserved : goal.gather_items-items-preserved
gather_items-items-preserved t c =
    items-gather c.args.items.now c.items.item-index c.item-item.result c.args.block c.items.last c.in_ok-last.last (branchings c.args.found.now.items) (branchings c.items.found.items)
    (branchings c.gather_item.new.found.items) c.items-test.true c.item-item.is c.items.invariant c.in_ok-last.ensures

pub gather_arms-arms-preserved : goal.gather_arms-arms-preserved
gather_arms-arms-preserved t c =
    arms-gather c.args.arms.now c.arms.arm-index c.arm-item.result c.args.block (branchings c.args.found.now.items) (branchings c.arms.found.items) (branchings c.gather_arm.new.found.items)
    c.arms-test.true c.arm-item.is c.arms.invariant c.in_ok-gather_arm.ensures
