use Rattle.std.proofs.Common.{◌≡◌, ◌++◌, ℕ, true, List, [], map, OnOk, rules, sym, subst, ap}
use Rattle.std.proofs.lemmas.Result.{IfOk-weaker}
use Rattle.spv_bodies.specs.Bodies.{Body, begins_at_branch}
use Rattle.spv_bodies.specs.Listing.{lines}
use Rattle.spv_tree.specs.declared.body.Arm.TheFolds.{the_lemmas}
use Rattle.spv_tree.specs.declared.body.Entered.{out-Entered}
use Rattle.spv_tree.specs.declared.body.Item as item
use Rattle.spv_tree.specs.declared.body.Item.{Item}
use Rattle.spv_tree.specs.Tree.{case_of, end_body, items_then, sequence_body, words_of}
use Rattle.spv_tree.specs.Lines.{AddsItem}
use Rattle.spv_tree.proofs.Formed.{block_formed, branch-begins, branch_formed, choice_first, choice_second, leaving_formed, loop_continuing, loop_opening, switch_first, switch_others}
use Rattle.spv_tree.proofs.Listed.{arms-lines, entered-lines, block-lines, branch-lines, choice-adds, exit-lines, leaving-lines, loop-adds, switch-adds}
use Rattle.spv_tree.proofs.Sequences.{adds_at, choice-none, entered_rest, entered_turn, keeps_more, next_alone, next_first, next_last, op-none, split-none, switch-none}
use Rattle.spv_tree.proofs.flattening.+list.Goals as goal

-- ---- arms

pub push_arm-push_sequence-requires : goal.push_arm-push_sequence-requires
push_arm-push_sequence-requires t c = (search (rules, the_lemmas), block_formed c.args.arrivals.now c.args.arm.now c.in-Block.block c.in-Block.is c.requires)

pub push_arm-returns-in-Exit : goal.push_arm-returns-in-Exit
push_arm-returns-in-Exit t c = exit-lines c.args.arrivals.now c.args.arm.now c.in-Exit.field-0 (words_of c.args.insts.now) c.in-Exit.is

pub push_arm-returns-in_ok-push_label-in-Block : goal.push_arm-returns-in_ok-push_label-in-Block
push_arm-returns-in_ok-push_label-in-Block t c =
    subst (λ (z : List (List ℕ)). OnOk c.push_sequence.result (words_of c.push_sequence.new.insts ≡ z))
    (block-lines c.args.arrivals.now c.args.arm.now c.in-Block.block (words_of c.args.insts.now) (words_of c.push_label.new.insts) c.in-Block.is c.in_ok-push_label-in-Block.ensures)
    c.push_sequence.ensures

pub push_arm-push_loop-requires : goal.push_arm-push_loop-requires
push_arm-push_loop-requires t c =
    (search (rules, the_lemmas), entered_turn c.args.arrivals.now c.args.arm.now c.in-Loop.entered c.deref.result.now c.in-Loop.is c.deref.ensures c.requires)

pub push_arm-push_sequence-requires-in-Loop : goal.push_arm-push_sequence-requires-in-Loop
push_arm-push_sequence-requires-in-Loop t c = (search (rules, the_lemmas), entered_rest c.args.arrivals.now c.args.arm.now c.in-Loop.entered c.in-Loop.is c.requires)

pub push_arm-returns-in_ok-push_loop-in-Loop : goal.push_arm-returns-in_ok-push_loop-in-Loop
push_arm-returns-in_ok-push_loop-in-Loop t c =
    subst (λ (z : List (List ℕ)). OnOk c.push_sequence-in-Loop.result (words_of c.push_sequence-in-Loop.new.insts ≡ z))
    (entered-lines c.args.arrivals.now c.args.arm.now c.in-Loop.entered c.deref.result.now _ (words_of c.args.insts.now) (words_of c.push_loop.new.insts) c.in-Loop.is c.deref.ensures
    (c.in_ok-push_loop-in-Loop.ensures (sequence_body (out-Entered c.in-Loop.entered).rest))) c.push_sequence-in-Loop.ensures

pub push_arms-arms-preserved : goal.push_arms-arms-preserved
push_arms-arms-preserved t c =
    arms-lines c.args.arrivals.now c.args.arms.now c.arms.arm-index c.arm-item.result (words_of c.args.insts.now) (words_of c.arms.insts) (words_of c.push_arm.new.insts) c.arms-test.true
    c.arm-item.is c.arms.invariant c.in_ok-push_arm.ensures

-- ---- constructs

pub push_choice-push_arm-requires : goal.push_choice-push_arm-requires
push_choice-push_arm-requires t c = (search (rules, the_lemmas), choice_first c.args.arrivals.now c.args.choice.now c.requires)

pub push_choice-push_arm-requires-2 : goal.push_choice-push_arm-requires-2
push_choice-push_arm-requires-2 t c = (search (rules, the_lemmas), choice_second c.args.arrivals.now c.args.choice.now c.requires)

pub push_choice-returns : goal.push_choice-returns
push_choice-returns t c after =
    choice-adds c.args.arrivals.now c.args.choice.now after c.target_of.result c.target_of-2.result (words_of c.args.insts.now) (words_of c.push_selection_merge.new.insts)
    (words_of c.push_branch_conditional.new.insts) (words_of c.push_arm.new.insts) (words_of c.push_arm-2.new.insts) (words_of c.push_front.new.insts) c.target_of.ensures c.target_of-2.ensures
    c.in_ok-push_selection_merge.ensures c.in_ok-push_branch_conditional.ensures c.in_ok-push_arm.ensures c.in_ok-push_arm-2.ensures c.in_ok-push_front.ensures

pub push_switch-push_arm-requires : goal.push_switch-push_arm-requires
push_switch-push_arm-requires t c = (search (rules, the_lemmas), switch_first c.args.arrivals.now c.args.switch.now c.requires)

pub push_switch-push_arms-requires : goal.push_switch-push_arms-requires
push_switch-push_arms-requires t c =
    (search (rules, the_lemmas), switch_others c.args.arrivals.now c.args.switch.now c.as_slice-2.result.now c.as_slice-2.ensures c.requires)

pub push_switch-returns : goal.push_switch-returns
push_switch-returns t c after =
    switch-adds c.args.arrivals.now c.args.switch.now after c.target_of.result _ c.as_slice-2.result.now (words_of c.args.insts.now) (words_of c.push_selection_merge.new.insts)
    (words_of c.push_op_switch.new.insts) (words_of c.push_arm.new.insts) (words_of c.push_arms.new.insts) (words_of c.push_front.new.insts) c.target_of.ensures (ap (map case_of) c.as_slice.ensures)
    c.as_slice-2.ensures c.in_ok-push_selection_merge.ensures c.in_ok-push_op_switch.ensures c.in_ok-push_arm.ensures c.in_ok-push_arms.ensures c.in_ok-push_front.ensures

pub push_loop-push_opening-requires : goal.push_loop-push_opening-requires
push_loop-push_opening-requires t c = (search (rules, the_lemmas), loop_opening c.args.arrivals.now c.args.turn.now c.requires)

pub push_loop-push_sequence-requires : goal.push_loop-push_sequence-requires
push_loop-push_sequence-requires t c = (search (rules, the_lemmas), loop_continuing c.args.arrivals.now c.args.turn.now c.requires)

pub push_loop-returns : goal.push_loop-returns
push_loop-returns t c rest =
    loop-adds c.args.arrivals.now c.args.turn.now c.args.begun rest c.as_slice.result.now (words_of c.args.insts.now) (words_of c.push_entry.new.insts) (words_of c.push_steps.new.insts)
    (words_of c.push_loop_merge.new.insts) (words_of c.push_opening.new.insts) (words_of c.push_front.new.insts) (words_of c.push_sequence.new.insts) (words_of c.push_front-2.new.insts)
    (loop_opening c.args.arrivals.now c.args.turn.now c.requires) c.as_slice.ensures c.in_ok-push_entry.ensures c.in_ok-push_steps.ensures c.in_ok-push_loop_merge.ensures
    c.in_ok-push_opening.ensures c.in_ok-push_front.ensures c.in_ok-push_sequence.ensures c.in_ok-push_front-2.ensures

-- ---- how a loop opens

pub push_opening-push_arm-requires : goal.push_opening-push_arm-requires
push_opening-push_arm-requires t c = (search (rules, the_lemmas), branch_formed c.args.arrivals.now c.args.opening.now c.in-Branch.arm c.in-Branch.is c.requires)

pub push_opening-push_arm-requires-in-Split : goal.push_opening-push_arm-requires-in-Split
push_opening-push_arm-requires-in-Split t c = (search (rules, the_lemmas), leaving_formed c.args.arrivals.now c.args.opening.now c.in-Split.leaving c.in-Split.is c.requires)

pub push_opening-returns-in_ok-push_branch-in-Branch : goal.push_opening-returns-in_ok-push_branch-in-Branch
push_opening-returns-in_ok-push_branch-in-Branch t c =
    subst (λ (z : List (List ℕ)). OnOk c.push_arm.result (words_of c.push_arm.new.insts ≡ z))
    (branch-lines c.args.arrivals.now c.args.opening.now c.in-Branch.arm c.target_of.result (words_of c.args.insts.now) (words_of c.push_branch.new.insts) c.in-Branch.is
    (branch-begins c.args.arrivals.now c.args.opening.now c.in-Branch.arm c.in-Branch.is c.requires) c.target_of.ensures
    c.in_ok-push_branch-in-Branch.ensures) c.push_arm.ensures

pub push_opening-returns-in_ok-push_leaving-in-Split : goal.push_opening-returns-in_ok-push_leaving-in-Split
push_opening-returns-in_ok-push_leaving-in-Split t c =
    subst (λ (z : List (List ℕ)). OnOk c.push_arm-in-Split.result (words_of c.push_arm-in-Split.new.insts ≡ z))
    (leaving-lines c.args.arrivals.now c.args.opening.now c.in-Split.leaving c.target_of-in-Split.result (words_of c.args.insts.now) (words_of c.push_leaving.new.insts) c.in-Split.is
    c.target_of-in-Split.ensures c.in_ok-push_leaving-in-Split.ensures) c.push_arm-in-Split.ensures

-- ---- items

pub push_item-returns-in-Op : goal.push_item-returns-in-Op
push_item-returns-in-Op t c =
    let rest : Body = items_then c.args.behind.now (end_body c.args.end.now) in
    IfOk-weaker c.push_op.result _ _
    (λ after h. adds_at c.args.arrivals.now c.args.begun after (words_of c.args.insts.now) (words_of c.push_op.new.insts) c.args.item.now (item.Op c.in-Op.inst) rest c.in-Op.is
    (op-none c.in-Op.inst) c.requires.first (h c.args.arrivals.now rest))
    c.push_op.ensures

pub push_item-returns-in-Choice : goal.push_item-returns-in-Choice
push_item-returns-in-Choice t c =
    let rest : Body = items_then c.args.behind.now (end_body c.args.end.now) in
    IfOk-weaker c.push_choice.result _ _
    (λ after h. adds_at c.args.arrivals.now c.args.begun after (words_of c.args.insts.now) (words_of c.push_choice.new.insts) c.args.item.now (item.Choice c.in-Choice.choice) rest c.in-Choice.is
    (choice-none c.in-Choice.choice) c.requires.first (h rest))
    c.push_choice.ensures

pub push_item-returns-in-Switch : goal.push_item-returns-in-Switch
push_item-returns-in-Switch t c =
    let rest : Body = items_then c.args.behind.now (end_body c.args.end.now) in
    IfOk-weaker c.push_switch.result _ _
    (λ after h. adds_at c.args.arrivals.now c.args.begun after (words_of c.args.insts.now) (words_of c.push_switch.new.insts) c.args.item.now (item.Switch c.in-Switch.switch) rest c.in-Switch.is
    (switch-none c.in-Switch.switch) c.requires.first (h rest))
    c.push_switch.ensures

pub push_item-returns-in-Split : goal.push_item-returns-in-Split
push_item-returns-in-Split t c =
    let rest : Body = items_then c.args.behind.now (end_body c.args.end.now) in
    IfOk-weaker c.push_split_item.result _ _
    (λ after h. adds_at c.args.arrivals.now c.args.begun after (words_of c.args.insts.now) (words_of c.push_split_item.new.insts) c.args.item.now (item.Split c.in-Split.split) rest c.in-Split.is
    (split-none c.in-Split.split) c.requires.first (h c.args.arrivals.now))
    c.push_split_item.ensures

pub push_items-push_item-requires : goal.push_items-push_item-requires
push_items-push_item-requires t c = (
  search (rules, the_lemmas),
  (
    next_alone c.args.arrivals.now c.args.items.now c.items.k c.index-items-k.result (end_body c.args.end.now) c.items-test.true c.index-items-k.is c.items.invariant.formed,
    (
      λ e.
          subst (λ (z : List Item). begins_at_branch (items_then z (end_body c.args.end.now)) ≡ true) (sym c.split_at.ensures.back)
          (next_last c.args.arrivals.now c.args.items.now c.items.k c.index-items-k.result (end_body c.args.end.now) c.items-test.true c.index-items-k.is c.items.invariant.formed e),
      next_first c.args.arrivals.now c.items.begun (words_of c.args.insts.now ++ lines c.args.arrivals.now [] (items_then c.args.items.now (end_body c.args.end.now))) (words_of c.items.insts)
          c.args.items.now c.items.k c.index-items-k.result (end_body c.args.end.now) c.items-test.true c.index-items-k.is c.items.invariant.comes,
    ),
  ),
)

pub push_items-items-preserved : goal.push_items-items-preserved
push_items-items-preserved t c =
    keeps_more c.args.arrivals.now c.args.items.now c.items.k c.index-items-k.result (end_body c.args.end.now) c.items.begun c.in_ok-begun.begun
    (words_of c.args.insts.now ++ lines c.args.arrivals.now [] (items_then c.args.items.now (end_body c.args.end.now))) (words_of c.items.insts) (words_of c.push_item.new.insts)
    c.items-test.true c.index-items-k.is c.items.invariant
    (subst (λ (z : List Item). AddsItem c.args.arrivals.now c.items.begun c.in_ok-begun.begun (words_of c.items.insts) (words_of c.push_item.new.insts) c.index-items-k.result
    (items_then z (end_body c.args.end.now))) c.split_at.ensures.back c.in_ok-begun.ensures)
