use Rattle.std.proofs.Common.{List, [], ◌∷◌, ◌++◌, map, refl, ap, take}
use Rattle.std.proofs.lemmas.Result.{on_ok_weaker}
use Rattle.spv_module.specs.declared.inst.Inst.{Inst}
use Rattle.spv_tree.specs.declared.body.Item.{Item, Choice as AChoice, Switch as ASwitch, Loop as ALoop}
use Rattle.spv_tree.specs.declared.body.Entered.{out-Entered}
use Rattle.spv_tree.specs.declared.body.Sequence.{out-Sequence}
use Rattle.spv_tree.specs.Tree.{arm_body, end_body, entry_of, item_then, items_then, opening_body, sequence_body}
use Rattle.spv_tree.specs.Lines.{nothing}
use Rattle.spv_editing.specs.Showing.{AStep, AUse, carried, shown, uses}
use Rattle.spv_editing.specs.Code.{shown_of_list, words_in}
use Rattle.spv_editing.proofs.Visits.{arm-more, block-shown, branch-shown, choice-shown, entered-shown, exit-shown, item-more, leaving-shown, loop-shown, op-shown, sequence-shown, shown-same, shown-then, switch-shown}
use Rattle.spv_editing.proofs.visiting.+visiting.Goals as goal

pub show_sequence-returns : goal.show_sequence-returns
show_sequence-returns g t c =
    let s = c.args.sequence.now in
    on_ok_weaker c.show_end.result
    (shown-then g.V.Visitor.has_seen c.args.visitor.now c.show_items.new.visitor c.show_end.new.visitor (shown (items_then (out-Sequence s).items nothing)) (shown (end_body (out-Sequence s).end))
    (shown (sequence_body s)) (sequence-shown s)
    (shown-same g.V.Visitor.has_seen c.args.visitor.now c.show_items.new.visitor (shown (items_then c.as_slice.result.now nothing)) (shown (items_then (out-Sequence s).items nothing))
    (ap (λ (items : List Item). shown (items_then items nothing)) c.as_slice.ensures) c.in_ok-show_items.ensures))
    c.show_end.ensures

pub show_items-items-preserved : goal.show_items-items-preserved
show_items-items-preserved g t c =
    shown-then g.V.Visitor.has_seen c.args.visitor.now c.items.visitor c.show_item.new.visitor (shown (items_then (take c.items.item-index c.args.items.now) nothing)) (shown (item_then c.item-item.result nothing)) _
    (item-more c.args.items.now c.items.item-index c.item-item.result c.items-test.true c.item-item.is) c.items.invariant c.in_ok-show_item.ensures

pub show_item-returns-in-Op : goal.show_item-returns-in-Op
show_item-returns-in-Op g t c =
    on_ok_weaker c.step.result
    (shown-same g.V.Visitor.has_seen c.args.visitor.now c.step.new.self (AStep c.in-Op.inst.words ∷ []) (shown (item_then c.args.item.now nothing)) (op-shown c.args.item.now c.in-Op.inst c.in-Op.is))
    c.step.ensures

pub show_choice-returns : goal.show_choice-returns
show_choice-returns g t c =
    let h = c.args.choice.now in
    on_ok_weaker c.show_arm-2.result
    (shown-then g.V.Visitor.has_seen c.args.visitor.now c.show_arm.new.visitor c.show_arm-2.new.visitor ((AUse h.condition ∷ []) ++ shown (arm_body h.first)) (shown (arm_body h.second))
    (shown (item_then (AChoice h) nothing)) (choice-shown h)
    (shown-then g.V.Visitor.has_seen c.args.visitor.now c.used.new.self c.show_arm.new.visitor (AUse h.condition ∷ []) (shown (arm_body h.first)) _ refl c.in_ok-used.ensures c.in_ok-show_arm.ensures))
    c.show_arm-2.ensures

pub show_switch-returns : goal.show_switch-returns
show_switch-returns g t c =
    let s = c.args.switch.now in
    on_ok_weaker c.show_arms.result
    (λ last. shown-then g.V.Visitor.has_seen c.args.visitor.now c.show_arm.new.visitor c.show_arms.new.visitor ((AUse s.selector ∷ []) ++ shown (arm_body s.first)) (shown_of_list s.others)
    (shown (item_then (ASwitch s) nothing)) (switch-shown s)
    (shown-then g.V.Visitor.has_seen c.args.visitor.now c.used.new.self c.show_arm.new.visitor (AUse s.selector ∷ []) (shown (arm_body s.first)) _ refl c.in_ok-used.ensures c.in_ok-show_arm.ensures)
    (shown-same g.V.Visitor.has_seen c.show_arm.new.visitor c.show_arms.new.visitor (shown_of_list c.as_slice.result.now) (shown_of_list s.others) (ap shown_of_list c.as_slice.ensures) last))
    c.show_arms.ensures

pub show_loop-returns : goal.show_loop-returns
show_loop-returns g t c =
    let l = c.args.turn.now in
    on_ok_weaker c.show_sequence.result
    (shown-then g.V.Visitor.has_seen c.args.visitor.now c.show_opening.new.visitor c.show_sequence.new.visitor
    ((uses (carried (entry_of l.entry)) ++ map AStep (words_in l.steps)) ++ shown (opening_body l.opening)) (shown (sequence_body l.continuing)) (shown (item_then (ALoop l) nothing)) (loop-shown l)
    (shown-then g.V.Visitor.has_seen c.args.visitor.now c.show_steps.new.visitor c.show_opening.new.visitor (uses (carried (entry_of l.entry)) ++ map AStep (words_in l.steps)) (shown (opening_body l.opening)) _ refl
    (shown-then g.V.Visitor.has_seen c.args.visitor.now c.show_entry.new.visitor c.show_steps.new.visitor (uses (carried (entry_of l.entry))) (map AStep (words_in c.as_slice.result.now)) _
    (ap (λ (steps : List Inst). uses (carried (entry_of l.entry)) ++ map AStep (words_in steps)) c.as_slice.ensures)
    c.in_ok-show_entry.ensures c.in_ok-show_steps.ensures)
    c.in_ok-show_opening.ensures))
    c.show_sequence.ensures

pub show_opening-returns-in-Branch : goal.show_opening-returns-in-Branch
show_opening-returns-in-Branch g t c =
    on_ok_weaker c.show_arm.result
    (shown-same g.V.Visitor.has_seen c.args.visitor.now c.show_arm.new.visitor (shown (arm_body c.in-Branch.arm)) (shown (opening_body c.args.opening.now))
    (branch-shown c.args.opening.now c.in-Branch.arm c.in-Branch.is))
    c.show_arm.ensures

pub show_opening-returns-in_ok-show_leaving-in-Split : goal.show_opening-returns-in_ok-show_leaving-in-Split
show_opening-returns-in_ok-show_leaving-in-Split g t c =
    let l = c.in-Split.leaving in
    on_ok_weaker c.show_arm-in-Split.result
    (shown-then g.V.Visitor.has_seen c.args.visitor.now c.show_leaving.new.visitor c.show_arm-in-Split.new.visitor (uses (l.condition ∷ l.exit.values)) (shown (arm_body l.arm)) (shown (opening_body c.args.opening.now))
    (leaving-shown c.args.opening.now l c.in-Split.is) c.in_ok-show_leaving-in-Split.ensures)
    c.show_arm-in-Split.ensures

pub show_arms-arms-preserved : goal.show_arms-arms-preserved
show_arms-arms-preserved g t c =
    shown-then g.V.Visitor.has_seen c.args.visitor.now c.arms.visitor c.show_arm.new.visitor (shown_of_list (take c.arms.arm-index c.args.arms.now)) (shown (arm_body c.arm-item.result)) _
    (arm-more c.args.arms.now c.arms.arm-index c.arm-item.result c.arms-test.true c.arm-item.is) c.arms.invariant c.in_ok-show_arm.ensures

pub show_arm-returns-in-Exit : goal.show_arm-returns-in-Exit
show_arm-returns-in-Exit g t c =
    on_ok_weaker c.show_exit.result
    (shown-same g.V.Visitor.has_seen c.args.visitor.now c.show_exit.new.visitor (uses c.in-Exit.exit.values) (shown (arm_body c.args.arm.now)) (exit-shown c.args.arm.now c.in-Exit.exit c.in-Exit.is))
    c.show_exit.ensures

pub show_arm-returns-in-Block : goal.show_arm-returns-in-Block
show_arm-returns-in-Block g t c =
    on_ok_weaker c.show_sequence.result
    (shown-same g.V.Visitor.has_seen c.args.visitor.now c.show_sequence.new.visitor (shown (sequence_body c.in-Block.block.body)) (shown (arm_body c.args.arm.now))
    (block-shown c.args.arm.now c.in-Block.block c.in-Block.is))
    c.show_sequence.ensures

pub show_arm-returns-in_ok-show_loop-in-Loop : goal.show_arm-returns-in_ok-show_loop-in-Loop
show_arm-returns-in_ok-show_loop-in-Loop g t c =
    let e = c.in-Loop.entered in
    on_ok_weaker c.show_sequence-in-Loop.result
    (shown-then g.V.Visitor.has_seen c.args.visitor.now c.show_loop.new.visitor c.show_sequence-in-Loop.new.visitor (shown (item_then (ALoop c.deref.result.now) nothing))
    (shown (sequence_body (out-Entered e).rest)) (shown (arm_body c.args.arm.now)) (entered-shown c.args.arm.now e c.deref.result.now c.in-Loop.is c.deref.ensures) c.in_ok-show_loop-in-Loop.ensures)
    c.show_sequence-in-Loop.ensures
