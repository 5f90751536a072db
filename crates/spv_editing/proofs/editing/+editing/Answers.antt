use Rattle.std.proofs.Common.{refl, ap, ◌∙◌}
use Rattle.spv_tree.specs.declared.body.Item as item
use Rattle.spv_tree.specs.declared.body.Entered.{out-roll-Entered}
use Rattle.spv_editing.proofs.Becoming.{block-becomes, branch-becomes, choice-becomes, entered-becomes, exit-becomes, item-pushed, items-become, leaving-becomes, loop-becomes, switch-becomes}
use Rattle.spv_editing.proofs.editing.+editing.Goals as goal
use Rattle.spv_editing.proofs.editing.+editing.Goals.{edit_item-in-Choice+in_ok-edit_choice-in-Choice, edit_item-in-Switch+in_ok-edit_switch-in-Switch, edit_item-in-Loop+in_ok-edit_loop-in-Loop, edit_item-in-Split+in_ok-edit_split-in-Split}

pub edit_arm-returns-in_ok-edit_exit-in-Exit : goal.edit_arm-returns-in_ok-edit_exit-in-Exit
edit_arm-returns-in_ok-edit_exit-in-Exit g t c =
    exit-becomes (g.E.Editor.edit c.args.editor.now) c.args.arm c.in-Exit.exit c.in_ok-edit_exit-in-Exit.field-0 c.in-Exit.is c.in_ok-edit_exit-in-Exit.ensures

pub edit_block-returns : goal.edit_block-returns
edit_block-returns g t c = block-becomes (g.E.Editor.edit c.args.editor.now) c.args.block _ refl c.in_ok-body.ensures

pub edit_entered-returns : goal.edit_entered-returns
edit_entered-returns g t c =
    entered-becomes (g.E.Editor.edit c.args.editor.now) c.args.entered _ c.into_inner.result c.in_ok-turn.turn c.in_ok-rest.rest c.into_inner.ensures
    (ap (λ z. z.turn.value) (out-roll-Entered _) ∙ c.in_ok-new.ensures.ok) (ap (λ z. z.rest) (out-roll-Entered _)) c.in_ok-turn.ensures c.in_ok-rest.ensures

pub edit_choice-returns : goal.edit_choice-returns
edit_choice-returns g t c =
    choice-becomes (g.E.Editor.edit c.args.editor.now) c.args.choice _ refl c.used-condition.ensures c.in_ok-first.ensures c.in_ok-second.ensures refl

pub edit_switch-returns : goal.edit_switch-returns
edit_switch-returns g t c =
    switch-becomes (g.E.Editor.edit c.args.editor.now) c.args.switch _ refl c.used-selector.ensures refl c.in_ok-first.ensures c.in_ok-others.ensures refl

pub edit_loop-returns : goal.edit_loop-returns
edit_loop-returns g t c =
    loop-becomes (g.E.Editor.edit c.args.editor.now) c.args.turn _ c.in_ok-entry.ensures refl c.in_ok-steps.ensures refl c.in_ok-opening.ensures refl c.in_ok-continuing.ensures refl

pub edit_opening-returns-in_ok-edit_arm-in-Branch : goal.edit_opening-returns-in_ok-edit_arm-in-Branch
edit_opening-returns-in_ok-edit_arm-in-Branch g t c =
    branch-becomes (g.E.Editor.edit c.args.editor.now) c.args.opening c.in-Branch.arm c.in_ok-edit_arm-in-Branch.field-0 c.in-Branch.is c.in_ok-edit_arm-in-Branch.ensures

pub edit_leaving-returns : goal.edit_leaving-returns
edit_leaving-returns g t c =
    leaving-becomes (g.E.Editor.edit c.args.editor.now) c.args.leaving _ c.used-condition.ensures refl c.in_ok-exit.ensures c.in_ok-arm.ensures

pub edit_item-returns : goal.edit_item-returns
edit_item-returns g t c =
    let e = g.E.Editor.edit c.args.editor.now in
    elim c.match-item.branch [
      | edit_item-in-Choice+in_ok-edit_choice-in-Choice w ↦
          item-pushed e c.args.made.now c.push.new.self c.args.item c.match-item.edited (item.Choice w.in-Choice.choice) (item.Choice w.in_ok-edit_choice-in-Choice.field-0) c.in_ok-push.ensures.ok
          w.in-Choice.is w.edited-is w.in_ok-edit_choice-in-Choice.ensures
      | edit_item-in-Switch+in_ok-edit_switch-in-Switch w ↦
          item-pushed e c.args.made.now c.push.new.self c.args.item c.match-item.edited (item.Switch w.in-Switch.switch) (item.Switch w.in_ok-edit_switch-in-Switch.field-0) c.in_ok-push.ensures.ok
          w.in-Switch.is w.edited-is w.in_ok-edit_switch-in-Switch.ensures
      | edit_item-in-Loop+in_ok-edit_loop-in-Loop w ↦
          item-pushed e c.args.made.now c.push.new.self c.args.item c.match-item.edited (item.Loop w.in-Loop.turn) (item.Loop w.in_ok-edit_loop-in-Loop.field-0) c.in_ok-push.ensures.ok
          w.in-Loop.is w.edited-is w.in_ok-edit_loop-in-Loop.ensures
      | edit_item-in-Split+in_ok-edit_split-in-Split w ↦
          item-pushed e c.args.made.now c.push.new.self c.args.item c.match-item.edited (item.Split w.in-Split.split) (item.Split w.in_ok-edit_split-in-Split.field-0) c.in_ok-push.ensures.ok
          w.in-Split.is w.edited-is w.in_ok-edit_split-in-Split.ensures
    ]

pub edit_items-items-preserved : goal.edit_items-items-preserved
edit_items-items-preserved g t c =
    items-become (g.E.Editor.edit c.args.editor.now) c.items.yielded c.items.made c.edit_item.new.made c.in-Some.item c.items.invariant c.in_ok-edit_item.ensures
