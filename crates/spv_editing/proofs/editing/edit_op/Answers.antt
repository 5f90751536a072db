use Rattle.std.proofs.Common.{List, ◌++◌, ap, ◌∙◌}
use Rattle.std.proofs.lemmas.Result.{on_ok_weaker}
use Rattle.spv_module.specs.declared.inst.Inst.{Inst}
use Rattle.spv_editing.specs.Code.{words_in}
use Rattle.spv_editing.proofs.Becoming.{op-becomes}
use Rattle.spv_editing.proofs.editing.edit_op.Goals as goal

pub returns : goal.returns
returns g c =
    let e = g.E.Editor.edit c.args.editor.now in
    on_ok_weaker c.push_ops.result
    (op-becomes e c.args.made.now c.push_ops.new.made c.args.inst c.step.new.made.items
    (c.in_ok-step.ensures ∙ ap (λ (insts : List Inst). words_in insts ++ e.steps c.args.inst.words) c.new-steps.ensures.items))
    c.push_ops.ensures
