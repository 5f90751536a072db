use Rattle.std.proofs.Common.{◌≡◌, ◌++◌, ◌∷◌, [], sym, ◌∙◌}
use Rattle.spv_module.specs.View.{seen}
use Rattle.spv_signatures.proofs.Keeping.{leading-pushed, leading-line, leading-other}
use Rattle.spv_signatures.proofs.parameters.append.Goals as goal
use Rattle.spv_signatures.proofs.parameters.append.Goals.{then-not-is_line+else-not-is_parameter+in_ok-push, else-not-is_line}

pub returns-then-not-is_parameter : goal.returns-then-not-is_parameter
returns-then-not-is_parameter c =
    leading-other c.args.insts.now c.instructions.k (seen c.at-inst.result) c.instructions.parameters.items c.at-inst.ensures (sym c.is_line.ensures ∙ c.if-not-is_line.true)
    (sym c.is_parameter.ensures ∙ c.if-not-is_parameter.true)
    ∙ c.instructions.invariant

pub instructions-preserved : goal.instructions-preserved
instructions-preserved c = elim c.if-not-is_line.branch [
  | then-not-is_line+else-not-is_parameter+in_ok-push w ↦
      (let items : c.if-not-is_line.parameters.items ≡ c.instructions.parameters.items ++ w.read.result ∷ [] = rw w.parameters-is w.in_ok-push.ensures.items in
      leading-pushed c.args.insts.now c.instructions.k (seen c.at-inst.result) c.instructions.parameters.items c.if-not-is_line.parameters.items w.read.result c.at-inst.ensures
      (sym c.is_line.ensures ∙ w.if-not-is_line.true) (sym w.is_parameter.ensures ∙ w.if-not-is_parameter.false) w.read.ensures items
      ∙ c.instructions.invariant)
  | else-not-is_line w ↦
      rw w.parameters-is
      (leading-line c.args.insts.now c.instructions.k (seen c.at-inst.result) c.instructions.parameters.items c.at-inst.ensures (sym c.is_line.ensures ∙ w.if-not-is_line.false)
      ∙ c.instructions.invariant)
]
