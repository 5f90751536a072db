use Rattle.std.proofs.Common.{◌∙◌, ap, arith}
use Rattle.std.specs.Option.{option_map}
use Rattle.spv_grammar.specs.Operands.{leaving}
use Rattle.spv_grammar.proofs.OperandSteps.{operand_roles-at}
use Rattle.spv_grammar.proofs.operands.push_operands.Goals as goal

pub operands-preserved : goal.operands-preserved
operands-preserved c =
    c.operands.invariant
    ∙ operand_roles-at c.args.kinds.now c.operands.kind-index _ c.operands.rest.now c.operands.roles.items (leaving c.take.new.roles.items c.in-Some.left) (omega arith)
    (c.in_ok-left.ensures ∙ ap (option_map (leaving c.take.new.roles.items)) c.in-Some.is)
