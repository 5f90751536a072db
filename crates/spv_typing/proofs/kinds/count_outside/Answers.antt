use Rattle.std.proofs.Common.{◌∙◌, sym, arith}
use Rattle.spv_module.specs.View.{seen}
use Rattle.spv_typing.proofs.Outside.{outside-found, outside-more, outside-all}
use Rattle.spv_typing.proofs.kinds.count_outside.Goals as goal

pub returns-then-begins_function : goal.returns-then-begins_function
returns-then-begins_function c =
    outside-found c.args.flat.now.insts c.instructions.k (seen c.at.result) c.instructions.invariant (omega arith) c.at.ensures (sym c.begins_function.ensures ∙ c.if-begins_function.true)

pub instructions-preserved : goal.instructions-preserved
instructions-preserved c =
    outside-more c.args.flat.now.insts c.instructions.k (seen c.at.result) c.instructions.invariant (omega arith) c.at.ensures (sym c.begins_function.ensures ∙ c.if-begins_function.false)

pub returns : goal.returns
returns c = c.count.ensures ∙ outside-all c.args.flat.now.insts c.instructions.k c.instructions.invariant (omega arith)
