use Rattle.std.proofs.Common.{◌∙◌, sym, arith}
use Rattle.spv_module.specs.View.{seen}
use Rattle.spv_typing.proofs.Outside.{outside-found, outside-more, outside-all}
use Rattle.spv_calls.proofs.globals.count_outside.Goals as goal

pub returns-then-is_function : goal.returns-then-is_function
returns-then-is_function c =
    outside-found c.args.insts.now c.instructions.k (seen c.at.result) c.instructions.invariant (omega arith) c.at.ensures (sym c.is_function.ensures ∙ c.if-is_function.true)

pub instructions-preserved : goal.instructions-preserved
instructions-preserved c =
    outside-more c.args.insts.now c.instructions.k (seen c.at.result) c.instructions.invariant (omega arith) c.at.ensures (sym c.is_function.ensures ∙ c.if-is_function.false)

pub returns : goal.returns
returns c = c.count.ensures ∙ outside-all c.args.insts.now c.instructions.k c.instructions.invariant (omega arith)
