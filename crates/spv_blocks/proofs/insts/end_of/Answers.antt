use Rattle.std.proofs.Common.{◌∙◌, sym, arith}
use Rattle.spv_module.specs.View.{seen}
use Rattle.spv_blocks.proofs.Functions.{rest-goes_on, rest-stops, rest-stops_with}
use Rattle.spv_blocks.proofs.insts.end_of.Goals as goal

pub returns-then-is_function-clause-rest : goal.returns-then-is_function-clause-rest
returns-then-is_function-clause-rest c =
    rest-stops c.args.insts.now c.args.from c.instructions.k (seen c.at-inst.result) c.at-inst.ensures (sym c.is_function.ensures ∙ c.if-is_function.true) c.instructions.invariant

pub returns-then-is_function_end-clause-rest : goal.returns-then-is_function_end-clause-rest
returns-then-is_function_end-clause-rest c =
    rest-stops_with c.args.insts.now c.args.from c.instructions.k (seen c.at-inst.result) (omega arith) c.at-inst.ensures (sym c.is_function.ensures ∙ c.if-is_function.false)
    (sym c.is_function_end.ensures ∙ c.if-is_function_end.true) c.instructions.invariant

pub instructions-preserved : goal.instructions-preserved
instructions-preserved c =
    rest-goes_on c.args.insts.now c.args.from c.instructions.k (seen c.at-inst.result) (omega arith) c.at-inst.ensures (sym c.is_function.ensures ∙ c.if-is_function.false)
    (sym c.is_function_end.ensures ∙ c.if-is_function_end.false) c.instructions.invariant
