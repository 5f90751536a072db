use Rattle.std.proofs.Common.{subst, ◌<◌}
use Rattle.spv_module.specs.View.{seen}
use Rattle.spv_norm.proofs.Stepwise.{outside_more, outside_over}
use Rattle.spv_norm.proofs.staying.outside_count.Goals as goal

pub instructions-preserved : goal.instructions-preserved
instructions-preserved c =
    outside_more c.args.insts.now c.instructions.count c.opcode.result (seen c.at.result) c.instructions.invariant
    (subst (λ n. c.instructions.count < n) c.count.ensures c.instructions-test.true) c.at.ensures c.opcode.ensures c.if-opcode-ne-FUNCTION.true

pub returns-else-opcode-ne-FUNCTION-clause-front : goal.returns-else-opcode-ne-FUNCTION-clause-front
returns-else-opcode-ne-FUNCTION-clause-front c =
    outside_over c.args.insts.now c.instructions.count c.opcode.result (seen c.at.result) c.instructions.invariant c.at.ensures c.opcode.ensures c.if-opcode-ne-FUNCTION.false
