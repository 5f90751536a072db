use Rattle.std.proofs.Common.{arith}
use Rattle.spv_blocks.proofs.Functions.{function-is}
use Rattle.spv_blocks.proofs.insts.Insts.from.Goals as goal

pub returns-then-start-count : goal.returns-then-start-count
returns-then-start-count c =
    function-is c.args.flat.now.insts c.insts-insts.result.now c.args.first c.end_of.result c.insts-insts.ensures.same (omega arith) (omega arith) c.end_of.ensures.rest
