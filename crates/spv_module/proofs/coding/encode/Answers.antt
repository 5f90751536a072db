use Rattle.std.proofs.Common.{arith}
use Rattle.spv_module.specs.View.{seen}
use Rattle.spv_module.proofs.Decoding.{spelling-step}
use Rattle.spv_module.proofs.coding.encode.Goals as goal

pub instructions-preserved : goal.instructions-preserved
instructions-preserved c =
    spelling-step c.args.flat.now.header c.insts-insts.result.now c.instructions.k (seen c.at.result) c.instructions.words c.extend-in-instructions.new.self (omega arith) c.at.ensures c.instructions.invariant c.in_ok-extend-2.ensures.ok
