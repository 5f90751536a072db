use Rattle.std.proofs.Common.{arith}
use Rattle.spv_module.specs.View.{seen}
use Rattle.spv_repeats.specs.Repeats.{occurs}
use Rattle.spv_repeats.specs.Steps.{HasTypes}
use Rattle.spv_repeats.proofs.Marking.{marked-step, marked-all}
use Rattle.spv_repeats.proofs.types.repeated_types.Goals as goal

pub instructions-preserved : goal.instructions-preserved
instructions-preserved c =
    marked-step HasTypes occurs c.args.insts.now c.instructions.k (seen c.at.result) c.instructions.types c.add_type.new.types c.instructions.marks c.push.new.self c.in_ok-again.again c.instructions.invariant (omega arith) c.at.ensures
    c.in_ok-again.ensures c.in_ok-push.ensures.ok

pub returns : goal.returns
returns c = marked-all HasTypes occurs c.args.insts.now c.instructions.k c.instructions.types c.instructions.marks c.instructions.invariant (omega arith)
