use Rattle.std.proofs.Common.{length}
use Rattle.spv_module.proofs.ReadingSteps.{IsRead}
use Rattle.spv_module.proofs.instructions.read_instructions.Given as goal

abbrev pub invariant-instructions : goal.invariant-instructions
invariant-instructions l = IsRead l.bound l.at l.words l.place l.rest l.insts

abbrev pub decreases-instructions : goal.decreases-instructions
decreases-instructions l = length l.rest
