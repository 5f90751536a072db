use Rattle.spv_repeats.specs.Repeats.{occurs}
use Rattle.spv_repeats.specs.Steps.{HasTypes}
use Rattle.spv_repeats.proofs.Marking.{IsMarkedTo}
use Rattle.spv_repeats.proofs.types.repeated_types.Given as goal

abbrev pub invariant-instructions : goal.invariant-instructions
invariant-instructions l = IsMarkedTo HasTypes occurs l.insts l.k l.types l.marks
