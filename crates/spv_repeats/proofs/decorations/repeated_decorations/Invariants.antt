use Rattle.spv_repeats.specs.Repeats.{repeats}
use Rattle.spv_repeats.specs.Steps.{HasDecorations}
use Rattle.spv_repeats.proofs.Marking.{IsMarkedTo}
use Rattle.spv_repeats.proofs.decorations.repeated_decorations.Given as goal

abbrev pub invariant-instructions : goal.invariant-instructions
invariant-instructions l = IsMarkedTo HasDecorations repeats l.insts l.k l.seen l.marks
