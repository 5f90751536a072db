use Rattle.spv_repeats.proofs.Marking.{IsMarkedTo}
use Rattle.spv_entries.specs.Slots.{HasNames, is_named_again}
use Rattle.spv_entries.proofs.names.renamed.Given as goal

abbrev pub invariant-instructions : goal.invariant-instructions
invariant-instructions l = IsMarkedTo HasNames is_named_again l.insts l.k l.names l.marks.items
