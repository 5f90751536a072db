use Rattle.spv_repeats.proofs.Marking.{IsMarkedTo}
use Rattle.spv_entries.specs.Slots.{HasSlots, clashes}
use Rattle.spv_entries.proofs.bindings.clashing.Given as goal

abbrev pub invariant-instructions : goal.invariant-instructions
invariant-instructions l = IsMarkedTo (HasSlots l.decorations) (clashes l.decorations) l.insts l.k l.slots l.marks.items
