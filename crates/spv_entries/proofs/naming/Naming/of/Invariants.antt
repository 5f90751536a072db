use Rattle.std.proofs.Common.{take}
use Rattle.spv_entries.specs.Naming.{HasNaming}
use Rattle.spv_entries.proofs.naming.Naming.of.Given as goal

abbrev pub invariant-instructions : goal.invariant-instructions
invariant-instructions l = HasNaming l.kinds l.naming (take l.k l.insts)
