use Rattle.std.proofs.Common.{take}
use Rattle.spv_decorations.specs.Index.{HasMembers}
use Rattle.spv_decorations.proofs.decorations.members_of.Given as goal

abbrev pub invariant-instructions : goal.invariant-instructions
invariant-instructions l = HasMembers l.members (take l.k l.insts)
