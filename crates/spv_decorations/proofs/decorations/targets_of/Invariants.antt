use Rattle.std.proofs.Common.{take}
use Rattle.spv_decorations.specs.Index.{HasTargets}
use Rattle.spv_decorations.proofs.decorations.targets_of.Given as goal

abbrev pub invariant-instructions : goal.invariant-instructions
invariant-instructions l = HasTargets l.targets (take l.k l.insts)
