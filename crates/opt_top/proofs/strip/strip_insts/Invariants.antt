use Rattle.std.proofs.Common.{◌≡◌, take}
use Rattle.spv_stripped.specs.Strip.{stripped_insts}
use Rattle.opt_top.proofs.strip.strip_insts.Given as goal

abbrev pub invariant-instructions : goal.invariant-instructions
invariant-instructions l = l.kept ≡ stripped_insts (take l.k l.insts)
