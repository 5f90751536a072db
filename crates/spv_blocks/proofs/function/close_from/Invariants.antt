use Rattle.std.proofs.Common.{◌≡◌, ◌++◌, drop, take}
use Rattle.std.specs.List.{find}
use Rattle.spv_blocks.specs.Cutting.{closes, before_close}
use Rattle.spv_blocks.proofs.function.close_from.Given as goal

abbrev pub invariant-instructions : goal.invariant-instructions
invariant-instructions l = record {
  before : before_close (drop l.from l.insts) ≡ drop l.from (take l.k l.insts) ++ before_close (drop l.k l.insts);
  found : find closes (drop l.from l.insts) ≡ find closes (drop l.k l.insts);
}
