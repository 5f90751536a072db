use Rattle.std.proofs.Common.{◌≡◌, ◌-◌, ◌++◌, ◌≤◌, take, drop, length}
use Rattle.spv_norm.specs.Norm.{outside}
use Rattle.spv_norm.proofs.staying.outside_count.Given as goal

abbrev pub invariant-instructions : goal.invariant-instructions
invariant-instructions l = (take l.count l.insts ++ outside (drop l.count l.insts) ≡ outside l.insts) × (l.count ≤ length l.insts)

abbrev pub decreases-instructions : goal.decreases-instructions
decreases-instructions l = length l.insts - l.count
