use Rattle.std.proofs.Common.{◌≡◌, drop}
use Rattle.spv_module.specs.First.{first}
use Rattle.spv_walk.specs.Found.{earlier_of}
use Rattle.spv_faults.specs.Opens.{open_faults}
use Rattle.spv_faults.proofs.opens.open_fault.Given as goal

abbrev pub invariant-each : goal.invariant-each
invariant-each l = earlier_of l.found (first (open_faults (drop l.k l.function))) ≡ first (open_faults l.function)
