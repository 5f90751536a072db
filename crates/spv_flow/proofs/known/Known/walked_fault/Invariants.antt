use Rattle.std.proofs.Common.{◌≡◌, drop}
use Rattle.spv_module.specs.First.{first}
use Rattle.spv_walk.specs.Found.{earlier_of}
use Rattle.spv_faults.specs.Listed.{walked_faults}
use Rattle.spv_flow.specs.Known.{code_of, place_of, faults_of}
use Rattle.spv_flow.proofs.known.Known.walked_fault.Given as goal

abbrev pub invariant-each : goal.invariant-each
invariant-each l =
    let faults = walked_faults (faults_of l.self) (place_of l.self) in
    earlier_of l.found (first (faults (drop l.k (code_of l.self)))) ≡ first (faults (code_of l.self))
