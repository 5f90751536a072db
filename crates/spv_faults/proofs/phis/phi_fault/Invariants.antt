use Rattle.std.proofs.Common.{◌≡◌, drop, map}
use Rattle.std.specs.BTreeSet.{contains}
use Rattle.std.specs.Ordering.{nat_cmp}
use Rattle.spv_module.specs.First.{first}
use Rattle.spv_blocks.specs.Seen.{seen_ins}
use Rattle.spv_walk.specs.Phis.{phi_faults}
use Rattle.spv_walk.specs.Found.{earlier_of}
use Rattle.spv_faults.specs.Parts.{phi_faults_from}
use Rattle.spv_faults.proofs.phis.phi_fault.Given as goal

abbrev pub invariant-instructions : goal.invariant-instructions
invariant-instructions l =
    let body = map seen_ins l.body in
    let is_pointer = contains nat_cmp l.pointers in
    earlier_of l.found (first (phi_faults_from is_pointer l.labels l.label l.late (drop l.inst-index body))) ≡ first (phi_faults is_pointer l.labels l.label body)
