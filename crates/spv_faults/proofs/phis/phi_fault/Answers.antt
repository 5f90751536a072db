use Rattle.std.proofs.Common.{map}
use Rattle.std.specs.BTreeSet.{contains}
use Rattle.std.specs.Ordering.{nat_cmp}
use Rattle.spv_module.specs.First.{first}
use Rattle.spv_blocks.specs.Seen.{seen_ins}
use Rattle.spv_walk.specs.Phis.{phi_faults}
use Rattle.spv_faults.proofs.FrontLemmas.{phi-next}
use Rattle.spv_faults.proofs.phis.phi_fault.Goals as goal

pub instructions-preserved : goal.instructions-preserved
instructions-preserved c =
    let body = c.as_slice-body.result.now in
    let is_pointer = contains nat_cmp c.args.pointers.now in
    phi-next is_pointer c.args.labels.now c.args.label c.instructions.late c.is_late-late.result body c.instructions.inst-index c.inst-item.result
    c.instructions.found c.in_ok-fault.fault c.earlier-found.result (first (phi_faults is_pointer c.args.labels.now c.args.label (map seen_ins body)))
    c.instructions-test.true c.inst-item.is c.in_ok-fault.ensures c.earlier-found.ensures.same c.is_late-late.ensures c.instructions.invariant
