use Rattle.spv_module.specs.First.{first}
use Rattle.std.proofs.Common.{map}
use Rattle.spv_blocks.specs.Seen.{seen_end, seen_ins}
use Rattle.spv_walk.specs.Faults.{merge_faults}
use Rattle.spv_faults.proofs.FrontLemmas.{merge-next}
use Rattle.spv_faults.proofs.merging.merge_fault.Goals as goal

pub instructions-preserved : goal.instructions-preserved
instructions-preserved c =
    let body = c.as_slice-body.result.now in
    merge-next c.args.labels.now c.args.header (seen_end c.args.block.now.end) body c.instructions.k c.index-body-k.result c.instructions.found c.merge_fault_of-fault.result c.earlier-found.result
    (first (merge_faults c.args.labels.now c.args.header (seen_end c.args.block.now.end) (map seen_ins body)))
    c.instructions-test.true c.index-body-k.is c.merge_fault_of-fault.ensures c.earlier-found.ensures.same c.instructions.invariant
