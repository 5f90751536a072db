use Rattle.std.proofs.Common.{◌≡◌, drop, map}
use Rattle.spv_module.specs.First.{first}
use Rattle.spv_blocks.specs.Seen.{seen_end, seen_ins}
use Rattle.spv_walk.specs.Faults.{merge_faults}
use Rattle.spv_walk.specs.Found.{earlier_of}
use Rattle.spv_faults.proofs.merging.merge_fault.Given as goal

abbrev pub invariant-instructions : goal.invariant-instructions
invariant-instructions l =
    let end = seen_end l.block.end in
    let body = map seen_ins l.body in
    earlier_of l.found (first (merge_faults l.labels l.header end (drop l.k body))) ≡ first (merge_faults l.labels l.header end body)
