use Rattle.std.proofs.Common.{◌∙◌, sym, ap}
use Rattle.std.specs.BTreeSet.{contains}
use Rattle.std.specs.Ordering.{nat_cmp}
use Rattle.spv_blocks.specs.Seen.{seen_block}
use Rattle.spv_module.specs.First.{first}
use Rattle.spv_walk.specs.Faults.{merge_faults}
use Rattle.spv_walk.specs.Found.{earlier_of}
use Rattle.spv_walk.specs.Phis.{phi_faults}
use Rattle.spv_faults.proofs.EarlierLemmas.{first-append}
use Rattle.spv_faults.proofs.fronts.front_fault.Goals as goal

pub returns : goal.returns
returns c =
    let b = seen_block c.args.block.now in
    let phis = phi_faults (contains nat_cmp c.args.pointers.now) c.args.labels.now c.args.label b.body in
    let merges = merge_faults c.args.labels.now c.args.label b.end b.body in
    c.earlier.ensures.same
    ∙ ap (λ o. earlier_of o c.merge_fault-merge.result) c.in_ok-phi.ensures
    ∙ ap (λ o. earlier_of (first phis) o) c.merge_fault-merge.ensures
    ∙ sym (first-append phis merges)
