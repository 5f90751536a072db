use Rattle.std.proofs.Common.{◌+◌, List, map, take, subst}
use Rattle.spv_blocks.specs.declared.block.Ins.{Ins as DeclaredIns}
use Rattle.spv_blocks.specs.Blocks.{names_in}
use Rattle.spv_blocks.specs.Places.{AddsNames}
use Rattle.spv_blocks.specs.Seen.{seen_ins, seen_block}
use Rattle.spv_blocks.proofs.Slices.{take-at}
use Rattle.spv_blocks.proofs.PlaceSteps.{names-more}
use Rattle.spv_blocks.proofs.counting.counts_of.Goals as goal

pub each-preserved : goal.each-preserved
each-preserved c =
    let f = c.args.function.now in
    let k = c.each.k in
    names-more c.each.counts c.add_names_of.new.counts (take k f) (take (k + 1) f) (seen_block c.block.result.now) (take-at f k (seen_block c.block.result.now) c.block.ensures)
    c.each.invariant
    (subst (λ (body : List DeclaredIns). AddsNames c.each.counts c.add_names_of.new.counts (names_in (map seen_ins body))) c.deref.ensures.value c.in_ok-add_names_of.ensures)
