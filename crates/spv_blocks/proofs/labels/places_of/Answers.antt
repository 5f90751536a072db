use Rattle.std.proofs.Common.{◌+◌, take, arith}
use Rattle.std.proofs.lemmas.List.{length-take-le}
use Rattle.spv_blocks.specs.Seen.{seen_block}
use Rattle.spv_blocks.proofs.Slices.{take-at}
use Rattle.spv_blocks.proofs.PlaceSteps.{places-more}
use Rattle.spv_blocks.proofs.labels.places_of.Goals as goal

pub each-preserved : goal.each-preserved
each-preserved c =
    let f = c.args.function.now in
    let k = c.each.k in
    places-more c.each.places c.add_place.new.places (take k f) (take (k + 1) f) k (seen_block c.block.result.now) (length-take-le k f (omega arith))
    (take-at f k (seen_block c.block.result.now) c.block.ensures) c.each.invariant c.in_ok-add_place.ensures
