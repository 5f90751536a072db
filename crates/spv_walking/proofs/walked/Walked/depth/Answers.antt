use Rattle.std.proofs.Common.{◌≤◌, length, sym, ap, subst, ◌∙◌, arith}
use Rattle.spv_blocks.specs.Blocks.{Code}
use Rattle.spv_blocks.specs.Seen.{seen_block}
use Rattle.spv_walk.specs.Walked.{InPlaces}
use Rattle.spv_walking.specs.Depths.{IsDepth, depth_at}
use Rattle.spv_walking.specs.Table.{context_of}
use Rattle.spv_walking.proofs.GreatestDepth.{depth_none, depth_more, depth_all}
use Rattle.spv_walking.proofs.walked.Walked.depth.Goals as goal

pub each-init : goal.each-init
each-init c = depth_none c.args.function.now (context_of c.args.self.now)

pub each-preserved : goal.each-preserved
each-preserved c =
    let x = seen_block c.block.result.now in
    let place = context_of c.args.self.now in
    depth_more c.args.function.now place c.each.k x c.each.depth c.depth_at.result c.greater-depth.result c.block.ensures c.each.invariant
    (c.depth_at.ensures ∙ ap (λ (f : Code). depth_at f x.label (place x.label)) c.requires.same)
    c.greater-depth.ensures.first c.greater-depth.ensures.second c.greater-depth.ensures.either

pub returns : goal.returns
returns c =
    let n : length c.args.function.now ≤ c.each.k = (let t = c.each-test.false in let e = c.count-k-end.ensures in omega arith) in
    subst (λ (f : Code). IsDepth f (InPlaces (context_of c.args.self.now)) c.each.depth) (sym c.requires.same)
    (depth_all c.args.function.now (context_of c.args.self.now) c.each.k c.each.depth n c.each.invariant)
