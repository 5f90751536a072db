use Rattle.std.proofs.Common.{◌≤◌, length, sym, arith}
use Rattle.spv_blocks.specs.Seen.{seen_block}
use Rattle.spv_walking.specs.Table.{context_of}
use Rattle.spv_walking.proofs.LoopEnds.{ends_none, ends_next, ends_all}
use Rattle.spv_walking.proofs.walked.Walked.back_edges.Goals as goal

pub each-init : goal.each-init
each-init c = ends_none c.args.labels.now (context_of c.args.self.now) c.in_ok-edges.edges c.in_ok-edges.ensures

pub each-preserved : goal.each-preserved
each-preserved c =
    ends_next c.args.labels.now c.args.function.now (context_of c.args.self.now) c.each.edges c.add.new.self c.each.k (seen_block c.block.result.now) c.ends_loop.result (sym c.requires.same)
    c.block.ensures c.each.invariant c.ends_loop.ensures c.in_ok-add.ensures

pub returns : goal.returns
returns c =
    let n : length c.args.function.now ≤ c.each.k = (let t = c.each-test.false in let e = c.count-k-end.ensures in omega arith) in
    ends_all c.args.labels.now c.args.function.now (context_of c.args.self.now) c.each.k c.each.edges (sym c.requires.same) c.requires.walk n c.each.invariant
