use Rattle.std.proofs.Common.{arith}
use Rattle.spv_blocks.proofs.PlaceSteps.{seconds-more}
use Rattle.spv_blocks.proofs.block.push_seconds.Goals as goal

pub pairs-preserved : goal.pairs-preserved
pairs-preserved c =
    seconds-more c.args.pairs.now c.pairs.pair-index c.args.labels.now.items c.pairs.labels.items c.push.new.self.items (omega arith) c.pairs.invariant c.in_ok-push.ensures.items
