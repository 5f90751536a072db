use Rattle.std.proofs.Common.{arith}
use Rattle.spv_blocks.proofs.PlaceSteps.{numbers-more}
use Rattle.spv_blocks.proofs.labels.Labels.numbers.Goals as goal

pub labels-preserved : goal.labels-preserved
labels-preserved c =
    numbers-more c.args.self.now c.args.labels.now c.labels.label-index c.number.result c.labels.numbers.items c.push.new.self.items
    (omega arith) c.number.ensures c.labels.invariant c.in_ok-push.ensures.items
