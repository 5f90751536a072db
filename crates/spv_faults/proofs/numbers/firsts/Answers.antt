use Rattle.spv_faults.proofs.Repetition.{firsts-more}
use Rattle.spv_faults.proofs.numbers.firsts.Goals as goal

pub pairs-preserved : goal.pairs-preserved
pairs-preserved c =
    firsts-more c.args.pairs.now c.pairs.pair-index c.pairs.numbers.items c.push.new.self.items c.pairs-test.true c.pairs.invariant c.in_ok-push.ensures.items
