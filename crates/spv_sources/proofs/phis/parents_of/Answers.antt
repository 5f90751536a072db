use Rattle.spv_sources.specs.Source.{label_in}
use Rattle.spv_sources.proofs.Collected.{parents-more}
use Rattle.spv_sources.proofs.phis.parents_of.Goals as goal

pub pairs-preserved : goal.pairs-preserved
pairs-preserved c =
    parents-more (label_in c.args.stays.now.entries) c.args.pairs.now c.pairs.pair-index c.pair-item.result c.stay.result c.pairs.parents c.push.new.self c.pairs-test.true c.pair-item.is
    c.stay.ensures c.in_ok-push.ensures.ok c.pairs.invariant
