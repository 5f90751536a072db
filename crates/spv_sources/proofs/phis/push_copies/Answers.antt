use Rattle.spv_sources.proofs.Collected.{copies-more, value-here}
use Rattle.spv_sources.proofs.phis.push_copies.Goals as goal

pub copy_of-requires : goal.copy_of-requires
copy_of-requires c = value-here c.args.phis.now c.phis.phi-index c.phi-item.result c.phis-test.true c.phi-item.is c.requires

pub phis-preserved : goal.phis-preserved
phis-preserved c =
    copies-more c.args.phis.now c.phis.phi-index c.phi-item.result c.in_ok-copy_of.field-0 c.args.items.now.items c.phis.items.items c.push.new.self.items c.phis-test.true c.phi-item.is
    c.in_ok-copy_of.ensures c.in_ok-push.ensures.items c.phis.invariant
