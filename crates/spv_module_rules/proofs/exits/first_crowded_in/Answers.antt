use Rattle.spv_module_rules.proofs.Together.{crowded-all, crowded-more, crowded-none}
use Rattle.spv_module_rules.proofs.exits.first_crowded_in.Goals as goal

pub each-init : goal.each-init
each-init c = λ n is. crowded-none c.args.shapes.now n

pub each-preserved : goal.each-preserved
each-preserved c = λ n is.
    crowded-more c.args.shapes.now n c.each.shape-index c.shape-item.result c.each.refusal c.in_ok-here.here c.earlier-refusal.result
    c.each-test.true c.shape-item.is (c.each.invariant n is) (c.in_ok-here.ensures n is) c.earlier-refusal.ensures.same

pub returns : goal.returns
returns c = λ n is. crowded-all c.args.shapes.now n c.each.shape-index c.each.refusal c.each-test.false (c.each.invariant n is)
