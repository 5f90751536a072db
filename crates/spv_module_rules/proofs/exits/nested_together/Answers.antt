use Rattle.spv_module_rules.proofs.Together.{counted-all, counted-more, counted-none}
use Rattle.spv_module_rules.proofs.exits.nested_together.Goals as goal

pub each-init : goal.each-init
each-init c = counted-none c.args.shapes.now

pub each-preserved : goal.each-preserved
each-preserved c =
    counted-more c.args.shapes.now c.each.shape-index c.shape-item.result c.each.nested c.nested_in.result c.add_nested-nested.result
    c.each-test.true c.shape-item.is c.each.invariant c.nested_in.ensures c.add_nested-nested.ensures

pub returns : goal.returns
returns c = counted-all c.args.shapes.now c.each.shape-index c.each.nested c.each-test.false c.each.invariant
