use Rattle.std.proofs.Common.{arith}
use Rattle.spv_module.specs.First.{first}
use Rattle.spv_blocks.specs.Seen.{seen_block}
use Rattle.spv_faults.specs.Opens.{open_faults}
use Rattle.spv_faults.proofs.OpenLemmas.{open-next, open-ends, first-open}
use Rattle.spv_faults.proofs.opens.open_fault.Goals as goal

pub each-preserved : goal.each-preserved
each-preserved c =
    open-next c.args.function.now c.each.k (seen_block c.block.result.now) c.each.found c.open_block.result c.earlier-found.result (first (open_faults c.args.function.now))
    c.block.ensures c.open_block.ensures c.earlier-found.ensures.same c.each.invariant

pub returns-clause-is_first : goal.returns-clause-is_first
returns-clause-is_first c =
    first-open c.args.function.now c.each.found (open-ends c.args.function.now c.each.k c.each.found (omega (arith, c.count-k-end.ensures, c.each-test.false)) c.each.invariant)
