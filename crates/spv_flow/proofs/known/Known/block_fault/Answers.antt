use Rattle.std.proofs.Common.{sym, subst}
use Rattle.spv_blocks.specs.Blocks.{Code}
use Rattle.spv_blocks.specs.Seen.{seen_block}
use Rattle.spv_walk.specs.Phis.{predecessors}
use Rattle.spv_faults.specs.Once.{IsSetOf}
use Rattle.spv_faults.proofs.PredecessorLabels.{own-place, own-block}
use Rattle.spv_flow.proofs.known.Known.block_fault.Goals as goal

pub front_fault-requires : goal.front_fault-requires
front_fault-requires c =
    let l = c.args.block.now.label in
    let f = c.args.self.now.function.now in
    subst (λ (g : Code). IsSetOf (predecessors g l) c.in_ok-parents.parents) (sym c.requires.tables.same)
    (c.in_ok-parents.ensures l c.requires.tables.own (own-place f c.requires.tables.own c.args.k (seen_block c.args.block.now) c.requires.here))

pub behind_fault-requires-clause-here : goal.behind_fault-requires-clause-here
behind_fault-requires-clause-here c = own-block c.args.self.now.function.now c.requires.tables.own c.args.k (seen_block c.args.block.now) c.requires.here
