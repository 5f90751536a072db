use Rattle.std.proofs.Common.{◌+◌, List, subst, sym}
use Rattle.spv_module.specs.View.{seen}
use Rattle.spv_availability.specs.declared.places.Standing.{Standing}
use Rattle.spv_availability.proofs.Standings.{StandFirst, stand-push}
use Rattle.spv_availability.proofs.places.standings_of.Goals as goal

pub instructions-preserved : goal.instructions-preserved
instructions-preserved c =
    subst (λ (xs : List Standing). StandFirst c.args.flat.now.insts (c.instructions.k + 1) c.function_behind-function.result c.block_behind-block.result xs)
    (sym c.in_ok-push.ensures.items)
    (stand-push c.args.flat.now.insts c.instructions.k (seen c.at-inst.result) c.at-inst.ensures c.instructions.function c.instructions.block
    c.function_behind-function.result c.block_behind-block.result c.instructions.standings.items c.instructions.invariant
    c.function_behind-function.ensures c.block_behind-block.ensures)
