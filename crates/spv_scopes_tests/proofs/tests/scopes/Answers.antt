use Rattle.spv_blocks.specs.Cutting.{function_at}
use Rattle.spv_scopes_tests.proofs.Spelled.{numbered_blocks}
use Rattle.spv_scopes_tests.proofs.tests.scopes.Goals as goal

pub of-requires-in-Ok-2-clause-numbered : goal.of-requires-in-Ok-2-clause-numbered
of-requires-in-Ok-2-clause-numbered c =
    numbered_blocks _ (function_at c.args.first c.args.flat.now.insts) c.in-Ok._parsed.body c.args.function.now c.args.labels.now c.in-Ok.ensures.tree c.requires.same c.requires.blocks
