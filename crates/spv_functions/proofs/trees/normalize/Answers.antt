use Rattle.spv_blocks.specs.Cutting.{function_insts}
use Rattle.spv_functions.specs.Functions.{is_pointer}
use Rattle.spv_functions.proofs.Answering.{tree_is_normal}
use Rattle.spv_functions.proofs.trees.normalize.Goals as goal

pub returns : goal.returns
returns c =
    let insts = c.args.flat.now.insts in
    tree_is_normal (is_pointer insts) (function_insts c.args.f insts) c.in_ok-body.body c.in_ok-flatten.field-0 c.in_ok-body.ensures c.in_ok-flatten.ensures
