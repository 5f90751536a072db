use Rattle.std.proofs.Common.{◌||◌, ap, sym, ◌∙◌}
use Rattle.spv_module.specs.View.{seen}
use Rattle.spv_functions.specs.Functions.{defines_pointer}
use Rattle.spv_functions.proofs.PointerTypes.{one_more_pointer}
use Rattle.spv_functions.proofs.kinds.pointers.Goals as goal

pub instructions-preserved : goal.instructions-preserved
instructions-preserved c t =
    c.in_ok-add_pointer.ensures t
    ∙ ap (λ b. b || defines_pointer t (seen c.at.result)) (c.instructions.invariant t)
    ∙ sym (one_more_pointer c.args.flat.now.insts c.instructions.k (seen c.at.result) t c.at.ensures)
