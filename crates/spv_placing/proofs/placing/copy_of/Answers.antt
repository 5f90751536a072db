use Rattle.std.proofs.Common.{List, ◌++◌, ◌∷◌, [], sym, ap, ◌∙◌, arith}
use Rattle.spv_module.specs.Instruction.{Instruction}
use Rattle.spv_module.specs.View.{seen}
use Rattle.spv_placing.proofs.Steps.{take-at}
use Rattle.spv_placing.proofs.placing.copy_of.Goals as goal

pub instructions-preserved : goal.instructions-preserved
instructions-preserved c =
    c.in_ok-push_view.ensures.ok
    ∙ ap (λ (is : List Instruction). is ++ seen c.at.result ∷ []) c.instructions.invariant
    ∙ sym (take-at c.args.all.now c.instructions.k (seen c.at.result) (omega arith) c.at.ensures)
