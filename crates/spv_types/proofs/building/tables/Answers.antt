use Rattle.std.proofs.Common.{List, subst}
use Rattle.spv_module.specs.Instruction.{Instruction}
use Rattle.spv_declarations.specs.Sound.{AreInstructions}
use Rattle.spv_types.proofs.building.tables.Goals as goal

pub meanings_of-requires-clause-instructions : goal.meanings_of-requires-clause-instructions
meanings_of-requires-clause-instructions c = subst (λ (insts : List Instruction). AreInstructions insts) c.insts.ensures.same c.each_is_instruction.ensures
