-- The instruction that a view lends.
use Rattle.spv_module.specs.declared.view.View.{View}
use Rattle.spv_module.specs.Instruction.{Instruction}

abbrev pub seen : View → Instruction
seen view = record { offset = view.offset; words = view.words.now }
