-- The instruction that an Inst holds.
use Rattle.spv_module.specs.declared.inst.Inst.{Inst}
use Rattle.spv_module.specs.Instruction.{Instruction}

abbrev pub held : Inst → Instruction
held inst = record { offset = inst.offset; words = inst.words }
