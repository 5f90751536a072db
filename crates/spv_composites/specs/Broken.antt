-- 501 OperandType and 502 ResultType of instructions on vectors, composites, copies and memory.
use Rattle.std.specs.Prelude.{ℕ, Bool, ◌&&◌, List, ◌++◌}
use Rattle.spv_module.specs.First.{unless}
use Rattle.spv_module.specs.Instruction.{Instruction}
use Rattle.spv_composites.specs.Vectors.{vector_operands_fit, vector_result_fits}
use Rattle.spv_composites.specs.Composites.{composite_operands_fit, composite_result_fits}
use Rattle.spv_composites.specs.Memory.{memory_operands_fit, memory_result_fits, atomic_operands_fit, atomic_result_fits}

-- each of these passes every instruction but its own
abbrev pub operands_fit : List Instruction → Instruction → Bool
operands_fit insts i = vector_operands_fit insts i && (composite_operands_fit insts i && (memory_operands_fit insts i && atomic_operands_fit insts i))

abbrev pub result_fits : List Instruction → Instruction → Bool
result_fits insts i = vector_result_fits insts i && (composite_result_fits insts i && (memory_result_fits insts i && atomic_result_fits insts i))

-- the rules that an instruction breaks
abbrev pub composite_rules : List Instruction → Instruction → List ℕ
composite_rules insts i = unless (operands_fit insts i) 501 ++ unless (result_fits insts i) 502
