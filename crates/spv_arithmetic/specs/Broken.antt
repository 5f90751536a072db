-- The rules on types that arithmetic and the operands of terminators break.
use Rattle.std.specs.Prelude.{ℕ, List, ◌++◌}
use Rattle.spv_module.specs.First.{unless}
use Rattle.spv_module.specs.Instruction.{Instruction}
use Rattle.spv_arithmetic.specs.Operands.{operands_fit}
use Rattle.spv_arithmetic.specs.Results.{result_fits}

-- the rules that an instruction breaks: 501 OperandType, 502 ResultType
abbrev pub arithmetic_rules : List Instruction → Instruction → List ℕ
arithmetic_rules insts i = unless (operands_fit insts i) 501 ++ unless (result_fits insts i) 502
