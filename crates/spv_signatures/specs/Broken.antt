-- The broken rules on functions, calls and returns.
use Rattle.std.specs.Prelude.{ℕ, List, ◌++◌}
use Rattle.spv_module.specs.First.{unless}
use Rattle.spv_module.specs.Instruction.{Instruction}
use Rattle.spv_signatures.specs.Functions.{function_fits}
use Rattle.spv_signatures.specs.Contexts.{next_type_at, result_fits, result_type_at, return_fits}
use Rattle.spv_signatures.specs.Calls.{call_fits}

-- the rules that the k-th instruction breaks, counted from 0: 501 and 502 at functions, parameters and calls, 506 CallShape, 507 ReturnType
abbrev pub signature_rules : List Instruction → (k : ℕ) → Instruction → List ℕ
signature_rules insts k i =
    unless (function_fits insts i) 501
    ++ (unless (result_fits insts (next_type_at insts k) i) 502
    ++ (unless (call_fits insts i) 506
    ++ unless (return_fits insts (result_type_at insts k) i) 507))
