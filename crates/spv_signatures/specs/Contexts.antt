-- The function that an instruction stands in, and what that asks of results and returns.
use Rattle.std.specs.Prelude.{◌≡◌, ℕ, suc, Bool, true, false, cond, ◌==◌, ◌&&◌, ◌||◌, not, nat_eq, List, [], take, drop, slice_get, slice_index, Option, Some, None}
use Rattle.std.specs.List.{fold}
use Rattle.std.specs.Option.{option_map_or}
use Rattle.spv_opcodes.specs.declared.op.TheConstants as op
use Rattle.spv_module.specs.Code.{is_function}
use Rattle.spv_module.specs.Instruction.{Instruction, opcode}
use Rattle.spv_typing.specs.Kinds.{is_void, type_of}
use Rattle.spv_values.specs.Values.{is_value_of}
use Rattle.spv_signatures.specs.declared.contexts.Context.{Context}
use Rattle.spv_signatures.specs.Functions.{is_parameter, return_type, parameter_types, names_function}

-- the OpFunction that the k-th instruction stands in: the last one before it
abbrev pub latest : Option Instruction → Instruction → Option Instruction
latest before i = cond (is_function i) (Some i) before

abbrev pub function_of : List Instruction → (k : ℕ) → Option Instruction
function_of insts k = fold latest None (take k insts)

-- how many parameters of that function stand before the k-th instruction
abbrev pub counted : ℕ → Instruction → ℕ
counted before i = cond (is_function i) 0 (cond (is_parameter i) (suc before) before)

abbrev pub parameters_before : List Instruction → (k : ℕ) → ℕ
parameters_before insts k = fold counted 0 (take k insts)

-- the result type of a function, 0 where there is none; the parameter types of its function type
abbrev pub result_type_in : Option Instruction → ℕ
result_type_in f = option_map_or (λ i. slice_index i.words 1) f 0

abbrev pub types_in : List Instruction → Option Instruction → List ℕ
types_in insts f = option_map_or (λ i. parameter_types insts (slice_index i.words 4)) f []

-- the result type of the function that the k-th instruction stands in
abbrev pub result_type_at : List Instruction → (k : ℕ) → ℕ
result_type_at insts k = result_type_in (function_of insts k)

-- the parameter type of that function for its next parameter, if it has one more
abbrev pub next_type_at : List Instruction → (k : ℕ) → Option ℕ
next_type_at insts k = slice_get (types_in insts (function_of insts k)) (parameters_before insts k)

-- 502, of functions: the result type of a function is the return type of its type, that of a parameter is the one that its place has there, and that of a
-- call is the result type of the callee; every other instruction passes
unfoldable pub result_fits : List Instruction → (next_type : Option ℕ) → Instruction → Bool
result_fits insts next_type i =
    cond (opcode i == op.FUNCTION) (return_type insts (slice_index i.words 4) == slice_index i.words 1)
    (cond (opcode i == op.FUNCTION_PARAMETER) (option_map_or (nat_eq (slice_index i.words 1)) next_type false)
    (cond (opcode i == op.FUNCTION_CALL) (not (names_function insts (slice_index i.words 3)) || type_of insts (slice_index i.words 3) == slice_index i.words 1)
    true))

-- 507 ReturnType: OpReturn stands in a function whose result type is void, OpReturnValue in another one and returns a value of that type; every other
-- instruction passes
unfoldable pub return_fits : List Instruction → (result_type : ℕ) → Instruction → Bool
return_fits insts t i =
    cond (opcode i == op.RETURN) (is_void insts t)
    (cond (opcode i == op.RETURN_VALUE) (not (is_void insts t) && is_value_of insts t (slice_index i.words 1))
    true)

-- what is kept of the function that the k-th instruction stands in: its result type, and the parameter types to come
pub record IsContext (insts : List Instruction) (k : ℕ) (context : Context) : Type 0 where
  pub result_type : context.result_type ≡ result_type_at insts k
  pub types : context.types.now ≡ drop (parameters_before insts k) (types_in insts (function_of insts k))

-- the parameter types to come behind an instruction
abbrev pub types_behind : List Instruction → (before : List ℕ) → Instruction → List ℕ
types_behind insts before i = cond (is_function i) (parameter_types insts (slice_index i.words 4)) (cond (is_parameter i) (drop 1 before) before)
