-- Functions by their ids: their types and their parameters.
use Rattle.std.specs.Prelude.{ℕ, suc, Bool, false, cond, ◌==◌, ◌&&◌, ◌||◌, not, List, [], ◌∷◌, length, drop, slice_get, slice_index}
use Rattle.std.specs.Option.{option_map_or}
use Rattle.spv_opcodes.specs.declared.op.TheConstants as op
use Rattle.spv_module.specs.Code.{is_function, is_line}
use Rattle.spv_module.specs.Instruction.{Instruction, opcode}
use Rattle.spv_ids.specs.Ids.{kind, place_of, word_of, words_of}
pub use Rattle.spv_signatures.specs.declared.parameters.Parameter.{Parameter}

-- a function type: its return type, and the types of its parameters
abbrev pub is_function_type : List Instruction → (t : ℕ) → Bool
is_function_type insts t = kind insts t == op.TYPE_FUNCTION

abbrev pub return_type : List Instruction → (t : ℕ) → ℕ
return_type insts t = word_of insts t 2

abbrev pub parameter_types : List Instruction → (t : ℕ) → List ℕ
parameter_types insts t = words_of insts t 3

abbrev pub is_parameter : Instruction → Bool
is_parameter i = opcode i == op.FUNCTION_PARAMETER

-- the parameter that an OpFunctionParameter is
abbrev pub parameter : Instruction → Parameter
parameter i = record { ty = slice_index i.words 1; id = slice_index i.words 2 }

-- the parameters that instructions begin with; line marks are looked past
abbrev pub leading_parameters : List Instruction → List Parameter
leading_parameters [] = []
leading_parameters (i ∷ is) = cond (is_line i) (leading_parameters is) (cond (is_parameter i) (parameter i ∷ leading_parameters is) [])

-- the parameters of the function that the k-th instruction begins, directly behind it; none where it begins no function
abbrev pub begins_function : List Instruction → (k : ℕ) → Bool
begins_function insts k = option_map_or is_function (slice_get insts k) false

abbrev pub parameters_at : List Instruction → (k : ℕ) → List Parameter
parameters_at insts k = cond (begins_function insts k) (leading_parameters (drop (suc k) insts)) []

-- the parameters of a function by its id
abbrev pub parameters_of : List Instruction → (f : ℕ) → List Parameter
parameters_of insts f = option_map_or (parameters_at insts) (place_of insts f) []

abbrev pub names_function : List Instruction → (id : ℕ) → Bool
names_function insts id = kind insts id == op.FUNCTION

-- 501, of functions: the type of a function is a function type, with as many parameter types as the function has parameters; every other instruction passes
unfoldable pub function_fits : List Instruction → Instruction → Bool
function_fits insts i =
    not (opcode i == op.FUNCTION)
    || (is_function_type insts (slice_index i.words 4)
    && length (parameter_types insts (slice_index i.words 4)) == length (parameters_of insts (slice_index i.words 2)))
