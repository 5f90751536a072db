-- 506 CallShape: the callee and the arguments of OpFunctionCall.
use Rattle.std.specs.Prelude.{ℕ, Bool, true, false, ◌==◌, ◌&&◌, ◌||◌, not, List, [], ◌∷◌, length, drop, slice_index}
use Rattle.std.specs.List.{list_all, zip}
use Rattle.spv_opcodes.specs.declared.op.TheConstants as op
use Rattle.spv_opcodes.specs.declared.decoration.TheConstants as decoration
use Rattle.spv_module.specs.Instruction.{Instruction, opcode}
use Rattle.spv_ids.specs.Ids.{kind}
use Rattle.spv_typing.specs.Kinds.{is_one_of, is_pointer}
use Rattle.spv_decorations.specs.Decorations.{has_decoration}
use Rattle.spv_values.specs.Values.{is_value_of}
use Rattle.spv_signatures.specs.Functions.{Parameter, names_function, parameters_of}

abbrev pub is_volatile : List Instruction → (id : ℕ) → Bool
is_volatile insts id = has_decoration insts id decoration.VOLATILE

abbrev pub are_same : Bool → Bool → Bool
are_same true b = b
are_same false b = not b

-- a pointer is passed from a variable or a parameter, and is Volatile exactly where the parameter is
abbrev pub pointer_fits : List Instruction → (parameter argument : ℕ) → Bool
pointer_fits insts p a = is_one_of (op.VARIABLE ∷ op.FUNCTION_PARAMETER ∷ []) (kind insts a) && are_same (is_volatile insts p) (is_volatile insts a)

-- an argument is a value of the parameter's type
unfoldable pub argument_fits : List Instruction → Parameter → (argument : ℕ) → Bool
argument_fits insts p a = is_value_of insts p.ty a && (not (is_pointer insts p.ty) || pointer_fits insts p.id a)

-- as many arguments as parameters, and each fits
abbrev pub arguments_fit : List Instruction → List Parameter → (arguments : List ℕ) → Bool
arguments_fit insts parameters arguments =
    length parameters == length arguments && list_all (λ pair. argument_fits insts pair.0 pair.1) (zip parameters arguments)

-- a call names a function, and arguments that fit its parameters; every other instruction passes
unfoldable pub call_fits : List Instruction → Instruction → Bool
call_fits insts i =
    not (opcode i == op.FUNCTION_CALL)
    || (names_function insts (slice_index i.words 3) && arguments_fit insts (parameters_of insts (slice_index i.words 3)) (drop 4 i.words))
