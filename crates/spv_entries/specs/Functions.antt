-- 606 EntryFunction: the functions of entry points. OpFunction has the type that it returns as its word 1 and its own type as its word 4; OpTypeFunction has
-- the types of parameters from its word 3 on; OpFunctionCall has the function as its word 3.
use Rattle.std.specs.Prelude.{ℕ, Bool, cond, ◌==◌, ◌&&◌, ◌||◌, not, List, length, slice_index, Option, Some, None}
use Rattle.spv_opcodes.specs.declared.op.TheConstants as op
use Rattle.spv_module.specs.Instruction.{Instruction, opcode}
use Rattle.spv_module.specs.Layout.{is_entry_point}
use Rattle.spv_ids.specs.Ids.{kind, word_of, words_of}
use Rattle.spv_typing.specs.Kinds.{is_void}
use Rattle.spv_entries.specs.Sizes.{some_names}

-- the function that a call names
abbrev pub called_function : Instruction → Option ℕ
called_function i = cond (opcode i == op.FUNCTION_CALL) (Some (slice_index i.words 3)) None

-- a function that returns nothing and has no parameters, and that no instruction calls
abbrev pub may_be_entered : List Instruction → (function : ℕ) → Bool
may_be_entered insts f =
    kind insts f == op.FUNCTION
    && (is_void insts (word_of insts f 1) && (length (words_of insts (word_of insts f 4) 3) == 0 && not (some_names called_function insts f)))

-- the function of an entry point is such a one; every other instruction passes
unfoldable pub function_fits : List Instruction → Instruction → Bool
function_fits insts i = not (is_entry_point i) || may_be_entered insts (slice_index i.words 2)
