-- 601 CallCycle: which functions call which. A function is told by the place of its OpFunction among the instructions, counted from 0.
use Rattle.std.specs.Prelude.{◌≡◌, ℕ, Bool, true, false, cond, ◌==◌, ◌&&◌, not, List, [], ◌∷◌, length, map, filter, drop, slice_index, take_while, Option, Some, None}
use Rattle.std.specs.List.{filter_map, flat_map, range_with_len}
use Rattle.graph.specs.Reaching.{IsReached}
use Rattle.graph.specs.Rows.{row}
use Rattle.spv_opcodes.specs.declared.op.TheConstants as op
use Rattle.spv_module.specs.Code.{is_function, is_line}
use Rattle.spv_module.specs.Instruction.{Instruction, opcode}
use Rattle.spv_ids.specs.Ids.{kind, place_of, used_ids}
use Rattle.spv_typing.specs.Kinds.{is_outside}

-- a variable outside functions, of any storage class
abbrev pub is_global : List Instruction → (id : ℕ) → Bool
is_global insts id = kind insts id == op.VARIABLE && is_outside insts id

-- the instructions of the function that begins with the first of some: up to the next OpFunction; none where the first is no OpFunction
abbrev pub up_to_function : List Instruction → List Instruction
up_to_function insts = take_while (λ i. not (is_function i)) insts

abbrev pub function_in : List Instruction → List Instruction
function_in [] = []
function_in (i ∷ is) = cond (is_function i) (i ∷ up_to_function is) []

-- the instructions of the function at a place
abbrev pub function_at : List Instruction → (k : ℕ) → List Instruction
function_at insts k = function_in (drop k insts)

-- the place of the function that an instruction calls; none where it calls none. OpFunctionCall has the function as its word 3
abbrev pub callee : List Instruction → Instruction → Option ℕ
callee insts i =
    cond (opcode i == op.FUNCTION_CALL && kind insts (slice_index i.words 3) == op.FUNCTION) (place_of insts (slice_index i.words 3)) None

-- the functions that some instructions call, and the global variables that they name; OpLine names none, whatever its file is
abbrev pub callees : List Instruction → List Instruction → List ℕ
callees insts is = filter_map (callee insts) is

abbrev pub globals_of : List Instruction → Instruction → List ℕ
globals_of insts i = cond (is_line i) [] (filter (is_global insts) (used_ids i))

abbrev pub globals_in : List Instruction → List Instruction → List ℕ
globals_in insts is = flat_map (globals_of insts) is

-- those of the function at a place
abbrev pub calls_at : List Instruction → (k : ℕ) → List ℕ
calls_at insts k = callees insts (function_at insts k)

abbrev pub globals_at : List Instruction → (k : ℕ) → List ℕ
globals_at insts k = globals_in insts (function_at insts k)

-- the graph of calls over all places; what is no OpFunction calls nothing
abbrev pub calls : List Instruction → List (List ℕ)
calls insts = map (calls_at insts) (range_with_len 0 (length insts))

-- a function reaches itself: a function that it calls reaches it by calls
abbrev pub CallsItself : List Instruction → (k : ℕ) → Type 0
CallsItself insts k = IsReached (calls insts) (row (calls insts) k) k

-- the function at a place does not reach itself; every other instruction passes
abbrev pub CallsFit : List Instruction → (k : ℕ) → Instruction → Type 0
CallsFit insts k i = is_function i ≡ true → ¬ CallsItself insts k
