-- Where functions stand in a module, and one of them replaced.
use Rattle.std.specs.Prelude.{ℕ, zero, suc, ◌+◌, cond, List, [], ◌∷◌, ◌++◌, take, drop}
use Rattle.spv_module.specs.Code.{is_function}
use Rattle.spv_module.specs.Instruction.{Instruction}

-- how many instructions stand before the first OpFunction, or all where there is none
abbrev pub until_function : List Instruction → ℕ
until_function [] = 0
until_function (i ∷ is) = cond (is_function i) 0 (suc (until_function is))

-- the place of the first OpFunction from a place on, or the end
abbrev pub next_function : (from : ℕ) → List Instruction → ℕ
next_function from insts = from + until_function (drop from insts)

-- the place of the OpFunction of a function, counted from 0
abbrev pub function_start : (f : ℕ) → List Instruction → ℕ
function_start zero insts = next_function 0 insts
function_start (suc f) insts = next_function (function_start f insts + 1) insts

-- the instructions of a function, from its OpFunction to before the next one or to the end, are replaced by a list
abbrev pub with_function : (f : ℕ) (list insts : List Instruction) → List Instruction
with_function f list insts = (take (function_start f insts) insts ++ list) ++ drop (next_function (function_start f insts + 1) insts) insts
