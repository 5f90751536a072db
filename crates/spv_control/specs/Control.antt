-- The rules on structured control flow over the functions of a module, and the trees of its functions.
use Rattle.std.specs.Prelude.{◌≡◌, ℕ, ◌<◌, List, length, slice_get, None, Some, Result, Ok, Err}
use Rattle.std.specs.List.{count_by}
use Rattle.spv_base.specs.declared.fault.Fault.{Fault}
use Rattle.spv_base.specs.declared.fault.Fault.TheVariants as faults
use Rattle.spv_module.specs.Code.{is_function}
use Rattle.spv_module.specs.Instruction.{Instruction}
use Rattle.spv_blocks.specs.Cutting.{blocks_of, function_insts}
use Rattle.spv_walk.specs.Rules.{Broken, IsFirst}
use Rattle.spv_tree.specs.declared.body.Body.{Body}
use Rattle.spv_parse.specs.Functions.{IsTooDeep}
use Rattle.spv_functions.specs.Functions.{IsTree, is_pointer}
use Rattle.spv_control.specs.declared.reading.Read.{Read}

-- a rule is broken in one of the functions
pub record BrokenInSome (insts : List Instruction) (rule at : ℕ) : Type 0 where
  pub function : ℕ
  pub is : function < count_by is_function insts
  pub broken : Broken (is_pointer insts) (blocks_of (function_insts function insts)) rule at

-- more than 255 constructs lie round one point of one of them
pub record NestsTooDeep (insts : List Instruction) : Type 0 where
  pub function : ℕ
  pub is : function < count_by is_function insts
  pub deep : IsTooDeep (is_pointer insts) (function_insts function insts)

-- a tree for each function, in order
pub record AreParsed (insts : List Instruction) (bodies : List Body) : Type 0 where
  pub count : length bodies ≡ count_by is_function insts
  pub each : (k : ℕ) (body : Body) → slice_get bodies k ≡ Some body → IsTree (is_pointer insts) (function_insts k insts) body

-- the first broken rule of all functions; or none is broken and one nests too deep; or the trees
abbrev pub Reads : List Instruction → Result (List Body) Fault → Type 0
Reads insts (Ok bodies) = AreParsed insts bodies
Reads insts (Err (faults.Refused refusal)) = IsFirst (BrokenInSome insts) (Some refusal)
Reads insts (Err faults.Nesting) = IsFirst (BrokenInSome insts) None × NestsTooDeep insts
Reads insts (Err faults.NoMemory) = Unit {0}

-- the trees alone of what functions are read as
abbrev pub trees_of : Result Read Fault → Result (List Body) Fault
trees_of (Ok read) = Ok read.bodies
trees_of (Err fault) = Err fault
