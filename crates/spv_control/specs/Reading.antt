-- What is told of the functions of a module once those below a number are read.
use Rattle.std.specs.Prelude.{◌≡◌, ℕ, ◌<◌, Bool, true, false, List, length, slice_get, Option, None, Some}
use Rattle.spv_base.specs.declared.fault.Refusal.{Refusal}
use Rattle.spv_module.specs.Instruction.{Instruction}
use Rattle.spv_blocks.specs.Blocks.{Code}
use Rattle.spv_blocks.specs.Cutting.{blocks_of, function_insts}
use Rattle.spv_walk.specs.Rules.{Broken, IsFirst}
use Rattle.spv_tree.specs.declared.body.Body.{Body}
use Rattle.spv_parse.specs.Functions.{IsTooDeep}
use Rattle.spv_functions.specs.Functions.{AreShapesBelow, IsTree, is_pointer}

-- a rule is broken in one of the first n functions
pub record BrokenBelow (insts : List Instruction) (n rule at : ℕ) : Type 0 where
  pub function : ℕ
  pub is : function < n
  pub broken : Broken (is_pointer insts) (blocks_of (function_insts function insts)) rule at

-- one of them nests too deep
pub record NestsBelow (insts : List Instruction) (n : ℕ) : Type 0 where
  pub function : ℕ
  pub is : function < n
  pub deep : IsTooDeep (is_pointer insts) (function_insts function insts)

-- a tree for each of them
pub record AreParsedBelow (insts : List Instruction) (n : ℕ) (bodies : List Body) : Type 0 where
  pub count : length bodies ≡ n
  pub each : (k : ℕ) (body : Body) → slice_get bodies k ≡ Some body → IsTree (is_pointer insts) (function_insts k insts) body

-- the first broken rule; whether one nests too deep; and the trees, where no rule is broken and none nests too deep
pub record IsReadBelow (insts : List Instruction) (n : ℕ) (refusal : Option Refusal) (nests : Bool) (bodies : List Body) : Type 0 where
  pub first : IsFirst (BrokenBelow insts n) refusal
  pub deep : nests ≡ true → NestsBelow insts n
  pub trees : refusal ≡ None → nests ≡ false → AreParsedBelow insts n bodies

-- the blocks of each of them, where no rule is broken and none nests too deep
abbrev pub HasShapesBelow : (insts : List Instruction) (n : ℕ) (refusal : Option Refusal) (nests : Bool) (shapes : List Code) → Type 0
HasShapesBelow insts n refusal nests shapes = refusal ≡ None → nests ≡ false → AreShapesBelow insts n shapes
