-- The normal form of a module breaks no rule on structured control flow, nests no deeper, and is its own normal form: laws, as statements.
use Rattle.std.specs.Prelude.{◌≡◌, ℕ, ◌<◌, List, length, slice_get, Some, None, count_by}
use Rattle.spv_module.specs.Code.{is_function}
use Rattle.spv_module.specs.First.{first}
use Rattle.spv_module.specs.Instruction.{Instruction}
use Rattle.spv_module.specs.Layout.{group_2}
use Rattle.spv_blocks.specs.Cutting.{blocks_of, function_insts}
use Rattle.spv_walk.specs.Rules.{Broken, IsFirst}
use Rattle.spv_normal.specs.Normal.{normal_function}
use Rattle.spv_tree.specs.declared.body.Body.{Body}
use Rattle.spv_tree.specs.Tree.{words_of}
use Rattle.spv_spelling.specs.Whole.{AreInstructions}
use Rattle.spv_texts.specs.Laws.{DefinesOnce}
use Rattle.spv_parse.specs.Functions.{IsTooDeep}
use Rattle.spv_functions.specs.Functions.{IsTree, is_pointer}
use Rattle.spv_norm.specs.Laws.{AreNormal}
use Rattle.spv_norm.specs.Norm.{norm_lines, outside, staying}

-- A module whose functions are read as trees: its instructions are of the profile, no rule on the layout is broken, and no id is defined twice.
pub record IsReadAsTrees (insts : List Instruction) (bodies : List Body) : Type 0 where
  pub end : ℕ
  pub instructions : AreInstructions insts
  pub laid_out : first (group_2 end insts) ≡ None
  pub once : DefinesOnce insts
  pub count : length bodies ≡ count_by is_function insts
  pub each : (k : ℕ) (body : Body) → slice_get bodies k ≡ Some body → IsTree (is_pointer insts) (function_insts k insts) body

-- instructions of the profile with the words of its normal form
pub record IsNormAgain (insts again : List Instruction) : Type 0 where
  pub words : words_of again ≡ norm_lines insts
  pub instructions : AreInstructions again

-- the functions are the normal forms of the first module's, and outside stands what stays
pub record HasNormalFunctions (insts again : List Instruction) : Type 0 where
  pub count : count_by is_function again ≡ count_by is_function insts
  pub each : (k : ℕ) → k < count_by is_function insts → words_of (function_insts k again) ≡ normal_function (function_insts k insts)
  pub outside : words_of (outside again) ≡ words_of (staying insts)

-- ---- the laws, of a module that is read and its normal form

abbrev pub FunctionsAgain : Type 0
FunctionsAgain = (insts again : List Instruction) (bodies : List Body) → IsReadAsTrees insts bodies → IsNormAgain insts again → HasNormalFunctions insts again

-- no rule on structured control flow is broken in a function
abbrev pub NormIsUnbroken : Type 0
NormIsUnbroken =
    (insts again : List Instruction) (bodies : List Body) → IsReadAsTrees insts bodies → IsNormAgain insts again
    → (k : ℕ) → k < count_by is_function again → IsFirst (Broken (is_pointer again) (blocks_of (function_insts k again))) None

-- and none nests too deep
abbrev pub NormIsShallow : Type 0
NormIsShallow =
    (insts again : List Instruction) (bodies : List Body) → IsReadAsTrees insts bodies → IsNormAgain insts again
    → (k : ℕ) → k < count_by is_function again → IsTooDeep (is_pointer again) (function_insts k again) → ⊥

-- it is in normal form,
abbrev pub NormIsNormal : Type 0
NormIsNormal = (insts again : List Instruction) (bodies : List Body) → IsReadAsTrees insts bodies → IsNormAgain insts again → AreNormal again

-- and so is its own normal form
abbrev pub NormStays : Type 0
NormStays =
    (insts again : List Instruction) (bodies : List Body) → IsReadAsTrees insts bodies → IsNormAgain insts again → norm_lines again ≡ words_of again

-- and each of its functions is read as the tree that the module's function is read as
abbrev pub NormIsParsed : Type 0
NormIsParsed =
    (insts again : List Instruction) (bodies : List Body) → IsReadAsTrees insts bodies → IsNormAgain insts again
    → (k : ℕ) (body : Body) → slice_get bodies k ≡ Some body → IsTree (is_pointer again) (function_insts k again) body
