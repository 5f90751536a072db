-- The normal form of a module in which 503 is broken nowhere breaks it nowhere: laws, as statements.
use Rattle.std.specs.Prelude.{◌≡◌, ℕ, ◌<◌, false, List, count_by, slice_get, Some, None}
use Rattle.spv_module.specs.Code.{is_function, is_line}
use Rattle.spv_module.specs.First.{first}
use Rattle.spv_module.specs.Instruction.{Instruction}
use Rattle.spv_module.specs.Layout.{group_2}
use Rattle.spv_tree.specs.declared.body.Body.{Body}
use Rattle.spv_texts.specs.Laws.{DefinesOnce}
use Rattle.spv_availability.specs.Availability.{IsUnavailable}
use Rattle.spv_fine_trees.specs.Laws.{KnowsTypes}
use Rattle.spv_norm_structured.specs.Laws.{IsNormAgain, IsReadAsTrees}
use Rattle.spv_alike.specs.Alike.{AreAlike}
use Rattle.spv_alike.specs.Uses.{UsesNoLabels}

-- no instruction of functions uses what is not available there
abbrev pub NoneMissing : List Instruction → Type 0
NoneMissing insts = (k : ℕ) (i : Instruction) → slice_get insts k ≡ Some i → is_line i ≡ false → IsUnavailable insts k i → ⊥

-- the types that functions, parameters and OpPhi name are defined outside functions
abbrev pub KnowsAllTypes : List Instruction → Type 0
KnowsAllTypes insts = (k : ℕ) → k < count_by is_function insts → KnowsTypes insts k

-- of a module that is read as trees, and instructions with the words of its normal form, whose layout breaks no rule
abbrev pub NormIsAvailable : Type 0
NormIsAvailable =
    (insts again : List Instruction) (bodies : List Body) → IsReadAsTrees insts bodies → IsNormAgain insts again → ((end : ℕ) → first (group_2 end again) ≡ None)
    → DefinesOnce again → AreAlike insts again → UsesNoLabels insts → KnowsAllTypes insts → NoneMissing insts → NoneMissing again
