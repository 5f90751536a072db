-- The normal form of a module that breaks rule 607 nowhere breaks it nowhere: laws, as statements.
use Rattle.std.specs.Prelude.{ℕ, List}
use Rattle.spv_module.specs.Instruction.{Instruction}
use Rattle.spv_walk.specs.Found.{Holds}
use Rattle.spv_tree.specs.declared.body.Body.{Body}
use Rattle.spv_exits.specs.Exits.{AreNestedTogether, crowded_in_all, functions_of}
use Rattle.spv_norm_structured.specs.Laws.{IsNormAgain, IsReadAsTrees}

-- no block is crowded: 607 is broken nowhere, whatever number of nested returns the functions have together
abbrev pub IsUncrowded : List Instruction → Type 0
IsUncrowded insts = (nested rule at : ℕ) → AreNestedTogether (functions_of insts) nested → Holds (crowded_in_all (functions_of insts) nested) rule at → ⊥

-- ---- the laws, of a module that is read and its normal form

-- the functions of a module that is read have a number of nested returns
abbrev pub ReadHasNested : Type 0
ReadHasNested = (insts : List Instruction) (bodies : List Body) → IsReadAsTrees insts bodies → (nested : ℕ) × AreNestedTogether (functions_of insts) nested

-- a number of nested returns of the normal form is one of the module
abbrev pub NormNestsAlike : Type 0
NormNestsAlike =
    (insts again : List Instruction) (bodies : List Body) → IsReadAsTrees insts bodies → IsNormAgain insts again
    → (nested : ℕ) → AreNestedTogether (functions_of again) nested → AreNestedTogether (functions_of insts) nested

-- no block of it is crowded where none of the module is
abbrev pub NormIsUncrowded : Type 0
NormIsUncrowded =
    (insts again : List Instruction) (bodies : List Body) → IsReadAsTrees insts bodies → IsNormAgain insts again → IsUncrowded insts → IsUncrowded again
