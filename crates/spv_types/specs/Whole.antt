-- The tables of a whole module.
use Rattle.std.specs.Prelude.{◌≡◌, ℕ, ⊤, Bool, List, length, Option, Some, None, Result, Ok, Err}
use Rattle.spv_base.specs.declared.fault.Fault.{Fault}
use Rattle.spv_base.specs.declared.fault.Fault.TheVariants as faults
use Rattle.spv_base.specs.declared.fault.Refusal.{Refusal}
use Rattle.spv_module.specs.Instruction.{Instruction}
use Rattle.spv_module.specs.Layout.{RisesTo}
use Rattle.spv_declarations.specs.Declarations.{declared_before}
use Rattle.spv_declarations.specs.Sound.{AreInstructions, Unbroken}
use Rattle.spv_types.specs.declared.meaning.Kept.{Kept}
use Rattle.spv_types.specs.Entries.{AreKept}
use Rattle.spv_types.specs.Meanings.{StandFor}
use Rattle.spv_types.specs.Progress.{IsRead}

-- Refused where there is a first broken rule, with it, and otherwise something that holds; or memory is wanting.
abbrev pub Finds : {T : Type 0} → Option Refusal → (T → Type 0) → Result T Fault → Type 0
Finds found Holds (Ok x) = (found ≡ None) × Holds x
Finds found Holds (Err (faults.Refused refusal)) = found ≡ Some refusal
Finds found Holds (Err faults.Nesting) = ⊥
Finds found Holds (Err faults.NoMemory) = ⊤

-- the places of the instructions rise from 5 on
abbrev pub Rises : List Instruction → Type 0
Rises insts = (end : ℕ) × RisesTo end 5 insts

-- No instruction breaks a rule, and what is kept stands for all that is declared.
pub record HasMeanings (insts decorations : List Instruction) (entries : List (ℕ × Kept)) : Type 0 where
  pub same : decorations ≡ insts
  pub instructions : AreInstructions insts
  pub unbroken : Unbroken insts (length insts)
  pub stand : StandFor (declared_before insts (length insts)).table (declared_before insts (length insts)).specialised entries

-- what is known when k instructions were read
pub record AreRead (insts : List Instruction) (k : ℕ) (begun : Bool) (entries : List (ℕ × Kept)) : Type 0 where
  pub end : ℕ
  pub read : IsRead end insts k
  pub kept : AreKept (declared_before insts k) entries
  pub begun_is : (declared_before insts k).begun ≡ begun
