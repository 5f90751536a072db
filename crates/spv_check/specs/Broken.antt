-- The rules on the instructions of functions, 501 to 507.
use Rattle.std.specs.Prelude.{◌≡◌, ℕ, ◌+◌, ⊤, true, List, slice_get, Some, None, Result, Ok, Err}
use Rattle.std.specs.List.{Contains}
use Rattle.spv_base.specs.declared.fault.Fault.{Fault}
use Rattle.spv_base.specs.declared.fault.Fault.TheVariants as faults
use Rattle.spv_module.specs.Instruction.{Instruction}
use Rattle.spv_walk.specs.Rules.{IsFirst}
use Rattle.spv_body_rules.specs.Broken.{body_rules, is_of_functions}
use Rattle.spv_availability.specs.Availability.{IsUnavailable}
use Rattle.spv_availability.specs.Places.{function_of}

-- a rule that the k-th instruction breaks: 501, 502, 504 to 507, and 503 NotAvailable, where an instruction of functions uses what is not available there
pub data Breaks (insts : List Instruction) (k : ℕ) (i : Instruction) : (rule : ℕ) → Type 0 where
  Listed : (rule : ℕ) → Contains (body_rules insts k i) rule → Breaks insts k i rule
  NotAvailable : is_of_functions insts k i ≡ true → IsUnavailable insts k i → Breaks insts k i 503

-- an instruction of the module breaks a rule
pub record BrokenInBodies (insts : List Instruction) (rule at : ℕ) : Type 0 where
  pub k : ℕ
  pub i : Instruction
  pub is : slice_get insts k ≡ Some i
  pub broken : Breaks insts k i rule
  pub place : i.offset ≡ at

-- and it is one of the function numbered f, counted from 0
pub record BrokenInBody (insts : List Instruction) (f : ℕ) (rule at : ℕ) : Type 0 where
  pub one : BrokenInBodies insts rule at
  pub inside : function_of insts one.k ≡ f + 1

-- Ok exactly where no rule is broken, else the first one; never Nesting
abbrev pub Checks : (B : (rule at : ℕ) → Type 0) → Result ⊤ Fault → Type 0
Checks B (Ok _) = IsFirst B None
Checks B (Err (faults.Refused refusal)) = IsFirst B (Some refusal)
Checks B (Err faults.Nesting) = ⊥
Checks B (Err faults.NoMemory) = Unit {0}
