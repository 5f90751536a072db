-- The rules on the whole module, 601 to 607.
use Rattle.std.specs.Prelude.{ℕ, List, Some, None, Result, Ok, Err}
use Rattle.spv_base.specs.declared.fault.Fault.{Fault}
use Rattle.spv_base.specs.declared.fault.Fault.TheVariants as faults
use Rattle.spv_module.specs.Instruction.{Instruction}
use Rattle.spv_walk.specs.Found.{Holds}
use Rattle.spv_walk.specs.Rules.{IsFirst}
use Rattle.spv_calls.specs.Broken.{AreTests, Tests, group_6}
use Rattle.spv_exits.specs.Exits.{AreNestedTogether, crowded_in_all, functions_of}

pub data BrokenInWhole (insts : List Instruction) : (rule at : ℕ) → Type 0 where
  -- 601 to 606, where the tests tell which functions call themselves, and which interfaces fit
  OfModule : (tests : Tests) (rule at : ℕ) → AreTests insts tests → Holds (group_6 tests insts) rule at → BrokenInWhole insts rule at
  -- 607 ManyExits, where the functions have so many nested returns together
  ManyExits : (nested : ℕ) (rule at : ℕ) → AreNestedTogether (functions_of insts) nested → Holds (crowded_in_all (functions_of insts) nested) rule at
      → BrokenInWhole insts rule at

-- Ok exactly where no rule is broken, else the first one; never Nesting
abbrev pub Checks : {T : Type 0} → (B : (rule at : ℕ) → Type 0) → Result T Fault → Type 0
Checks B (Ok _) = IsFirst B None
Checks B (Err (faults.Refused r)) = IsFirst B (Some r)
Checks B (Err faults.Nesting) = ⊥
Checks B (Err faults.NoMemory) = Unit {0}
