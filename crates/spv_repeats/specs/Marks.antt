-- A mark for each instruction.
use Rattle.std.specs.Prelude.{◌≡◌, ℕ, Bool, List, length, Some, slice_get}
use Rattle.spv_module.specs.Instruction.{Instruction}

-- the mark of each instruction is a test's answer on it, the instructions and its place
pub record AreMarks (test : List Instruction → ℕ → Instruction → Bool) (insts : List Instruction) (marks : List Bool) : Type 0 where
  pub length : length marks ≡ length insts
  pub each : (k : ℕ) (i : Instruction) → slice_get insts k ≡ Some i → slice_get marks k ≡ Some (test insts k i)
