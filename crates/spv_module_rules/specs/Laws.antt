-- What follows from the definition of nested returns, for a module whose functions break no rule on structured control flow.
use Rattle.std.specs.Prelude.{◌≡◌, ℕ, List}
use Rattle.spv_module.specs.Instruction.{Instruction}
use Rattle.spv_exits.specs.Exits.{AreNestedTogether, functions_of}
use Rattle.spv_module_rules.specs.Kept.{AreUnbroken}

-- its functions have some number of nested returns together
abbrev pub HasTogether : Type 0
HasTogether = (insts : List Instruction) → AreUnbroken insts → (nested : ℕ) × AreNestedTogether (functions_of insts) nested

-- and no second one
abbrev pub OneTogether : Type 0
OneTogether = (insts : List Instruction) (m n : ℕ) → AreUnbroken insts → AreNestedTogether (functions_of insts) m
    → AreNestedTogether (functions_of insts) n → m ≡ n
