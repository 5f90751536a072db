-- The normal form of a module breaks no rule on bodies: a law, as a statement.
use Rattle.std.specs.Prelude.{◌≡◌, ℕ, List, slice_get, Some, None}
use Rattle.std.specs.List.{Contains}
use Rattle.spv_module.specs.First.{first}
use Rattle.spv_module.specs.Instruction.{Instruction}
use Rattle.spv_declarations.specs.Broken.{group_3}
use Rattle.spv_tree.specs.declared.body.Body.{Body}
use Rattle.spv_body_rules.specs.Broken.{body_rules}
use Rattle.spv_alike.specs.Alike.{AreAlike}
use Rattle.spv_norm_structured.specs.Laws.{IsNormAgain, IsReadAsTrees}

-- no instruction breaks a rule on bodies
abbrev pub FitAll : List Instruction → Type 0
FitAll insts = (k : ℕ) (i : Instruction) → slice_get insts k ≡ Some i → (rule : ℕ) → Contains (body_rules insts k i) rule → ⊥

-- of a module that breaks none on declarations, where ids stand for the same in its normal form
abbrev pub NormIsTyped : Type 0
NormIsTyped =
    (insts again : List Instruction) (bodies : List Body) → IsReadAsTrees insts bodies → IsNormAgain insts again → first (group_3 insts) ≡ None
    → AreAlike insts again → FitAll insts → FitAll again
