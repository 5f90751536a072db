-- The normal form of a module breaks none of the rules on calls, interfaces, bindings and entry points: a law, as a statement.
use Rattle.std.specs.Prelude.{◌≡◌, ℕ, true, List, slice_get, Some}
use Rattle.std.specs.List.{Contains}
use Rattle.spv_module.specs.Code.{is_function}
use Rattle.spv_module.specs.Instruction.{Instruction}
use Rattle.spv_signatures.specs.Functions.{function_fits}
use Rattle.spv_entries.specs.Broken.{entry_rules}
use Rattle.spv_calls.specs.Calls.{CallsFit}
use Rattle.spv_calls.specs.Interfaces.{InterfaceFits}
use Rattle.spv_tree.specs.declared.body.Body.{Body}
use Rattle.spv_alike.specs.Alike.{AreAlike}
use Rattle.spv_norm_structured.specs.Laws.{IsNormAgain, IsReadAsTrees}

-- the k-th instruction breaks no rule on calls (601), interfaces (602), and bindings and entry points (603 to 606)
pub record IsEntered (insts : List Instruction) (k : ℕ) (i : Instruction) : Type 0 where
  pub calls : CallsFit insts k i
  pub interface : InterfaceFits insts i
  pub entry : (rule : ℕ) → Contains (entry_rules insts k i) rule → ⊥

abbrev pub AllEntered : List Instruction → Type 0
AllEntered insts = (k : ℕ) (i : Instruction) → slice_get insts k ≡ Some i → IsEntered insts k i

-- the type of each OpFunction is an OpTypeFunction that fits it
abbrev pub FunctionsTyped : List Instruction → Type 0
FunctionsTyped insts = (k : ℕ) (i : Instruction) → slice_get insts k ≡ Some i → is_function i ≡ true → function_fits insts i ≡ true

-- where no instruction of a module breaks one of these rules, none of its normal form does
abbrev pub NormIsEntered : Type 0
NormIsEntered =
    (insts again : List Instruction) (bodies : List Body) → IsReadAsTrees insts bodies → IsNormAgain insts again
    → AreAlike insts again → FunctionsTyped insts → AllEntered insts → AllEntered again
