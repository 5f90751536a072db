-- Instructions of the same words break the same rules in modules that are alike: laws, as statements.
use Rattle.std.specs.Prelude.{◌≡◌, ℕ, List, Option}
use Rattle.spv_module.specs.Instruction.{Instruction}
use Rattle.spv_declarations.specs.Laws.{IsUnbroken}
use Rattle.spv_arithmetic.specs.Operands.{operands_fit}
use Rattle.spv_arithmetic.specs.Results.{result_fits}
use Rattle.spv_composites.specs.Broken.{composite_rules}
use Rattle.spv_usage.specs.declared.stages.Stage.{Stage}
use Rattle.spv_usage.specs.Storage.{storage_fits}
use Rattle.spv_usage.specs.Orderings.{ordering_fits}
use Rattle.spv_signatures.specs.Functions.{function_fits}
use Rattle.spv_signatures.specs.Calls.{call_fits}
use Rattle.spv_signatures.specs.Contexts.{return_fits, result_fits as function_result_fits}
use Rattle.spv_alike.specs.Alike.{AreAlike}

-- the same at instructions of the same words, wherever these stand
pub record SameRules (before after : List Instruction) (i j : Instruction) : Type 0 where
  pub arithmetic : operands_fit after j ≡ operands_fit before i
  pub arithmetic_result : result_fits after j ≡ result_fits before i
  pub composites : composite_rules after j ≡ composite_rules before i
  pub storage : (stage : Stage) → storage_fits after stage j ≡ storage_fits before stage i
  pub ordering : ordering_fits after j ≡ ordering_fits before i
  pub function : function_fits after j ≡ function_fits before i
  pub results : (next_type : Option ℕ) → function_result_fits after next_type j ≡ function_result_fits before next_type i
  pub call : call_fits after j ≡ call_fits before i
  pub returns : (t : ℕ) → return_fits after t j ≡ return_fits before t i

abbrev pub RulesStay : Type 0
RulesStay =
    (before after : List Instruction) → IsUnbroken before → AreAlike before after → (i j : Instruction) → j.words ≡ i.words → SameRules before after i j
