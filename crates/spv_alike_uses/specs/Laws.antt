-- Instructions of the same words break the same rules in modules that are alike but for ids that have gone: laws, as statements.
use Rattle.std.specs.Prelude.{◌≡◌, ℕ, Bool, false, List, Option, slice_index}
use Rattle.std.specs.List.{AllByRecursion}
use Rattle.spv_opcodes.specs.declared.op.TheConstants as op
use Rattle.spv_module.specs.Instruction.{Instruction, IsInstruction, opcode, roles}
use Rattle.spv_ids.specs.Ids.{used_ids}
use Rattle.spv_declarations.specs.Laws.{IsUnbroken}
use Rattle.spv_arithmetic.specs.Operands.{operands_fit}
use Rattle.spv_arithmetic.specs.Results.{result_fits}
use Rattle.spv_composites.specs.Broken.{composite_rules}
use Rattle.spv_usage.specs.declared.stages.Stage.{Stage}
use Rattle.spv_usage.specs.Storage.{storage_fits}
use Rattle.spv_usage.specs.Orderings.{ordering_fits}
use Rattle.spv_signatures.specs.Functions.{function_fits}
use Rattle.spv_signatures.specs.Calls.{call_fits}
use Rattle.spv_signatures.specs.Contexts.{return_fits, result_fits as function_result_fits}
use Rattle.spv_alike.specs.Alike.{AreAlike}
use Rattle.spv_alike_uses.specs.Alike.{Stays, AreAlikeBut}

-- the same at instructions of the same words, wherever these stand, in functions whose result type stays
pub record SameRulesBut (gone : ℕ → Bool) (before after : List Instruction) (i j : Instruction) : Type 0 where
  pub arithmetic : operands_fit after j ≡ operands_fit before i
  pub arithmetic_result : result_fits after j ≡ result_fits before i
  pub composites : composite_rules after j ≡ composite_rules before i
  pub storage : (stage : Stage) → storage_fits after stage j ≡ storage_fits before stage i
  pub ordering : ordering_fits after j ≡ ordering_fits before i
  pub function : function_fits after j ≡ function_fits before i
  pub results : (next_type : Option ℕ) → function_result_fits after next_type j ≡ function_result_fits before next_type i
  pub call : call_fits after j ≡ call_fits before i
  pub returns : (t : ℕ) → Stays gone t → return_fits after t j ≡ return_fits before t i

-- all that an instruction uses stays, and the function itself that an OpFunction defines
pub record UsesWhatStays (gone : ℕ → Bool) (i : Instruction) : Type 0 where
  pub whole : IsInstruction i.words (roles i)
  pub used : AllByRecursion (Stays gone) (used_ids i)
  pub function : opcode i ≡ op.FUNCTION → Stays gone (slice_index i.words 2)

abbrev pub RulesStayBut : Type 0
RulesStayBut =
    (gone : ℕ → Bool) (before after : List Instruction) → IsUnbroken before → AreAlikeBut gone before after
    → (i j : Instruction) → UsesWhatStays gone i → j.words ≡ i.words → SameRulesBut gone before after i j

-- modules that are alike are so with nothing gone
abbrev pub AlikeWithNothingGone : Type 0
AlikeWithNothingGone = (before after : List Instruction) → AreAlike before after → AreAlikeBut (λ id. false) before after
