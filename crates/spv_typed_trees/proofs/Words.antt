-- The tests of the rules on bodies read no more of an instruction than its words, but for its place.
use Rattle.std.proofs.Common.{◌≡◌, ℕ, List, Option, Some, None, refl, ap, ◌∙◌}
use Rattle.std.specs.Prelude.{slice_index}
use Rattle.spv_grammar.specs.Operands.{opcode_of}
use Rattle.spv_module.specs.Instruction.{Instruction}
use Rattle.spv_arithmetic.specs.declared.forms.Form.{Form}
use Rattle.spv_arithmetic.specs.Forms.{form_of}
use Rattle.spv_arithmetic.specs.Operands.{form_operands_fit, operands_fit}
use Rattle.spv_arithmetic.specs.Results.{form_result_fits, result_fits}
use Rattle.spv_composites.specs.Broken.{composite_rules}
use Rattle.spv_composites.specs.Vectors.{vector_operands_fit, vector_result_fits}
use Rattle.spv_composites.specs.Composites.{composite_operands_fit, composite_result_fits}
use Rattle.spv_composites.specs.Memory.{memory_operands_fit, memory_result_fits, atomic_operands_fit, atomic_result_fits}
use Rattle.spv_usage.specs.declared.stages.Stage.{Stage}
use Rattle.spv_usage.specs.Storage.{storage_fits}
use Rattle.spv_usage.specs.Orderings.{ordering_fits}
use Rattle.spv_signatures.specs.Functions.{function_fits}
use Rattle.spv_signatures.specs.Calls.{call_fits}
use Rattle.spv_signatures.specs.Contexts.{return_fits, result_fits as function_result_fits}
use Rattle.spv_typed_trees.proofs.Fits.{Fits}

by_words : {A : Type 0} (f : Instruction → A) → ((o p : ℕ) (ws : List ℕ) → f (record { offset = o; words = ws }) ≡ f (record { offset = p; words = ws }))
    → (i j : Instruction) → j.words ≡ i.words → f j ≡ f i
by_words f same i j e =
    ap (λ (ws : List ℕ). f (record { offset = j.offset; words = ws })) e ∙ same j.offset i.offset i.words

operands_read : (insts : List Instruction) (form : Option Form) (o p : ℕ) (ws : List ℕ)
    → form_operands_fit insts form (record { offset = o; words = ws }) ≡ form_operands_fit insts form (record { offset = p; words = ws })
operands_read insts None o p ws = refl
operands_read insts (Some form) o p ws = refl

result_read : (insts : List Instruction) (form : Option Form) (o p : ℕ) (ws : List ℕ)
    → form_result_fits insts form (record { offset = o; words = ws }) ≡ form_result_fits insts form (record { offset = p; words = ws })
result_read insts None o p ws = refl
result_read insts (Some form) o p ws = refl

pub returns_read : (insts : List Instruction) (t : ℕ) (i j : Instruction) → j.words ≡ i.words → return_fits insts t j ≡ return_fits insts t i
unfolding return_fits
returns_read insts t i j e = by_words (return_fits insts t) (λ o p ws. refl) i j e

pub same_words : (insts : List Instruction) (s : Stage) (t : ℕ) (n : Option ℕ) (i j : Instruction) → j.words ≡ i.words → Fits insts s t n i
    → Fits insts s t n j
unfolding operands_fit result_fits vector_operands_fit vector_result_fits composite_operands_fit composite_result_fits memory_operands_fit
    memory_result_fits atomic_operands_fit atomic_result_fits storage_fits ordering_fits function_fits function_result_fits call_fits
same_words insts s t n i j e f = record {
  arithmetic = by_words (operands_fit insts) (λ o p ws. operands_read insts (form_of (opcode_of (slice_index ws 0))) o p ws) i j e ∙ f.arithmetic;
  arithmetic_result = by_words (result_fits insts) (λ o p ws. result_read insts (form_of (opcode_of (slice_index ws 0))) o p ws) i j e ∙ f.arithmetic_result;
  composites = by_words (composite_rules insts) (λ o p ws. refl) i j e ∙ f.composites;
  storage = by_words (storage_fits insts s) (λ o p ws. refl) i j e ∙ f.storage;
  ordering = by_words (ordering_fits insts) (λ o p ws. refl) i j e ∙ f.ordering;
  function = by_words (function_fits insts) (λ o p ws. refl) i j e ∙ f.function;
  results = by_words (function_result_fits insts n) (λ o p ws. refl) i j e ∙ f.results;
  call = by_words (call_fits insts) (λ o p ws. refl) i j e ∙ f.call;
  returns = returns_read insts t i j e ∙ f.returns;
}
