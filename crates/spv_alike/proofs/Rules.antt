-- Instructions of the same words break the same rules in modules that are alike.
use Rattle.std.proofs.Common.{◌≡◌, ℕ, Bool, ◌&&◌, List, ◌++◌, slice_index, Option, Some, None, refl, ap, ap₂, ◌∙◌}
use Rattle.spv_grammar.specs.Operands.{opcode_of}
use Rattle.spv_module.specs.First.{unless}
use Rattle.spv_module.specs.Instruction.{Instruction}
use Rattle.spv_declarations.specs.Laws.{IsUnbroken}
use Rattle.spv_arithmetic.specs.declared.forms.Form.{Form}
use Rattle.spv_arithmetic.specs.Forms.{form_of}
use Rattle.spv_arithmetic.specs.Operands.{form_operands_fit}
use Rattle.spv_arithmetic.specs.Operands as arithmetic_operands
use Rattle.spv_arithmetic.specs.Results.{form_result_fits}
use Rattle.spv_arithmetic.specs.Results as arithmetic_results
use Rattle.spv_composites.specs.Broken.{operands_fit, result_fits, composite_rules}
use Rattle.spv_composites.specs.Vectors.{vector_operands_fit, vector_result_fits}
use Rattle.spv_composites.specs.Composites.{composite_operands_fit, composite_result_fits}
use Rattle.spv_composites.specs.Memory.{memory_operands_fit, memory_result_fits, atomic_operands_fit, atomic_result_fits}
use Rattle.spv_usage.specs.Storage.{storage_fits}
use Rattle.spv_usage.specs.Orderings.{ordering_fits}
use Rattle.spv_signatures.specs.Functions.{function_fits}
use Rattle.spv_signatures.specs.Calls.{call_fits}
use Rattle.spv_signatures.specs.Contexts.{return_fits}
use Rattle.spv_signatures.specs.Contexts as contexts
use Rattle.spv_alike.specs.Alike.{AreAlike}
use Rattle.spv_alike.specs.Laws.{SameRules, RulesStay}
use Rattle.spv_alike.proofs.Arithmetic.{same_operands_fit, same_result_fits}
use Rattle.spv_alike.proofs.Vectors.{same_vector_operands, same_vector_result}
use Rattle.spv_alike.proofs.Composites.{same_composite_operands, same_composite_result}
use Rattle.spv_alike.proofs.Memory.{same_memory_operands, same_memory_result, same_atomic_operands, same_atomic_result}
use Rattle.spv_alike.proofs.Usage.{same_storage, same_ordering}
use Rattle.spv_alike.proofs.Signatures.{same_function, same_result, same_call, same_returns}

-- what reads the words of an instruction alone
by_words : {A : Type 0} (f : Instruction → A) → ((o p : ℕ) (ws : List ℕ) → f (record { offset = o; words = ws }) ≡ f (record { offset = p; words = ws })) →
    (i j : Instruction) → j.words ≡ i.words → f j ≡ f i
by_words f same i j e =
    ap (λ (ws : List ℕ). f (record { offset = j.offset; words = ws })) e ∙ same j.offset i.offset i.words

module _ (before after : List Instruction) (unbroken : IsUnbroken before) (alike : AreAlike before after) where
  same_operands : (i : Instruction) → operands_fit after i ≡ operands_fit before i
  same_operands i =
      ap₂ (λ (a b : Bool). a && b) (same_vector_operands before after alike i)
      (ap₂ (λ (a b : Bool). a && b) (same_composite_operands before after alike unbroken i)
      (ap₂ (λ (a b : Bool). a && b) (same_memory_operands before after alike i) (same_atomic_operands before after alike i)))

  same_results : (i : Instruction) → result_fits after i ≡ result_fits before i
  same_results i =
      ap₂ (λ (a b : Bool). a && b) (same_vector_result before after alike i)
      (ap₂ (λ (a b : Bool). a && b) (same_composite_result before after alike i)
      (ap₂ (λ (a b : Bool). a && b) (same_memory_result before after alike i) (same_atomic_result before after alike i)))

  same_composites : (i : Instruction) → composite_rules after i ≡ composite_rules before i
  same_composites i = ap₂ (λ (a b : Bool). unless a 501 ++ unless b 502) (same_operands i) (same_results i)

  -- at one instruction
  pub same_rules : (i : Instruction) → SameRules before after i i
  same_rules i = record {
    arithmetic = same_operands_fit before after alike i;
    arithmetic_result = same_result_fits before after alike i;
    composites = same_composites i;
    storage = λ stage. same_storage before after alike stage i;
    ordering = same_ordering before after alike i;
    function = same_function before after alike i;
    results = λ next_type. same_result before after alike next_type i;
    call = same_call before after alike i;
    returns = λ t. same_returns before after alike t i;
  }

-- the rules read no more of an instruction than its words
operands_read : (insts : List Instruction) (form : Option Form) (o p : ℕ) (ws : List ℕ) →
    form_operands_fit insts form (record { offset = o; words = ws }) ≡ form_operands_fit insts form (record { offset = p; words = ws })
operands_read insts None o p ws = refl
operands_read insts (Some form) o p ws = refl

result_read : (insts : List Instruction) (form : Option Form) (o p : ℕ) (ws : List ℕ) →
    form_result_fits insts form (record { offset = o; words = ws }) ≡ form_result_fits insts form (record { offset = p; words = ws })
result_read insts None o p ws = refl
result_read insts (Some form) o p ws = refl

moved : (insts : List Instruction) (i j : Instruction) → j.words ≡ i.words → SameRules insts insts i j
unfolding arithmetic_operands.operands_fit arithmetic_results.result_fits vector_operands_fit vector_result_fits composite_operands_fit composite_result_fits memory_operands_fit memory_result_fits atomic_operands_fit atomic_result_fits storage_fits ordering_fits function_fits contexts.result_fits call_fits return_fits
moved insts i j e = record {
  arithmetic = by_words (arithmetic_operands.operands_fit insts) (λ o p ws. operands_read insts (form_of (opcode_of (slice_index ws 0))) o p ws) i j e;
  arithmetic_result = by_words (arithmetic_results.result_fits insts) (λ o p ws. result_read insts (form_of (opcode_of (slice_index ws 0))) o p ws) i j e;
  composites = by_words (composite_rules insts) (λ o p ws. refl) i j e;
  storage = λ stage. by_words (storage_fits insts stage) (λ o p ws. refl) i j e;
  ordering = by_words (ordering_fits insts) (λ o p ws. refl) i j e;
  function = by_words (function_fits insts) (λ o p ws. refl) i j e;
  results = λ next_type. by_words (contexts.result_fits insts next_type) (λ o p ws. refl) i j e;
  call = by_words (call_fits insts) (λ o p ws. refl) i j e;
  returns = λ t. by_words (return_fits insts t) (λ o p ws. refl) i j e;
}

pub rules_stay : RulesStay
rules_stay before after unbroken alike i j e =
    let s = same_rules before after unbroken alike i in
    let m = moved after i j e in
    record {
      arithmetic = m.arithmetic ∙ s.arithmetic;
      arithmetic_result = m.arithmetic_result ∙ s.arithmetic_result;
      composites = m.composites ∙ s.composites;
      storage = λ stage. m.storage stage ∙ s.storage stage;
      ordering = m.ordering ∙ s.ordering;
      function = m.function ∙ s.function;
      results = λ next_type. m.results next_type ∙ s.results next_type;
      call = m.call ∙ s.call;
      returns = λ t. m.returns t ∙ s.returns t;
    }
