-- Instructions of the same words break the same rules in modules that are alike but for ids that have gone.
use Rattle.std.proofs.Common.{◌≡◌, ℕ, Bool, ◌&&◌, List, ◌++◌, slice_index, Option, Some, None, refl, ap, ap₂, ◌∙◌}
use Rattle.spv_grammar.specs.Operands.{opcode_of}
use Rattle.spv_module.specs.First.{unless}
use Rattle.spv_module.specs.Instruction.{Instruction}
use Rattle.spv_arithmetic.specs.declared.forms.Form.{Form}
use Rattle.spv_arithmetic.specs.Forms.{form_of}
use Rattle.spv_arithmetic.specs.Operands.{form_operands_fit}
use Rattle.spv_arithmetic.specs.Operands as arithmetic_operands
use Rattle.spv_arithmetic.specs.Results.{form_result_fits}
use Rattle.spv_arithmetic.specs.Results as arithmetic_results
use Rattle.spv_composites.specs.Broken.{operands_fit, result_fits, composite_rules}
use Rattle.spv_composites.specs.Vectors.{vector_operands_fit, vector_result_fits}
use Rattle.spv_composites.specs.Composites.{composite_operands_fit, composite_result_fits}
use Rattle.spv_composites.specs.Memory.{memory_operands_fit, memory_result_fits, atomic_operands_fit, atomic_result_fits}
use Rattle.spv_usage.specs.Storage.{storage_fits}
use Rattle.spv_usage.specs.Orderings.{ordering_fits}
use Rattle.spv_signatures.specs.Functions.{function_fits}
use Rattle.spv_signatures.specs.Calls.{call_fits}
use Rattle.spv_signatures.specs.Contexts.{return_fits}
use Rattle.spv_signatures.specs.Contexts as contexts
use Rattle.spv_alike_uses.specs.Laws.{SameRulesBut, UsesWhatStays, RulesStayBut}
use Rattle.spv_alike_uses.proofs.Lookups.{Case}
use Rattle.spv_alike_uses.proofs.Arithmetic.{same_operands_fit, same_result_fits}
use Rattle.spv_alike_uses.proofs.Vectors.{same_vector_operands, same_vector_result}
use Rattle.spv_alike_uses.proofs.Composites.{same_composite_operands, same_composite_result}
use Rattle.spv_alike_uses.proofs.Memory.{same_memory_operands, same_memory_result, same_atomic_operands, same_atomic_result}
use Rattle.spv_alike_uses.proofs.Usage.{same_storage, same_ordering}
use Rattle.spv_alike_uses.proofs.Signatures.{same_function, same_result, same_call, same_returns}

-- what reads the words of an instruction alone
by_words : {A : Type 0} (f : Instruction → A) → ((o p : ℕ) (ws : List ℕ) → f (record { offset = o; words = ws }) ≡ f (record { offset = p; words = ws })) →
    (i j : Instruction) → j.words ≡ i.words → f j ≡ f i
by_words f same i j e =
    ap (λ (ws : List ℕ). f (record { offset = j.offset; words = ws })) e ∙ same j.offset i.offset i.words

module _ (c : Case) (i : Instruction) (uses : UsesWhatStays c.gone i) where
  same_operands : operands_fit c.after i ≡ operands_fit c.before i
  same_operands =
      ap₂ (λ (a b : Bool). a && b) (same_vector_operands c i uses)
      (ap₂ (λ (a b : Bool). a && b) (same_composite_operands c i uses)
      (ap₂ (λ (a b : Bool). a && b) (same_memory_operands c i uses) (same_atomic_operands c i uses)))

  same_results : result_fits c.after i ≡ result_fits c.before i
  same_results =
      ap₂ (λ (a b : Bool). a && b) (same_vector_result c i uses)
      (ap₂ (λ (a b : Bool). a && b) (same_composite_result c i uses)
      (ap₂ (λ (a b : Bool). a && b) (same_memory_result c i uses) (same_atomic_result c i uses)))

  -- at one instruction
  same_rules : SameRulesBut c.gone c.before c.after i i
  same_rules = record {
    arithmetic = same_operands_fit c i uses;
    arithmetic_result = same_result_fits c i uses;
    composites = ap₂ (λ (a b : Bool). unless a 501 ++ unless b 502) same_operands same_results;
    storage = same_storage c i uses;
    ordering = same_ordering c i uses;
    function = same_function c i uses;
    results = same_result c i uses;
    call = same_call c i uses;
    returns = same_returns c i uses;
  }

-- the rules read no more of an instruction than its words
operands_read : (insts : List Instruction) (form : Option Form) (o p : ℕ) (ws : List ℕ) →
    form_operands_fit insts form (record { offset = o; words = ws }) ≡ form_operands_fit insts form (record { offset = p; words = ws })
operands_read insts None o p ws = refl
operands_read insts (Some form) o p ws = refl

result_read : (insts : List Instruction) (form : Option Form) (o p : ℕ) (ws : List ℕ) →
    form_result_fits insts form (record { offset = o; words = ws }) ≡ form_result_fits insts form (record { offset = p; words = ws })
result_read insts None o p ws = refl
result_read insts (Some form) o p ws = refl

moved : (gone : ℕ → Bool) (insts : List Instruction) (i j : Instruction) → j.words ≡ i.words → SameRulesBut gone insts insts i j
unfolding arithmetic_operands.operands_fit arithmetic_results.result_fits vector_operands_fit vector_result_fits composite_operands_fit composite_result_fits memory_operands_fit memory_result_fits atomic_operands_fit atomic_result_fits storage_fits ordering_fits function_fits contexts.result_fits call_fits return_fits
moved gone insts i j e = record {
  arithmetic = by_words (arithmetic_operands.operands_fit insts) (λ o p ws. operands_read insts (form_of (opcode_of (slice_index ws 0))) o p ws) i j e;
  arithmetic_result = by_words (arithmetic_results.result_fits insts) (λ o p ws. result_read insts (form_of (opcode_of (slice_index ws 0))) o p ws) i j e;
  composites = by_words (composite_rules insts) (λ o p ws. refl) i j e;
  storage = λ stage. by_words (storage_fits insts stage) (λ o p ws. refl) i j e;
  ordering = by_words (ordering_fits insts) (λ o p ws. refl) i j e;
  function = by_words (function_fits insts) (λ o p ws. refl) i j e;
  results = λ next_type. by_words (contexts.result_fits insts next_type) (λ o p ws. refl) i j e;
  call = by_words (call_fits insts) (λ o p ws. refl) i j e;
  returns = λ t s. by_words (return_fits insts t) (λ o p ws. refl) i j e;
}

pub rules_stay : RulesStayBut
rules_stay gone before after unbroken alike i j uses e =
    let c : Case = record { gone = gone; before = before; after = after; unbroken = unbroken; alike = alike } in
    let s : SameRulesBut gone before after i i = same_rules c i uses in
    let m : SameRulesBut gone after after i j = moved gone after i j e in
    record {
      arithmetic = m.arithmetic ∙ s.arithmetic;
      arithmetic_result = m.arithmetic_result ∙ s.arithmetic_result;
      composites = m.composites ∙ s.composites;
      storage = λ stage. m.storage stage ∙ s.storage stage;
      ordering = m.ordering ∙ s.ordering;
      function = m.function ∙ s.function;
      results = λ next_type. m.results next_type ∙ s.results next_type;
      call = m.call ∙ s.call;
      returns = λ t stays. m.returns t stays ∙ s.returns t stays;
    }
