-- The lines that a tree's listing makes, and the tests that each passes whatever it is made of.
use Rattle.std.proofs.Common.{◌≡◌, ℕ, Bool, true, false, ◌&&◌, List, [], ◌++◌, drop, Option, None, refl, ap, ap₂, ◌∙◌}
use Rattle.std.specs.Prelude.{slice_index}
use Rattle.spv_opcodes.specs.declared.op.TheConstants as op
use Rattle.spv_module.specs.First.{unless}
use Rattle.spv_module.specs.Instruction.{Instruction, opcode}
use Rattle.spv_typing.specs.Kinds.{is_closed}
use Rattle.spv_arithmetic.specs.Forms.{form_of}
use Rattle.spv_arithmetic.specs.Operands.{form_operands_fit, operands_fit}
use Rattle.spv_arithmetic.specs.Results.{result_fits}
use Rattle.spv_composites.specs.Broken.{composite_rules}
use Rattle.spv_composites.specs.Composites.{composite_operands_fit, composite_result_fits, merges}
use Rattle.spv_composites.specs.Memory.{atomic_operands_fit, atomic_result_fits, memory_operands_fit, memory_result_fits}
use Rattle.spv_composites.specs.Vectors.{vector_operands_fit, vector_result_fits}
use Rattle.spv_usage.specs.Orderings.{ordering_fits}
use Rattle.spv_usage.specs.declared.stages.Stage.{Stage}
use Rattle.spv_usage.specs.Storage.{storage_fits}
use Rattle.spv_signatures.specs.Calls.{call_fits}
use Rattle.spv_signatures.specs.Contexts.{return_fits, result_fits as function_result_fits}
use Rattle.spv_signatures.specs.Functions.{function_fits}

-- all tests but those of operands, composites and returns pass
pub record PassesOthers (m : List Instruction) (j : Instruction) : Type 0 where
  pub arithmetic_result : result_fits m j ≡ true
  pub storage : (s : Stage) → storage_fits m s j ≡ true
  pub ordering : ordering_fits m j ≡ true
  pub function : function_fits m j ≡ true
  pub results : (n : Option ℕ) → function_result_fits m n j ≡ true
  pub call : call_fits m j ≡ true

module _ (m : List Instruction) (j : Instruction) where
  pub label_passes : opcode j ≡ op.LABEL → PassesOthers m j
  unfolding result_fits storage_fits ordering_fits function_fits function_result_fits call_fits
  label_passes e = record {
    arithmetic_result = rw e refl;
    storage = λ s. rw e refl;
    ordering = rw e refl;
    function = rw e refl;
    results = λ n. rw e refl;
    call = rw e refl;
  }

  pub function_end_passes : opcode j ≡ op.FUNCTION_END → PassesOthers m j
  unfolding result_fits storage_fits ordering_fits function_fits function_result_fits call_fits
  function_end_passes e = record {
    arithmetic_result = rw e refl;
    storage = λ s. rw e refl;
    ordering = rw e refl;
    function = rw e refl;
    results = λ n. rw e refl;
    call = rw e refl;
  }

  pub branch_passes : opcode j ≡ op.BRANCH → PassesOthers m j
  unfolding result_fits storage_fits ordering_fits function_fits function_result_fits call_fits
  branch_passes e = record {
    arithmetic_result = rw e refl;
    storage = λ s. rw e refl;
    ordering = rw e refl;
    function = rw e refl;
    results = λ n. rw e refl;
    call = rw e refl;
  }

  pub branch_conditional_passes : opcode j ≡ op.BRANCH_CONDITIONAL → PassesOthers m j
  unfolding result_fits storage_fits ordering_fits function_fits function_result_fits call_fits
  branch_conditional_passes e = record {
    arithmetic_result = rw e refl;
    storage = λ s. rw e refl;
    ordering = rw e refl;
    function = rw e refl;
    results = λ n. rw e refl;
    call = rw e refl;
  }

  pub switch_passes : opcode j ≡ op.SWITCH → PassesOthers m j
  unfolding result_fits storage_fits ordering_fits function_fits function_result_fits call_fits
  switch_passes e = record {
    arithmetic_result = rw e refl;
    storage = λ s. rw e refl;
    ordering = rw e refl;
    function = rw e refl;
    results = λ n. rw e refl;
    call = rw e refl;
  }

  pub selection_merge_passes : opcode j ≡ op.SELECTION_MERGE → PassesOthers m j
  unfolding result_fits storage_fits ordering_fits function_fits function_result_fits call_fits
  selection_merge_passes e = record {
    arithmetic_result = rw e refl;
    storage = λ s. rw e refl;
    ordering = rw e refl;
    function = rw e refl;
    results = λ n. rw e refl;
    call = rw e refl;
  }

  pub loop_merge_passes : opcode j ≡ op.LOOP_MERGE → PassesOthers m j
  unfolding result_fits storage_fits ordering_fits function_fits function_result_fits call_fits
  loop_merge_passes e = record {
    arithmetic_result = rw e refl;
    storage = λ s. rw e refl;
    ordering = rw e refl;
    function = rw e refl;
    results = λ n. rw e refl;
    call = rw e refl;
  }

  pub phi_passes : opcode j ≡ op.PHI → PassesOthers m j
  unfolding result_fits storage_fits ordering_fits function_fits function_result_fits call_fits
  phi_passes e = record {
    arithmetic_result = rw e refl;
    storage = λ s. rw e refl;
    ordering = rw e refl;
    function = rw e refl;
    results = λ n. rw e refl;
    call = rw e refl;
  }

  pub unreachable_passes : opcode j ≡ op.UNREACHABLE → PassesOthers m j
  unfolding result_fits storage_fits ordering_fits function_fits function_result_fits call_fits
  unreachable_passes e = record {
    arithmetic_result = rw e refl;
    storage = λ s. rw e refl;
    ordering = rw e refl;
    function = rw e refl;
    results = λ n. rw e refl;
    call = rw e refl;
  }

  pub return_passes : opcode j ≡ op.RETURN → PassesOthers m j
  unfolding result_fits storage_fits ordering_fits function_fits function_result_fits call_fits
  return_passes e = record {
    arithmetic_result = rw e refl;
    storage = λ s. rw e refl;
    ordering = rw e refl;
    function = rw e refl;
    results = λ n. rw e refl;
    call = rw e refl;
  }

  pub return_value_passes : opcode j ≡ op.RETURN_VALUE → PassesOthers m j
  unfolding result_fits storage_fits ordering_fits function_fits function_result_fits call_fits
  return_value_passes e = record {
    arithmetic_result = rw e refl;
    storage = λ s. rw e refl;
    ordering = rw e refl;
    function = rw e refl;
    results = λ n. rw e refl;
    call = rw e refl;
  }

  -- ---- returns

  pub label_returns : (t : ℕ) → opcode j ≡ op.LABEL → return_fits m t j ≡ true
  unfolding return_fits
  label_returns t e = rw e refl

  pub function_end_returns : (t : ℕ) → opcode j ≡ op.FUNCTION_END → return_fits m t j ≡ true
  unfolding return_fits
  function_end_returns t e = rw e refl

  pub branch_returns : (t : ℕ) → opcode j ≡ op.BRANCH → return_fits m t j ≡ true
  unfolding return_fits
  branch_returns t e = rw e refl

  pub branch_conditional_returns : (t : ℕ) → opcode j ≡ op.BRANCH_CONDITIONAL → return_fits m t j ≡ true
  unfolding return_fits
  branch_conditional_returns t e = rw e refl

  pub switch_returns : (t : ℕ) → opcode j ≡ op.SWITCH → return_fits m t j ≡ true
  unfolding return_fits
  switch_returns t e = rw e refl

  pub selection_merge_returns : (t : ℕ) → opcode j ≡ op.SELECTION_MERGE → return_fits m t j ≡ true
  unfolding return_fits
  selection_merge_returns t e = rw e refl

  pub loop_merge_returns : (t : ℕ) → opcode j ≡ op.LOOP_MERGE → return_fits m t j ≡ true
  unfolding return_fits
  loop_merge_returns t e = rw e refl

  pub phi_returns : (t : ℕ) → opcode j ≡ op.PHI → return_fits m t j ≡ true
  unfolding return_fits
  phi_returns t e = rw e refl

  pub unreachable_returns : (t : ℕ) → opcode j ≡ op.UNREACHABLE → return_fits m t j ≡ true
  unfolding return_fits
  unreachable_returns t e = rw e refl

  -- ---- composites

  pub label_composites : opcode j ≡ op.LABEL → composite_rules m j ≡ []
  unfolding vector_operands_fit composite_operands_fit memory_operands_fit atomic_operands_fit
      vector_result_fits composite_result_fits memory_result_fits atomic_result_fits
  label_composites e = rw e refl

  pub function_end_composites : opcode j ≡ op.FUNCTION_END → composite_rules m j ≡ []
  unfolding vector_operands_fit composite_operands_fit memory_operands_fit atomic_operands_fit
      vector_result_fits composite_result_fits memory_result_fits atomic_result_fits
  function_end_composites e = rw e refl

  pub branch_composites : opcode j ≡ op.BRANCH → composite_rules m j ≡ []
  unfolding vector_operands_fit composite_operands_fit memory_operands_fit atomic_operands_fit
      vector_result_fits composite_result_fits memory_result_fits atomic_result_fits
  branch_composites e = rw e refl

  pub branch_conditional_composites : opcode j ≡ op.BRANCH_CONDITIONAL → composite_rules m j ≡ []
  unfolding vector_operands_fit composite_operands_fit memory_operands_fit atomic_operands_fit
      vector_result_fits composite_result_fits memory_result_fits atomic_result_fits
  branch_conditional_composites e = rw e refl

  pub switch_composites : opcode j ≡ op.SWITCH → composite_rules m j ≡ []
  unfolding vector_operands_fit composite_operands_fit memory_operands_fit atomic_operands_fit
      vector_result_fits composite_result_fits memory_result_fits atomic_result_fits
  switch_composites e = rw e refl

  pub selection_merge_composites : opcode j ≡ op.SELECTION_MERGE → composite_rules m j ≡ []
  unfolding vector_operands_fit composite_operands_fit memory_operands_fit atomic_operands_fit
      vector_result_fits composite_result_fits memory_result_fits atomic_result_fits
  selection_merge_composites e = rw e refl

  pub loop_merge_composites : opcode j ≡ op.LOOP_MERGE → composite_rules m j ≡ []
  unfolding vector_operands_fit composite_operands_fit memory_operands_fit atomic_operands_fit
      vector_result_fits composite_result_fits memory_result_fits atomic_result_fits
  loop_merge_composites e = rw e refl

  pub unreachable_composites : opcode j ≡ op.UNREACHABLE → composite_rules m j ≡ []
  unfolding vector_operands_fit composite_operands_fit memory_operands_fit atomic_operands_fit
      vector_result_fits composite_result_fits memory_result_fits atomic_result_fits
  unreachable_composites e = rw e refl

  pub return_composites : opcode j ≡ op.RETURN → composite_rules m j ≡ []
  unfolding vector_operands_fit composite_operands_fit memory_operands_fit atomic_operands_fit
      vector_result_fits composite_result_fits memory_result_fits atomic_result_fits
  return_composites e = rw e refl

  pub return_value_composites : opcode j ≡ op.RETURN_VALUE → composite_rules m j ≡ []
  unfolding vector_operands_fit composite_operands_fit memory_operands_fit atomic_operands_fit
      vector_result_fits composite_result_fits memory_result_fits atomic_result_fits
  return_value_composites e = rw e refl

  last_alone : (b : Bool) → (b && true) ≡ b
  last_alone true = refl
  last_alone false = refl

  pub phi_composites : opcode j ≡ op.PHI
      → composite_rules m j ≡ unless (merges m (slice_index j.words 1) (drop 3 j.words)) 501 ++ unless (is_closed m (slice_index j.words 1)) 502
  unfolding vector_operands_fit composite_operands_fit memory_operands_fit atomic_operands_fit
      vector_result_fits composite_result_fits memory_result_fits atomic_result_fits
  phi_composites e =
      rw e (ap₂ (λ (a b : Bool). unless a 501 ++ unless b 502) (last_alone (merges m (slice_index j.words 1) (drop 3 j.words)))
      (last_alone (is_closed m (slice_index j.words 1))))

  -- ---- arithmetic

  pub no_form : (o : ℕ) → form_of o ≡ None → opcode j ≡ o → operands_fit m j ≡ true
  unfolding operands_fit
  no_form o none e = ap (λ k. form_operands_fit m (form_of k) j) e ∙ ap (λ form. form_operands_fit m form j) none
