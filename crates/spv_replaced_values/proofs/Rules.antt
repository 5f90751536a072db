-- An instruction in which other values stand breaks none of the rules that it did not break.
use Rattle.std.proofs.Common.{◌≡◌, ℕ, Bool, true, false, [], ◌++◌, refl, ap₂, ◌∙◌}
use Rattle.spv_module.specs.First.{unless}
use Rattle.spv_arithmetic.specs.Operands as arithmetic_operands
use Rattle.spv_arithmetic.specs.Results as arithmetic_results
use Rattle.spv_composites.specs.Broken.{operands_fit, result_fits}
use Rattle.spv_composites.specs.Vectors.{vector_operands_fit, vector_result_fits}
use Rattle.spv_composites.specs.Composites.{composite_operands_fit, composite_result_fits}
use Rattle.spv_composites.specs.Memory.{memory_operands_fit, memory_result_fits, atomic_operands_fit, atomic_result_fits}
use Rattle.spv_typed_trees.specs.Typed.{as_instruction}
use Rattle.spv_replaced_values.specs.Laws.{FitsWhereReplaced, ReturnsWhereReplaced}
use Rattle.spv_replaced_values.proofs.Fixed.{Case}
use Rattle.spv_replaced_values.proofs.Keeping.{keeps_and}
use Rattle.spv_replaced_values.proofs.Arithmetic.{keeps_arithmetic, same_arithmetic_result}
use Rattle.spv_replaced_values.proofs.Composites.{same_composite_operands, same_composite_result, same_vector_operands, same_vector_result}
use Rattle.spv_replaced_values.proofs.Memory.{keeps_memory_operands, keeps_memory_result, same_atomic_operands, same_atomic_result}
use Rattle.spv_replaced_values.proofs.Usage.{keeps_ordering, keeps_storage}
use Rattle.spv_replaced_values.proofs.Signatures.{keeps_call, same_function_result, same_returns}

-- neither of two rules is broken
keeps_rules : (a b x y : Bool) (m n : ℕ) → (a ≡ true → x ≡ true) → (b ≡ true → y ≡ true) → (unless a m ++ unless b n) ≡ [] → (unless x m ++ unless y n) ≡ []
keeps_rules true true x y m n f g h = ap₂ (λ (p q : Bool). unless p m ++ unless q n) (f refl) (g refl)
keeps_rules true false x y m n f g h = absurd (cc h)
keeps_rules false b x y m n f g h = absurd (cc h)

module _ (c : Case) where
  keeps_operands : operands_fit c.insts (as_instruction c.words) ≡ true → operands_fit c.insts (as_instruction c.others) ≡ true
  keeps_operands =
      keeps_and (vector_operands_fit c.insts (as_instruction c.words)) _ _ _ (λ h. same_vector_operands c ∙ h)
      (keeps_and (composite_operands_fit c.insts (as_instruction c.words)) _ _ _ (λ h. same_composite_operands c ∙ h)
      (keeps_and (memory_operands_fit c.insts (as_instruction c.words)) (atomic_operands_fit c.insts (as_instruction c.words)) _ _
      (keeps_memory_operands c) (λ h. same_atomic_operands c ∙ h)))

  keeps_results : result_fits c.insts (as_instruction c.words) ≡ true → result_fits c.insts (as_instruction c.others) ≡ true
  keeps_results =
      keeps_and (vector_result_fits c.insts (as_instruction c.words)) _ _ _ (λ h. same_vector_result c ∙ h)
      (keeps_and (composite_result_fits c.insts (as_instruction c.words)) _ _ _ (λ h. same_composite_result c ∙ h)
      (keeps_and (memory_result_fits c.insts (as_instruction c.words)) (atomic_result_fits c.insts (as_instruction c.words)) _ _
      (keeps_memory_result c) (λ h. same_atomic_result c ∙ h)))

pub fits_where_replaced : FitsWhereReplaced
fits_where_replaced insts stage words others u replaces fits =
    let c : Case = record { insts = insts; words = words; others = others; replaces = replaces } in
    record {
      arithmetic =
          keeps_rules (arithmetic_operands.operands_fit insts (as_instruction words)) (arithmetic_results.result_fits insts (as_instruction words))
          (arithmetic_operands.operands_fit insts (as_instruction others)) (arithmetic_results.result_fits insts (as_instruction others)) 501 502
          (keeps_arithmetic c u) (λ h. same_arithmetic_result c ∙ h) fits.arithmetic;
      composites =
          keeps_rules (operands_fit insts (as_instruction words)) (result_fits insts (as_instruction words))
          (operands_fit insts (as_instruction others)) (result_fits insts (as_instruction others)) 501 502
          (keeps_operands c) (keeps_results c) fits.composites;
      storage = keeps_storage c stage fits.storage;
      ordering = keeps_ordering c u fits.ordering;
      result = same_function_result c ∙ fits.result;
      call = keeps_call c fits.call;
    }

pub returns_where_replaced : ReturnsWhereReplaced
returns_where_replaced insts t words others replaces =
    let c : Case = record { insts = insts; words = words; others = others; replaces = replaces } in
    same_returns c t
