-- The blocks of a function that begins with the instruction numbered first, by the number of the function.
use Rattle.std.proofs.Common.{◌≡◌, ℕ, ◌+◌, ◌-◌, ◌<◌, Bool, List, length, Some, None, sym, ap, subst, ◌∙◌, arith}
use Rattle.std.specs.List.{count_by, slice_get}
use Rattle.spv_module.specs.Code.{is_function}
use Rattle.spv_module.specs.Instruction.{Instruction}
use Rattle.spv_blocks.specs.Blocks.{Code}
use Rattle.spv_blocks.specs.Cutting.{blocks_of, function_at, function_from, function_insts, starts}
use Rattle.spv_walk.specs.Numbering.{HasOwnLabels}
use Rattle.spv_walk.specs.Rules.{Broken, IsFirst}
use Rattle.spv_spelling.specs.Whole.{AreInstructions}
use Rattle.spv_availability.specs.Availability.{code_of}
use Rattle.spv_functions.specs.Functions.{IsDeclared}
use Rattle.spv_functions.proofs.Declared.{declared_own, declared_text, function_is}
use Rattle.spv_check.proofs.Beginnings.{text_has_blocks}

module _ (insts : List Instruction) (f first : ℕ) (g : Code)
    (at : slice_get (starts insts) f ≡ Some first) (same : g ≡ blocks_of (function_at first insts)) where
  pub opened_own : AreInstructions insts → IsDeclared insts → HasOwnLabels g
  opened_own each declared = subst HasOwnLabels (sym same) (declared_own insts f first at each declared)

  pub opened_some : AreInstructions insts → IsDeclared insts → f < count_by is_function insts → 0 < length g
  opened_some each declared within =
      subst (λ (z : Code). 0 < length z) (sym same) (text_has_blocks (function_at first insts) (declared_text insts f first at each declared within))

  pub opened_clean : (is_pointer : ℕ → Bool) → IsFirst (Broken is_pointer (blocks_of (function_insts f insts))) None → IsFirst (Broken is_pointer g) None
  opened_clean is_pointer unbroken =
      subst (λ (z : Code). IsFirst (Broken is_pointer z) None) (ap blocks_of (function_is insts f first at) ∙ sym same) unbroken

  pub opened_code : g ≡ code_of insts (f + 1)
  opened_code =
      let one : f + 1 - 1 ≡ f = omega arith in
      same ∙ sym (ap (λ (n : ℕ). blocks_of (function_insts n insts)) one ∙ ap (λ z. blocks_of (function_from insts z)) at)
