-- A function of a module that breaks no rule on layout and on declarations.
use Rattle.std.proofs.Common.{◌≡◌, ℕ, ◌<◌, List, length, Some, sym, ap, subst, ◌∙◌}
use Rattle.std.specs.List.{count_by, slice_get, slice_index_or}
use Rattle.std.proofs.lemmas.Option.{slice_get-get_or}
use Rattle.spv_module.specs.Code.{is_function}
use Rattle.spv_module.specs.Instruction.{Instruction}
use Rattle.spv_blocks.specs.Cutting.{blocks_of, function_at, function_from, function_insts, starts}
use Rattle.spv_blocks.proofs.FoundLaws.{are_counted}
use Rattle.spv_walk.specs.Numbering.{HasOwnLabels}
use Rattle.spv_normal.specs.Lines.{without_marks}
use Rattle.spv_spelling.specs.Whole.{AreInstructions, IsText}
use Rattle.spv_texts.proofs.Functions.{laid_out}
use Rattle.spv_texts.proofs.Labels.{labels_are_own, unbroken_defines_once}
use Rattle.spv_texts.proofs.Marks.{blocks_without_marks}
use Rattle.spv_functions.specs.Functions.{IsDeclared}

-- a module has a start for each OpFunction
pub start_within : (insts : List Instruction) (starting : List ℕ) (f : ℕ) → starting ≡ starts insts → f < count_by is_function insts → f < length starting
start_within insts starting f same within = subst (λ n. f < n) (sym (ap length same ∙ are_counted insts)) within

pub start_at : (insts : List Instruction) (starting : List ℕ) (f first : ℕ) → starting ≡ starts insts → f < count_by is_function insts → first ≡ slice_index_or starting f first
    → slice_get (starts insts) f ≡ Some first
start_at insts starting f first same within is =
    subst (λ xs. slice_get xs f ≡ Some first) same (slice_get-get_or starting f first (start_within insts starting f same within) ∙ ap Some (sym is))

module _ (insts : List Instruction) (f first : ℕ) (at : slice_get (starts insts) f ≡ Some first) where
  pub function_is : function_insts f insts ≡ function_at first insts
  function_is = ap (function_from insts) at

  module _ (each : AreInstructions insts) (d : IsDeclared insts) where
    pub declared_text : f < count_by is_function insts → IsText (without_marks (function_at first insts))
    declared_text within = subst (λ is. IsText (without_marks is)) function_is (laid_out d.end f insts each d.laid_out within)

    pub declared_own : HasOwnLabels (blocks_of (function_at first insts))
    declared_own =
        subst (λ is. HasOwnLabels (blocks_of is)) function_is
        (subst HasOwnLabels (blocks_without_marks (function_insts f insts)) (labels_are_own insts f each (unbroken_defines_once insts d.declared)))
