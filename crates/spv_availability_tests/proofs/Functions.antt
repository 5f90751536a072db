-- The functions of a module whose layout breaks no rule.
use Rattle.std.proofs.Common.{◌≡◌, ℕ, ◌+◌, ◌-◌, ◌<◌, List, Some, sym, ap, subst, ◌∙◌, arith}
use Rattle.std.specs.List.{count_by, slice_get}
use Rattle.spv_module.specs.Code.{is_function}
use Rattle.spv_module.specs.Instruction.{Instruction}
use Rattle.spv_blocks.specs.Blocks.{Code}
use Rattle.spv_blocks.specs.Cutting.{blocks_of, function_at, function_from, function_insts, starts}
use Rattle.spv_normal.specs.Lines.{without_marks}
use Rattle.spv_parse.specs.Functions.{IsLaidOut}
use Rattle.spv_spelling.specs.Whole.{AreInstructions, IsText}
use Rattle.spv_texts.proofs.Functions.{laid_out}
use Rattle.spv_availability.specs.Availability.{code_of}

pub text_of : (insts : List Instruction) (f k : ℕ) → AreInstructions insts → IsLaidOut insts → f < count_by is_function insts → slice_get (starts insts) f ≡ Some k
    → IsText (without_marks (function_at k insts))
text_of insts f k each laid within is =
    subst (λ z. IsText (without_marks (function_from insts z))) is (laid_out laid.end f insts each laid.unbroken within)

pub code_is : (insts : List Instruction) (f k : ℕ) (g : Code) → slice_get (starts insts) f ≡ Some k → g ≡ blocks_of (function_at k insts) → g ≡ code_of insts (f + 1)
code_is insts f k g is e =
    let same : f + 1 - 1 ≡ f = omega arith in
    e ∙ sym (ap (λ (n : ℕ). blocks_of (function_insts n insts)) same ∙ ap (λ z. blocks_of (function_from insts z)) is)
