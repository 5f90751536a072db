-- The pointer types of the instructions before a place.
use Rattle.std.proofs.Common.{◌≡◌, ℕ, ◌+◌, ◌||◌, List, take, Some, ap, ◌∙◌}
use Rattle.std.specs.List.{slice_get}
use Rattle.std.proofs.lemmas.List.Folds.{list_any_more}
use Rattle.std.proofs.lemmas.Option.{get_or_from_slice_get, slice_get_within}
use Rattle.spv_module.specs.Instruction.{Instruction}
use Rattle.spv_functions.specs.Functions.{defines_pointer, is_pointer}

pub one_more_pointer : (insts : List Instruction) (k : ℕ) (i : Instruction) (t : ℕ) → slice_get insts k ≡ Some i
    → is_pointer (take (k + 1) insts) t ≡ (is_pointer (take k insts) t || defines_pointer t i)
one_more_pointer insts k i t at =
    list_any_more (defines_pointer t) insts k i (slice_get_within insts k i at)
    ∙ ap (λ j. is_pointer (take k insts) t || defines_pointer t j) (get_or_from_slice_get insts k i i at)
