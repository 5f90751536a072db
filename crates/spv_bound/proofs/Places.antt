-- The instructions before a place.
use Rattle.std.proofs.Common.{◌≡◌, ℕ, suc, ◌+◌, ◌<◌, List, [], ◌∷◌, ◌++◌, length, take, Some, ap, ◌∙◌, add-one}
use Rattle.std.specs.List.{slice_get}
use Rattle.std.proofs.Math.Seq.{take-suc}
use Rattle.std.proofs.lemmas.Option.{get_or_from_slice_get}
use Rattle.spv_module.specs.Instruction.{Instruction}

-- one instruction more
pub take-at : (insts : List Instruction) (k : ℕ) (i : Instruction) → k < length insts → slice_get insts k ≡ Some i →
    take (k + 1) insts ≡ take k insts ++ i ∷ []
take-at insts k i fits at =
    rw add-one (take-suc insts k i fits ∙ ap (λ (j : Instruction). take k insts ++ j ∷ []) (get_or_from_slice_get insts k i i at))
