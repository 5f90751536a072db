-- Keeping instructions one by one.
use Rattle.std.proofs.Common.{◌≡◌, ℕ, ◌+◌, ◌<◌, Bool, true, false, cond, List, [], ◌∷◌, ◌++◌, length, take, Some, ap, ◌∙◌, add-one}
use Rattle.std.specs.List.{slice_get}
use Rattle.std.proofs.Math.Seq.{take-suc}
use Rattle.std.proofs.lemmas.List.{append-nil}
use Rattle.std.proofs.lemmas.List.Elements.{filter-append}
use Rattle.std.proofs.lemmas.Option.{get_or_from_slice_get}
use Rattle.spv_module.specs.Instruction.{Instruction}
use Rattle.spv_stripped.specs.Strip.{stays, stripped_insts}

stripped-push : (insts : List Instruction) (k : ℕ) (i : Instruction) (b : Bool) → k < length insts → slice_get insts k ≡ Some i → stays i ≡ b → stripped_insts (take (k + 1) insts) ≡ stripped_insts (take k insts) ++ cond b (i ∷ []) []
stripped-push insts k i b fits at e =
    ap (λ (n : ℕ). stripped_insts (take n insts)) (add-one k)
    ∙ ap stripped_insts (take-suc insts k i fits ∙ ap (λ (j : Instruction). take k insts ++ j ∷ []) (get_or_from_slice_get insts k i i at))
    ∙ filter-append stays (take k insts) (i ∷ [])
    ∙ ap (λ (t : Bool). stripped_insts (take k insts) ++ cond t (i ∷ []) []) e

-- an instruction that stays is added
pub stripped-kept : (insts : List Instruction) (k : ℕ) (i : Instruction) → k < length insts → slice_get insts k ≡ Some i → stays i ≡ true → stripped_insts (take (k + 1) insts) ≡ stripped_insts (take k insts) ++ i ∷ []
stripped-kept insts k i fits at e = stripped-push insts k i true fits at e

-- and another is not
pub stripped-gone : (insts : List Instruction) (k : ℕ) (i : Instruction) → k < length insts → slice_get insts k ≡ Some i → stays i ≡ false → stripped_insts (take (k + 1) insts) ≡ stripped_insts (take k insts)
stripped-gone insts k i fits at e = stripped-push insts k i false fits at e ∙ append-nil (stripped_insts (take k insts))
