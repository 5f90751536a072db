-- The stage of the instruction behind one.
use Rattle.std.proofs.Common.{◌≡◌, ℕ, ◌+◌, List, take, Some, ap, sym, ◌∙◌}
use Rattle.std.specs.Prelude.{slice_get}
use Rattle.std.specs.List.{fold}
use Rattle.std.proofs.lemmas.List.Sums.{fold_more}
use Rattle.std.proofs.lemmas.Option.{get_or_from_slice_get, slice_get_within}
use Rattle.spv_module.specs.Instruction.{Instruction}
use Rattle.spv_usage.specs.Stages.{Stage, Outside, stage_behind, IsStage}

-- a fold over one element more
fold_at : {X Y : Type 0} (f : Y → X → Y) (a : Y) (xs : List X) (k : ℕ) (x : X) → slice_get xs k ≡ Some x → fold f a (take (k + 1) xs) ≡ f (fold f a (take k xs)) x
fold_at f a xs k x at = fold_more f a xs k x (slice_get_within xs k x at) ∙ ap (f (fold f a (take k xs))) (get_or_from_slice_get xs k x x at)

pub stage-next : (insts : List Instruction) (k : ℕ) (i : Instruction) (stage next : Stage) → IsStage insts k stage → slice_get insts k ≡ Some i → next ≡ stage_behind stage i →
    IsStage insts (k + 1) next
stage-next insts k i stage next is at e = record { is = e ∙ ap (λ (s : Stage). stage_behind s i) is.is ∙ sym (fold_at stage_behind Outside insts k i at) }
