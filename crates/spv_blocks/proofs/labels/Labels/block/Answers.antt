use Rattle.std.proofs.Common.{◌<◌, ◌∙◌, length, ap, sym, subst}
use Rattle.std.specs.List.{slice_get}
use Rattle.spv_blocks.specs.Blocks.{Code}
use Rattle.spv_blocks.proofs.PlaceSteps.{block-at, block-none, place-within}
use Rattle.spv_blocks.proofs.labels.Labels.block.Goals as goal

pub returns-in_err-place : goal.returns-in_err-place
returns-in_err-place c = rw c.from_residual.ensures (block-none c.args.self.now c.args.label c.in_err-place.ensures)

pub block-requires : goal.block-requires
block-requires c = subst (λ (f : Code). c.in_ok-place.place < length f) (sym c.self.view_is) (place-within c.args.self.now c.args.label c.in_ok-place.place (sym c.in_ok-place.ensures))

pub returns : goal.returns
returns c =
    sym c.block.ensures ∙ ap (λ (f : Code). slice_get f c.in_ok-place.place) c.self.view_is
    ∙ block-at c.args.self.now c.args.label c.in_ok-place.place (sym c.in_ok-place.ensures)
