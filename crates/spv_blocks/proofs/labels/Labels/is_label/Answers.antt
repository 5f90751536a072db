use Rattle.std.proofs.Common.{◌∙◌, ap}
use Rattle.std.specs.Option.{is_some}
use Rattle.spv_blocks.proofs.PlaceSteps.{label-place}
use Rattle.spv_blocks.proofs.labels.Labels.is_label.Goals as goal

pub returns : goal.returns
returns c = c.is_some.ensures ∙ ap is_some c.place.ensures ∙ label-place c.args.self.now c.args.label
