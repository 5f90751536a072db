use Rattle.spv_blocks.proofs.PlaceSteps.{keeps}
use Rattle.spv_blocks.proofs.labels.add_place.Goals as goal

pub returns : goal.returns
returns c = keeps c.args.places.now c.put.new.self c.args.k c.args.label c.in-None.ensures c.in_ok-put.ensures.ok
