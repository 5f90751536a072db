use Rattle.std.proofs.Common.{◌∷◌, []}
use Rattle.spv_blocks.specs.Blocks.{times}
use Rattle.spv_blocks.proofs.PlaceSteps.{adds-both, times-two}
use Rattle.spv_blocks.proofs.counting.add_both.Goals as goal

pub returns : goal.returns
returns c =
    adds-both c.args.counts.now c.add_name.new.counts c.add_name-2.new.counts (times (c.args.one ∷ [])) (times (c.args.other ∷ [])) (times (c.args.one ∷ c.args.other ∷ []))
    (times-two c.args.one c.args.other) c.in_ok-add_name.ensures c.in_ok-add_name-2.ensures
