use Rattle.std.proofs.Common.{ap, ◌∙◌}
use Rattle.spv_blocks.specs.Blocks.{block}
use Rattle.spv_blocks.specs.Seen.{seen_block}
use Rattle.spv_walking.specs.Places.{context_at}
use Rattle.spv_walking.specs.Table.{context_of}
use Rattle.spv_parse.proofs.Scenes.{in_labels, no_map}
use Rattle.spv_parse.proofs.Standing.{has_context}
use Rattle.spv_parse.proofs.scene.Scene.leaves.Goals as goal

pub unreachable-requires : goal.unreachable-requires
unreachable-requires c =
    no_map (λ b. seen_block b.now) c.block.result _ _ c.block.ensures
    (ap (block c.args.self.now.labels.now) c.number-number.ensures.same ∙ in_labels c.args.self.now c.args.block c.args.left c.requires) c.in_default.is

pub unreachable-requires-in_default-place : goal.unreachable-requires-in_default-place
unreachable-requires-in_default-place c =
    no_map (context_at c.args.self.now.walked.now.rows) c.place.result _ _ c.place.ensures.context
    (ap (context_of c.args.self.now.walked.now) c.number-number.ensures.same ∙ has_context c.args.self.now c.args.block c.args.left c.requires) c.in_default-place.is
