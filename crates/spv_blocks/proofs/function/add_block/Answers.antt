use Rattle.std.proofs.Common.{◌∙◌, ◌∷◌, [], ap, sym}
use Rattle.std.proofs.lemmas.List.{map-append}
use Rattle.spv_module.specs.View.{seen}
use Rattle.spv_blocks.specs.Seen.{seen_block, seen_code}
use Rattle.spv_blocks.proofs.BlockSteps.{blocks-more, blocks-other}
use Rattle.spv_blocks.proofs.function.add_block.Goals as goal

pub returns-in_ok-push : goal.returns-in_ok-push
returns-in_ok-push c =
    blocks-more c.args.insts.now c.args.k (seen c.at.result) (seen_block c.in_ok-block_at.field-0) (seen_code c.args.blocks.now.items) (seen_code c.push.new.self.items)
    c.at.ensures (sym c.is_label.ensures ∙ c.if-is_label.true) (c.in_ok-block_at.ensures (seen c.at.result) c.at.ensures)
    (ap seen_code c.in_ok-push.ensures.items ∙ map-append seen_block c.args.blocks.now.items (c.in_ok-block_at.field-0 ∷ []))

pub returns-else-is_label : goal.returns-else-is_label
returns-else-is_label c =
    blocks-other c.args.insts.now c.args.k (seen c.at.result) (seen_code c.args.blocks.now.items) c.at.ensures (sym c.is_label.ensures ∙ c.if-is_label.false)
