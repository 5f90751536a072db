use Rattle.std.proofs.Common.{◌≤◌, ◌∙◌, length, ap, sym, arith}
use Rattle.std.specs.List.{slice_get}
use Rattle.spv_blocks.specs.Blocks.{Code, end_targets}
use Rattle.spv_blocks.specs.Places.{number_of}
use Rattle.spv_blocks.specs.Seen.{seen_block}
use Rattle.spv_blocks.proofs.EndTargets.{row-all}
use Rattle.spv_blocks.proofs.PlaceSteps.{numbers-more}
use Rattle.spv_blocks.proofs.labels.Labels.row.Goals as goal

pub targets-preserved : goal.targets-preserved
targets-preserved c =
    let f = c.args.self.now in
    let labels = end_targets (seen_block c.block-block.result.now).end in
    numbers-more f labels c.targets.k c.number.result c.targets.row.items c.push.new.self.items (omega arith) (c.number.ensures ∙ ap (number_of f) c.target.ensures) c.targets.invariant c.in_ok-push.ensures.items

pub returns : goal.returns
returns c =
    let f = c.args.self.now in
    let b = seen_block c.block-block.result.now in
    let all : length (end_targets b.end) ≤ c.targets.k = omega arith in
    row-all f b c.targets.k c.targets.row.items all c.targets.invariant (slice_get f c.args.i) (sym (ap (λ (g : Code). slice_get g c.args.i) c.self.view_is) ∙ c.block-block.ensures)
