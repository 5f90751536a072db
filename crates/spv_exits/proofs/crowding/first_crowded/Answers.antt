use Rattle.std.proofs.Common.{◌≡◌, ◌≤◌, Some, length, ap, ◌∙◌, arith}
use Rattle.std.specs.List.{slice_get}
use Rattle.spv_module.specs.First.{first}
use Rattle.spv_blocks.specs.Blocks.{Code}
use Rattle.spv_blocks.specs.Seen.{seen_block}
use Rattle.spv_exits.specs.Exits.{crowded, crowded_at}
use Rattle.spv_exits.proofs.Capped.{first-capped}
use Rattle.spv_exits.proofs.CrowdedBlocks.{label-placed, crowded-none, crowded-more, crowded-all}
use Rattle.spv_exits.proofs.crowding.first_crowded.Goals as goal

pub each-init : goal.each-init
each-init c = crowded-none c.args.function.now c.args.function.now c.args.nested

pub each-preserved : goal.each-preserved
each-preserved c =
    let f = c.args.function.now in
    let b = seen_block c.block.result.now in
    let at : slice_get c.args.labels.now c.each.k ≡ Some b = ap (λ (g : Code). slice_get g c.each.k) c.requires.same ∙ c.block.ensures in
    let p = label-placed c.args.labels.now c.each.k b at in
    crowded-more f c.args.nested c.each.k b c.each.refusal c.crowded_at.result c.earlier-refusal.result c.block.ensures c.each.invariant
    (c.crowded_at.ensures p.0 p.1 ∙ ap (λ (g : Code). first (crowded_at g c.args.nested b)) c.requires.same)
    c.earlier-refusal.ensures.same

pub returns : goal.returns
returns c =
    let f = c.args.function.now in
    let past : length f ≤ c.each.k = (let t = c.each-test.false in let e = c.count-k-end.ensures in omega arith) in
    let found : c.each.refusal ≡ first (crowded f c.args.nested) = crowded-all f c.args.nested c.each.k c.each.refusal past c.each.invariant in
    record { first = found; capped = λ n e. first-capped f c.args.nested n c.each.refusal e found }
