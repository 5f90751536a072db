use Rattle.std.proofs.Common.{◌≤◌, length, ◌+◌, take, sym, ap, subst, ◌∙◌, arith}
use Rattle.spv_blocks.specs.Blocks.{Code, block}
use Rattle.spv_blocks.specs.Seen.{seen_block}
use Rattle.spv_walk.specs.Rules.{IsFirst}
use Rattle.spv_walk.specs.Walked.{InPlaces}
use Rattle.spv_walk.specs.Found.{Missing}
use Rattle.spv_walking.specs.Lost.{missing_at}
use Rattle.spv_walking.specs.Table.{context_of}
use Rattle.spv_walking.proofs.Looked.{labelled}
use Rattle.spv_walking.proofs.LostBlocks.{MissingOf, missing_none, missing_more, missing_all}
use Rattle.spv_walking.proofs.walked.Walked.missing.Goals as goal

pub each-init : goal.each-init
each-init c = missing_none c.args.function.now (context_of c.args.self.now)

pub each-preserved : goal.each-preserved
each-preserved c =
    let g = c.args.function.now in
    let x = seen_block c.block.result.now in
    let place = context_of c.args.self.now in
    subst (IsFirst (MissingOf g place (λ b. labelled (take (c.each.k + 1) g) b))) (sym c.earlier-refusal.ensures)
    (missing_more g place c.each.k x c.each.refusal c.missing_at.result c.block.ensures c.each.invariant
    (c.missing_at.ensures ∙ ap (λ (f : Code). missing_at (place x.label) (block f x.label)) c.requires.same))

pub returns : goal.returns
returns c =
    let n : length c.args.function.now ≤ c.each.k = (let t = c.each-test.false in let e = c.count-k-end.ensures in omega arith) in
    subst (λ (f : Code). IsFirst (Missing f (InPlaces (context_of c.args.self.now))) c.each.refusal) (sym c.requires.same)
    (missing_all c.args.function.now (context_of c.args.self.now) c.each.k c.each.refusal n c.each.invariant)
