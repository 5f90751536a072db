use Rattle.std.proofs.Common.{◌≡◌, ◌<◌, length, ◌∙◌}
use Rattle.std.proofs.lemmas.Result.{on_ok_weaker}
use Rattle.spv_blocks.specs.Tables.{found}
use Rattle.spv_blocks.specs.Seen.{seen_block}
use Rattle.spv_walking.specs.Onward.{GoesTarget, GoesNext}
use Rattle.spv_walking.specs.Places.{context_at}
use Rattle.spv_walking.proofs.Targets.{comes_context, comes_within, goes_on}
use Rattle.spv_walking.proofs.going.Going.go_on.Goals as goal

pub returns : goal.returns
returns c =
    let f = c.args.labels.now in
    let enterer = found c.args.enterers.now in
    let b = c.args.header in
    let x = seen_block c.args.block.now in
    let g = c.args.self.now in
    let h = c.enter_targets.new.self in
    let i = c.enter_next.new.self in
    let place = c.args.place in
    let at = context_at g.walked.rows place in
    let at_targets = context_at h.walked.rows place in
    let first = GoesTarget f enterer b x at in
    let second = GoesNext f b x at_targets in
    let stays : at_targets ≡ at = comes_context f g h first place c.in_ok-enter_targets.ensures c.requires in
    let within : place < length h.walked.rows = comes_within f g h first place c.in_ok-enter_targets.ensures c.requires in
    on_ok_weaker c.enter_merge.result
    (λ m. goes_on f enterer b x g h i c.enter_merge.new.self at at_targets (context_at i.walked.rows place) c.in_ok-enter_targets.ensures stays c.in_ok-enter_next.ensures
    (comes_context f h i second place c.in_ok-enter_next.ensures within ∙ stays) m)
    c.enter_merge.ensures
