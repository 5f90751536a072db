use Rattle.std.proofs.Common.{refl, ap}
use Rattle.std.proofs.lemmas.Result.{on_ok_weaker}
use Rattle.spv_blocks.specs.Tables.{found}
use Rattle.std.specs.Option.{option_map}
use Rattle.spv_blocks.specs.Blocks.{end_targets}
use Rattle.spv_blocks.specs.Seen.{seen_block, seen_construct}
use Rattle.spv_walking.specs.Onward.{shared}
use Rattle.spv_walking.specs.Places.{context_at}
use Rattle.spv_walking.proofs.Targets.{goes_targets}
use Rattle.spv_walking.proofs.going.Going.enter_targets.Goals as goal

pub returns : goal.returns
returns c =
    let b = c.args.header in
    let at = context_at c.args.self.now.walked.rows c.args.place in
    on_ok_weaker c.enter_all.result
    (λ a. goes_targets c.args.labels.now (found c.args.enterers.now) b (seen_block c.args.block.now) c.args.self.now
    (record { walked = c.shared.new.self; waiting = c.args.self.now.waiting }) c.enter_all.new.self c.in_ok-shared.shared at
    (shared (option_map seen_construct c.construct.result) b at) (end_targets (seen_block c.args.block.now).end) c.in_ok-shared.ensures (ap (λ k. shared k b at) c.construct.ensures) refl
    refl a)
    c.enter_all.ensures
