use Rattle.std.proofs.Common.{take}
use Rattle.spv_blocks.specs.Tables.{found}
use Rattle.spv_blocks.specs.Blocks.{end_targets}
use Rattle.spv_blocks.specs.Seen.{seen_block}
use Rattle.spv_walking.specs.Onward.{Goes}
use Rattle.spv_walking.specs.Places.{context_at}
use Rattle.spv_walking.specs.Steps.{Comes}
use Rattle.spv_walking.proofs.going.Going.enter_all.Given as goal

abbrev pub invariant-targets : goal.invariant-targets
invariant-targets l =
    Comes l.labels l.fn.self l.self (Goes l.labels (found l.enterers) l.header (seen_block l.block) (context_at l.fn.self.walked.rows l.shared) (take l.k (end_targets (seen_block l.block).end)))
