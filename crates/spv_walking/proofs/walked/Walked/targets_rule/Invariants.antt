use Rattle.std.proofs.Common.{◌≡◌, take}
use Rattle.spv_blocks.specs.Tables.{found}
use Rattle.spv_module.specs.First.{least}
use Rattle.spv_walk.specs.Found.{all_target_rules}
use Rattle.spv_walking.specs.Places.{context_at}
use Rattle.spv_walking.proofs.walked.Walked.targets_rule.Given as goal

abbrev pub invariant-targets : goal.invariant-targets
invariant-targets l = l.rule ≡ least (all_target_rules l.labels (found l.enterers) l.label (context_at l.self.rows l.place) (take l.target-index l.targets))
