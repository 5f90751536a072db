use Rattle.std.proofs.Common.{◌+◌, ◌∙◌, take, get_or, arith}
use Rattle.std.proofs.lemmas.List.{take_more}
use Rattle.spv_blocks.specs.Tables.{found}
use Rattle.spv_walking.specs.Places.{context_at}
use Rattle.spv_walking.proofs.Refused.{rule_more}
use Rattle.spv_walking.proofs.walked.Walked.targets_rule.Goals as goal

pub targets-preserved : goal.targets-preserved
targets-preserved c =
    let ts = c.args.targets.now in
    let i = c.targets.target-index in
    c.lesser-rule.ensures
    ∙ rule_more c.args.labels.now (found c.args.enterers.now) c.args.label (context_at c.args.self.now.rows c.args.place) c.targets.rule c.target_rule.result (take i ts) (take (i + 1) ts)
    (get_or ts i 0) c.targets.invariant c.target_rule.ensures (take_more ts i 0 (omega arith))
