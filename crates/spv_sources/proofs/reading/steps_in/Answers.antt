use Rattle.std.proofs.Common.{arith}
use Rattle.spv_module.specs.View.{seen}
use Rattle.spv_sources.specs.Close.{step_words}
use Rattle.spv_sources.proofs.Runs.{words-more}
use Rattle.spv_sources.proofs.reading.steps_in.Goals as goal

pub steps-preserved : goal.steps-preserved
steps-preserved c =
    words-more c.args.insts.now c.args.from c.steps.k (seen c.at.result) (step_words c.steps.steps.items) (step_words c.push_step.new.steps.items)
    (omega arith) c.at.ensures c.in_ok-push_step.ensures c.steps.invariant
