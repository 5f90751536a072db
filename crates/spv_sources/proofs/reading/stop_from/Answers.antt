use Rattle.std.proofs.Common.{◌∙◌, sym, arith}
use Rattle.spv_module.specs.View.{seen}
use Rattle.spv_sources.proofs.Runs.{steps-goes_on, from-goes_on, steps-stop, from-here}
use Rattle.spv_sources.proofs.reading.stop_from.Goals as goal

pub returns-then-is_stop-clause-before : goal.returns-then-is_stop-clause-before
returns-then-is_stop-clause-before c =
    steps-stop c.args.insts.now c.args.start c.steps.k (seen c.at.result) c.at.ensures (sym c.is_stop.ensures ∙ c.if-is_stop.true) c.steps.invariant.before

pub returns-then-is_stop-clause-from : goal.returns-then-is_stop-clause-from
returns-then-is_stop-clause-from c =
    from-here c.args.insts.now c.args.start c.steps.k (seen c.at.result) c.at.ensures (sym c.is_stop.ensures ∙ c.if-is_stop.true) c.steps.invariant.from

pub steps-preserved : goal.steps-preserved
steps-preserved c = record {
  before = steps-goes_on c.args.insts.now c.args.start c.steps.k (seen c.at.result) (omega arith) c.at.ensures (sym c.is_stop.ensures ∙ c.if-is_stop.false) c.steps.invariant.before;
  from = from-goes_on c.args.insts.now c.args.start c.steps.k (seen c.at.result) c.at.ensures (sym c.is_stop.ensures ∙ c.if-is_stop.false) c.steps.invariant.from;
}
