use Rattle.std.proofs.Common.{◌∙◌, sym, arith}
use Rattle.spv_module.specs.View.{seen}
use Rattle.spv_sources.proofs.Runs.{phis-goes_on, behind-goes_on, phis-stop, behind-here}
use Rattle.spv_sources.proofs.reading.past_phis.Goals as goal

pub returns-then-not-is_phi-clause-front : goal.returns-then-not-is_phi-clause-front
returns-then-not-is_phi-clause-front c =
    phis-stop c.args.insts.now c.args.start c.phis.k (seen c.at.result) c.at.ensures (sym c.is_phi.ensures ∙ c.if-not-is_phi.true) c.phis.invariant.front

pub returns-then-not-is_phi-clause-behind : goal.returns-then-not-is_phi-clause-behind
returns-then-not-is_phi-clause-behind c =
    behind-here c.args.insts.now c.args.start c.phis.k (seen c.at.result) c.at.ensures (sym c.is_phi.ensures ∙ c.if-not-is_phi.true) c.phis.invariant.behind

pub phis-preserved : goal.phis-preserved
phis-preserved c = record {
  front = phis-goes_on c.args.insts.now c.args.start c.phis.k (seen c.at.result) (omega arith) c.at.ensures (sym c.is_phi.ensures ∙ c.if-not-is_phi.false) c.phis.invariant.front;
  behind = behind-goes_on c.args.insts.now c.args.start c.phis.k (seen c.at.result) c.at.ensures (sym c.is_phi.ensures ∙ c.if-not-is_phi.false) c.phis.invariant.behind;
}
