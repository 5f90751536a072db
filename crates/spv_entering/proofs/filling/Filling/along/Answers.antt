use Rattle.std.proofs.Common.{◌∙◌, arith}
use Rattle.spv_entering.proofs.Turning.{looked-more, looked-goes}
use Rattle.spv_entering.proofs.filling.Filling.along.Goals as goal

pub targets-preserved : goal.targets-preserved
targets-preserved c =
    looked-more c.args.flow.now c.args.self.now c.targets.self c.look.new.self c.deref-t-items.result.now c.targets.t-index c.targets.invariant c.in_ok-look.ensures

pub returns : goal.returns
returns c =
    looked-goes c.args.flow.now c.args.self.now c.targets.self c.deref-t-items.result.now c.targets.t-index c.args.b (c.deref-t-items.ensures.value ∙ c.in_ok-targets.ensures) c.targets-test.false c.targets.invariant
