use Rattle.spv_module.specs.View.{seen}
use Rattle.spv_usage.proofs.Stepping.{stage-next}
use Rattle.spv_usage.proofs.stages.Stage.next.Goals as goal

pub returns : goal.returns
returns c = λ insts k is at. stage-next insts k (seen c.args.inst.now) c.args.self.now c.behind.result is at c.behind.ensures
