use Rattle.spv_module.specs.View.{seen}
use Rattle.spv_norm.specs.Norm.{stays_outside}
use Rattle.spv_norm.proofs.Stepwise.{filtered_next}
use Rattle.spv_norm.proofs.staying.push_staying_outside.Goals as goal

pub instructions-preserved : goal.instructions-preserved
instructions-preserved c =
    filtered_next (stays_outside c.args.definitions.now) c.args.insts.now c.instructions.insts c.push_staying.new.insts c.insts-all.result.now c.instructions.k (seen c.at.result)
    c.instructions.invariant c.in_ok-push_staying.ensures c.at.ensures
