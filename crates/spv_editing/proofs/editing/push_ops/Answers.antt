use Rattle.spv_editing.proofs.Becoming.{op-pushed}
use Rattle.spv_editing.proofs.editing.push_ops.Goals as goal

pub insts-preserved : goal.insts-preserved
insts-preserved c = op-pushed c.args.made.now c.insts.made c.push.new.self c.insts.yielded c.in-Some.inst c.in_ok-push.ensures.ok c.insts.invariant
