use Rattle.spv_tree.proofs.Copies.{copied}
use Rattle.spv_tree.specs.Tree.{words_of}
use Rattle.spv_tree.proofs.Listed.{op-adds}
use Rattle.spv_tree.proofs.flattening.push_op.Goals as goal

pub returns : goal.returns
returns c all after =
    op-adds all c.args.inst.now after (words_of c.args.insts.now) (words_of c.push_view.new.self)
    (copied c.args.insts.now c.push_view.new.self c.view.result c.args.inst.now c.view.ensures c.in_ok-push_view.ensures.ok)
