use Rattle.std.proofs.Common.{arith}
use Rattle.spv_module.specs.View.{seen}
use Rattle.spv_tree.specs.Tree.{words_of}
use Rattle.spv_tree.proofs.Copies.{list-more}
use Rattle.spv_tree.proofs.flattening.push_list.Goals as goal

pub list-preserved : goal.list-preserved
list-preserved c =
    list-more c.args.list.now c.list.k (seen c.at.result) (words_of c.args.insts.now) c.list.insts c.push_view.new.self (omega arith) c.at.ensures c.list.invariant
    c.in_ok-push_view.ensures.ok
