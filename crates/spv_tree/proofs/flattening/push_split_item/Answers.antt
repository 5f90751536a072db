use Rattle.spv_tree.specs.Tree.{end_body, items_then, words_of}
use Rattle.spv_tree.proofs.Listed.{split-goes, split-leads}
use Rattle.spv_tree.proofs.flattening.push_split_item.Goals as goal

pub returns-in_ok-push_label-in-Block : goal.returns-in_ok-push_label-in-Block
returns-in_ok-push_label-in-Block c all =
    split-goes all c.args.split.now c.in-Block.label (items_then c.args.behind.now (end_body c.args.end.now)) (words_of c.args.insts.now) (words_of c.push_leaving.new.insts)
    (words_of c.push_label.new.insts) c.in-Block.is c.in_ok-push_leaving-in-Block.ensures c.in_ok-push_label-in-Block.ensures

pub returns-in_ok-push_leaving-in-Branch : goal.returns-in_ok-push_leaving-in-Branch
returns-in_ok-push_leaving-in-Branch c all =
    split-leads all c.args.split.now c.target_of_rest.result (items_then c.args.behind.now (end_body c.args.end.now)) (words_of c.args.insts.now) (words_of c.push_leaving-in-Branch.new.insts)
    c.in-Branch.is c.target_of_rest.ensures c.in_ok-push_leaving-in-Branch.ensures
