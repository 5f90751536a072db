use Rattle.spv_tree.specs.Branches.{branchings}
use Rattle.spv_tree.proofs.Gathering.{split-gathers, on-block, on-branch}
use Rattle.spv_tree.proofs.gather.gather_split.Goals as goal

pub returns-in-Block : goal.returns-in-Block
returns-in-Block c =
    let s = c.args.split.now in
    split-gathers s c.args.block c.in-Block.label (branchings c.args.found.now.items) (branchings c.add_exit.new.found.items)
    (on-block s.next c.args.block c.in-Block.label c.in-Block.is) c.in_ok-add_exit.ensures

pub returns-in-Branch : goal.returns-in-Branch
returns-in-Branch c =
    let s = c.args.split.now in
    split-gathers s c.args.block c.args.block (branchings c.args.found.now.items) (branchings c.add_exit.new.found.items) (on-branch s.next c.args.block c.in-Branch.is) c.in_ok-add_exit.ensures
