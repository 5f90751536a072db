use Rattle.spv_tree.proofs.Phis.{carries-at, pairs-more}
use Rattle.spv_tree.proofs.phi.push_pairs.Goals as goal

pub push_pair-requires : goal.push_pair-requires
push_pair-requires c = carries-at c.args.k c.args.branches.now c.branches.branch-index c.branch-item.result c.branches-test.true c.branch-item.is c.requires

pub branches-preserved : goal.branches-preserved
branches-preserved c =
    pairs-more c.args.k c.args.branches.now c.branches.branch-index c.branch-item.result c.args.words.now.items c.branches.words.items c.push_pair.new.words.items c.branches-test.true
    c.branch-item.is c.branches.invariant c.in_ok-push_pair.ensures
