use Rattle.spv_tree.specs.Branches.{branchings}
use Rattle.spv_tree.specs.Fronts.{IsShort}
use Rattle.spv_tree.specs.Tree.{parameter_of, words_of}
use Rattle.spv_tree.proofs.Fronts.{at-map, phis-more}
use Rattle.spv_tree.proofs.phi.push_phis.Goals as goal

pub push_phi-requires-clause-short : goal.push_phi-requires-clause-short
push_phi-requires-clause-short c =
    at-map (IsShort (branchings c.args.arriving.now)) parameter_of c.args.parameters.now c.parameters.k c.index-parameters-k.result c.parameters-test.true c.index-parameters-k.is c.requires.short

pub parameters-preserved : goal.parameters-preserved
parameters-preserved c =
    phis-more (branchings c.args.arriving.now) c.args.parameters.now c.parameters.k c.index-parameters-k.result (words_of c.args.insts.now) (words_of c.parameters.insts)
    (words_of c.push_phi.new.insts) c.parameters-test.true c.index-parameters-k.is c.parameters.invariant c.in_ok-push_phi.ensures
