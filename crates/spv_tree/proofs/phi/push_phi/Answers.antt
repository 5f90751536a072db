use Rattle.spv_tree.specs.Branches.{branchings}
use Rattle.spv_tree.specs.Phi.{Carries}
use Rattle.spv_tree.proofs.Fronts.{ordered-all}
use Rattle.spv_tree.proofs.phi.push_phi.Goals as goal

pub words_of_phi-requires-clause-carried : goal.words_of_phi-requires-clause-carried
words_of_phi-requires-clause-carried c =
    ordered-all (Carries c.args.k) c.args.parameter.now.parents c.as_slice.result.now (branchings c.args.arriving.now) c.in_ok-branches.branches.items c.deref.result.now c.requires.carried
    c.as_slice.ensures c.deref.ensures.value c.in_ok-branches.ensures
