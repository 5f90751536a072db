use Rattle.spv_unbroken.proofs.Choices.{prunes_alike}
use Rattle.spv_unbroken.proofs.Named.{named_is_tree}
use Rattle.spv_unbroken.proofs.Pruning.{pruned_is_unbroken}
use Rattle.spv_unbroken.proofs.laws.pruning_law.Goals as goal

pub returns-clause-named : goal.returns-clause-named
returns-clause-named c = named_is_tree

pub returns-clause-unbroken : goal.returns-clause-unbroken
returns-clause-unbroken c = pruned_is_unbroken

pub returns-clause-same : goal.returns-clause-same
returns-clause-same c = prunes_alike
