use Rattle.spv_typed_trees.proofs.Converse as converse
use Rattle.spv_typed_trees.proofs.Whole as whole
use Rattle.spv_typed_trees.proofs.laws.typed_trees_law.Goals as goal

pub returns-clause-unbroken : goal.returns-clause-unbroken
returns-clause-unbroken c = whole.typed_is_unbroken

pub returns-clause-typed : goal.returns-clause-typed
returns-clause-typed c = converse.unbroken_is_typed

pub returns-clause-listed : goal.returns-clause-listed
returns-clause-listed c = whole.spelled_are_listed
