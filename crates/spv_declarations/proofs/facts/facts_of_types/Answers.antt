use Rattle.spv_declarations.proofs.Examples as examples
use Rattle.spv_declarations.proofs.facts.facts_of_types.Goals as goal

pub returns-clause-unbroken : goal.returns-clause-unbroken
returns-clause-unbroken c = examples.scalars_unbroken
