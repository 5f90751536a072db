use Rattle.spv_structured.proofs.Samples as samples
use Rattle.spv_structured.proofs.facts.facts_of_structure.Goals as goal

pub returns-clause-structured : goal.returns-clause-structured
returns-clause-structured c = samples.samples

pub returns-clause-others : goal.returns-clause-others
returns-clause-others c = samples.others

pub returns-clause-unbroken : goal.returns-clause-unbroken
returns-clause-unbroken c = samples.placed_breaks_nothing
