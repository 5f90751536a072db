use Rattle.spv_machine.proofs.Silence as laws
use Rattle.spv_machine.proofs.laws.strip_law.Goals as goal

pub returns-clause-means_same : goal.returns-clause-means_same
returns-clause-means_same c = laws.strip_law

pub returns-clause-written : goal.returns-clause-written
returns-clause-written c = laws.strip_words_law
