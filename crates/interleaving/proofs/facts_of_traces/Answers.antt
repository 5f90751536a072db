use Rattle.std.proofs.Common.{refl}
use Rattle.interleaving.proofs.Example as facts
use Rattle.interleaving.proofs.facts_of_traces.Goals as goal

pub returns-clause-returned : goal.returns-clause-returned
returns-clause-returned c = refl

pub returns-clause-stuck : goal.returns-clause-stuck
returns-clause-stuck c = refl

pub returns-clause-asks : goal.returns-clause-asks
returns-clause-asks c = refl

pub returns-clause-runs : goal.returns-clause-runs
returns-clause-runs c = refl

pub returns-clause-answer_costs : goal.returns-clause-answer_costs
returns-clause-answer_costs c = refl

pub returns-clause-last : goal.returns-clause-last
returns-clause-last c = refl

pub returns-clause-answer_is_read : goal.returns-clause-answer_is_read
returns-clause-answer_is_read c = refl

pub returns-clause-spin_runs : goal.returns-clause-spin_runs
returns-clause-spin_runs c = facts.spin_runs
