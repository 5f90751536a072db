use Rattle.spv_machine.proofs.Schedules as laws
use Rattle.spv_machine.proofs.laws.schedules_law.Goals as goal

pub returns-clause-one_dispatch : goal.returns-clause-one_dispatch
returns-clause-one_dispatch c = laws.schedules_law

pub returns-clause-all_dispatches : goal.returns-clause-all_dispatches
returns-clause-all_dispatches c = laws.modules_law
