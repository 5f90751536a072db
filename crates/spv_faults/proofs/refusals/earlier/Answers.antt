use Rattle.std.proofs.Common.{rules, Some}
use Rattle.spv_faults.proofs.EarlierLemmas.{earlier-parts}
use Rattle.spv_faults.proofs.refusals.earlier.Goals as goal

pub returns-in-Some-Some-clause-parts : goal.returns-in-Some-Some-clause-parts
returns-in-Some-Some-clause-parts c = λ bs cs. earlier-parts c.args.one c.args.other (Some c.in-Some-Some.other) bs cs (search rules)

pub returns-in-Some-default-clause-parts : goal.returns-in-Some-default-clause-parts
returns-in-Some-default-clause-parts c = λ bs cs. earlier-parts c.args.one c.args.other _ bs cs (search rules)

pub returns-in-None-default-clause-parts : goal.returns-in-None-default-clause-parts
returns-in-None-default-clause-parts c = λ bs cs. earlier-parts c.args.one c.args.other c.args.other bs cs (search rules)
