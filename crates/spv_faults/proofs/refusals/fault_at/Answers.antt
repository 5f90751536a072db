use Rattle.std.proofs.Common.{◌∙◌, sym}
use Rattle.spv_faults.proofs.EarlierLemmas.{first-some, first-none}
use Rattle.spv_faults.proofs.refusals.fault_at.Goals as goal

pub returns-in-Some : goal.returns-in-Some
returns-in-Some c = λ rules h. first-some c.args.at c.in-Some.rule rules (sym c.in-Some.is ∙ h)

pub returns-in-None : goal.returns-in-None
returns-in-None c = λ rules h. first-none c.args.at rules (sym c.in-None.is ∙ h)
