use Rattle.spv_faults.proofs.ListedLemmas.{first-walked, first-missing}
use Rattle.spv_faults.proofs.laws.listed_law.Goals as goal

pub returns-clause-walked : goal.returns-clause-walked
returns-clause-walked c = first-walked

pub returns-clause-missing : goal.returns-clause-missing
returns-clause-missing c = first-missing
