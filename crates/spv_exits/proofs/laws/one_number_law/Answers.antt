use Rattle.spv_exits.proofs.OneNumber as proved
use Rattle.spv_exits.proofs.laws.one_number_law.Goals as goal

pub returns-clause-unbroken : goal.returns-clause-unbroken
returns-clause-unbroken c = proved.one-number

pub returns-clause-walked : goal.returns-clause-walked
returns-clause-walked c = proved.one-walked
