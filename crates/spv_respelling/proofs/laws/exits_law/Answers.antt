use Rattle.spv_respelling.proofs.Taking as taking
use Rattle.spv_respelling.proofs.laws.exits_law.Goals as goal

pub returns-clause-taken : goal.returns-clause-taken
returns-clause-taken c = taking.first_is_taken

pub returns-clause-alike : goal.returns-clause-alike
returns-clause-alike c = taking.spelled_are_alike

pub returns-clause-back : goal.returns-clause-back
returns-clause-back c = taking.reads_alike
