use Rattle.spv_respelling.proofs.Reading as reading
use Rattle.spv_respelling.proofs.laws.reading_law.Goals as goal

pub returns-clause-one : goal.returns-clause-one
returns-clause-one c = reading.spelled_is_one

pub returns-clause-back : goal.returns-clause-back
returns-clause-back c = reading.reads_back
