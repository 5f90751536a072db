use Rattle.spv_fine_edits.proofs.Dropped as dropped
use Rattle.spv_fine_edits.proofs.Replaced as replaced
use Rattle.spv_fine_edits.proofs.tests_law.Goals as goal

pub returns-clause-dropped : goal.returns-clause-dropped
returns-clause-dropped c = dropped.dropped_by_tests

pub returns-clause-replaced : goal.returns-clause-replaced
returns-clause-replaced c = replaced.replaced_by_tests
