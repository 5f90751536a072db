use Rattle.spv_types.proofs.FirstFailing.{ArePassed}
use Rattle.spv_types.proofs.rules.first_failing.Given as goal

abbrev pub invariant-tests : goal.invariant-tests
invariant-tests l = ArePassed l.tests l.test-index
