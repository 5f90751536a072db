use Rattle.std.proofs.Common.{refl}
use Rattle.spv_types.proofs.FirstFailing.{failing-found, failing-next, failing-none}
use Rattle.spv_types.proofs.rules.first_failing.Goals as goal

pub tests-init : goal.tests-init
tests-init c = refl

pub returns-then-not-test : goal.returns-then-not-test
returns-then-not-test c = failing-found c.args.tests.now c.tests.test-index c.tests.invariant c.tests-test.true c.if-not-test.true

pub tests-preserved : goal.tests-preserved
tests-preserved c = failing-next c.args.tests.now c.tests.test-index c.tests.invariant c.tests-test.true c.if-not-test.false

pub returns : goal.returns
returns c = failing-none c.args.tests.now c.tests.test-index c.tests.invariant c.tests-test.false
