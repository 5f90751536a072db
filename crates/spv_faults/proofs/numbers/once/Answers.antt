use Rattle.spv_faults.proofs.Repetition.{once-more, twice-found}
use Rattle.spv_faults.proofs.numbers.once.Goals as goal

pub returns-then-not-branch : goal.returns-then-not-branch
returns-then-not-branch c =
    twice-found c.args.numbers.now c.numbers.number-index c.numbers.set c.in_ok-insert.field-0 c.numbers-test.true c.in_ok-insert.ensures.added c.if-not-branch.true c.numbers.invariant

pub numbers-preserved : goal.numbers-preserved
numbers-preserved c =
    once-more c.args.numbers.now c.numbers.number-index c.numbers.set c.insert.new.self c.in_ok-insert.field-0 c.numbers-test.true c.in_ok-insert.ensures.added c.if-not-branch.false
    c.in_ok-insert.ensures.updates c.numbers.invariant
