use Rattle.spv_faults.proofs.Repetition.{set_once-some, set_once-none}
use Rattle.spv_faults.proofs.ends.same_literal.Goals as goal

pub returns-in-Some : goal.returns-in-Some
returns-in-Some c =
    set_once-some c.args.cases.now c.in_ok-literals.literals.items c.deref.result.now c.in_ok-once.field-0 c.in-Some.field-0
    c.in_ok-literals.ensures c.deref.ensures.value c.in_ok-once.ensures c.in-Some.is

pub returns : goal.returns
returns c =
    set_once-none c.args.cases.now c.in_ok-literals.literals.items c.deref.result.now c.in_ok-once.field-0
    c.in_ok-literals.ensures c.deref.ensures.value c.in_ok-once.ensures c.in-None.is
