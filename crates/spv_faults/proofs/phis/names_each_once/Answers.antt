use Rattle.spv_faults.proofs.Repetition.{named-some, named-none}
use Rattle.spv_faults.proofs.phis.names_each_once.Goals as goal

pub returns-in-Some : goal.returns-in-Some
returns-in-Some c =
    named-some c.args.pairs.now c.args.parents.now c.in_ok-numbers.numbers.items c.deref.result.now c.in_ok-named.field-0 c.in-Some.named c.are_same.result
    c.in_ok-numbers.ensures c.deref.ensures.value c.in_ok-named.ensures c.in-Some.is c.are_same.ensures.yes c.are_same.ensures.no

pub returns : goal.returns
returns c = λ ps all.
    named-none c.args.pairs.now c.in_ok-numbers.numbers.items c.deref.result.now c.in_ok-named.field-0
    c.in_ok-numbers.ensures c.deref.ensures.value c.in_ok-named.ensures c.in-None.is ps
