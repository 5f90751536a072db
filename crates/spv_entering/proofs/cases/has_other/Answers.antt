use Rattle.std.proofs.Common.{◌∙◌, ℕ, List, get_or, ap}
use Rattle.std.proofs.lemmas.List.{take_all}
use Rattle.spv_blocks.specs.Blocks.{has}
use Rattle.spv_entering.proofs.Passing.{place-has}
use Rattle.spv_entering.proofs.cases.has_other.Goals as goal

pub returns-then-other-number : goal.returns-then-other-number
returns-then-other-number c = (get_or c.args.list.now c.each.other-index 0, place-has c.args.list.now c.each.other-index c.each-test.true, c.if-other-number.true)

pub returns : goal.returns
returns c = λ p h. c.each.invariant p (ap (λ (xs : List ℕ). has xs p) (take_all c.each.other-index c.args.list.now c.each-test.false) ∙ h)
