use Rattle.spv_composites.proofs.Typing.{AreTyped}
use Rattle.spv_composites.proofs.numbering.numbers_of.Given as goal

abbrev pub invariant-instructions : goal.invariant-instructions
invariant-instructions l = AreTyped l.nodes l.numbers l.tables l.k
