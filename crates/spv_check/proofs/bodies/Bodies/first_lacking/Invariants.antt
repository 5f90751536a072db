use Rattle.spv_check.proofs.Lacking.{NoneLacks}
use Rattle.spv_check.proofs.bodies.Bodies.first_lacking.Given as goal

abbrev pub invariant-instructions : goal.invariant-instructions
invariant-instructions l = NoneLacks l.self l.number l.k
