use Rattle.std.proofs.Common.{◌≡◌, ◌++◌, length}
use Rattle.spv_grammar.specs.Operands.{in_turn}
use Rattle.spv_grammar.proofs.operands.push_in_turn.Given as goal

abbrev pub invariant-pairs : goal.invariant-pairs
invariant-pairs l = l.roles.items ++ in_turn l.rest ≡ l.fn.roles.items ++ in_turn l.words

abbrev pub decreases-pairs : goal.decreases-pairs
decreases-pairs l = length l.rest
