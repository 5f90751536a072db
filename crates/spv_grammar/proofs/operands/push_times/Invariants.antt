use Rattle.std.proofs.Common.{◌≡◌, ◌++◌, replicate}
use Rattle.spv_grammar.proofs.operands.push_times.Given as goal

abbrev pub invariant-each : goal.invariant-each
invariant-each l = l.roles.items ≡ l.fn.roles.items ++ replicate l._done l.role
