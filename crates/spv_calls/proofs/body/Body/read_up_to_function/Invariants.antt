use Rattle.std.proofs.Common.{◌+◌}
use Rattle.spv_calls.specs.Calls.{callees, globals_in}
use Rattle.spv_calls.proofs.Bodies.{Goes}
use Rattle.spv_calls.proofs.body.Body.read_up_to_function.Given as goal

abbrev pub invariant-instructions : goal.invariant-instructions
invariant-instructions l =
    Goes (callees l.globals) l.globals (l.fn.k + 1) l.j l.fn.self.callees l.self.callees × Goes (globals_in l.globals) l.globals (l.fn.k + 1) l.j l.fn.self.globals l.self.globals
