use Rattle.spv_calls.specs.Calls.{is_global}
use Rattle.spv_calls.proofs.Bodies.{Adds}
use Rattle.spv_calls.proofs.body.add_named.Given as goal

abbrev pub invariant-words : goal.invariant-words
invariant-words l = Adds (is_global l.globals) l.roles l.words l.k l.fn.ids l.ids
