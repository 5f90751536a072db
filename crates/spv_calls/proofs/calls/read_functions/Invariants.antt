use Rattle.std.proofs.Common.{◌≡◌, map}
use Rattle.std.specs.List.{range_with_len}
use Rattle.spv_calls.specs.Calls.{calls_at, globals_at}
use Rattle.spv_calls.proofs.calls.read_functions.Given as goal

abbrev pub invariant-instructions : goal.invariant-instructions
invariant-instructions l = (l.calls ≡ map (calls_at l.globals) (range_with_len 0 l.k)) × (l.named.items ≡ map (globals_at l.globals) (range_with_len 0 l.k))
