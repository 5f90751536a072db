use Rattle.std.proofs.Common.{◌≡◌, take}
use Rattle.spv_walking.specs.Table.{context_of}
use Rattle.spv_exits.specs.Exits.{nested_by}
use Rattle.spv_exits.proofs.nesting.nested_returns.Given as goal

abbrev pub invariant-each : goal.invariant-each
invariant-each l = l.count ≡ nested_by (context_of l.walked) (take l.k l.function)
