use Rattle.std.proofs.Common.{◌≡◌, drop, take}
use Rattle.spv_sources.proofs.heading.parameters_in.Given as goal

abbrev pub invariant-each : goal.invariant-each
invariant-each l = l.parameters ≡ drop 1 (take l.k l.insts)
