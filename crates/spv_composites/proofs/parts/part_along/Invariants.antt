use Rattle.std.proofs.Common.{◌≡◌, drop}
use Rattle.spv_typing.specs.Operations.{part_along}
use Rattle.spv_composites.proofs.parts.part_along.Given as goal

abbrev pub invariant-literals : goal.invariant-literals
invariant-literals l = part_along l.kinds l.literals l.t ≡ part_along l.kinds (drop l.index-index l.literals) l.part
