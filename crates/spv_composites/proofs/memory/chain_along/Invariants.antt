use Rattle.std.proofs.Common.{◌≡◌, drop}
use Rattle.spv_composites.specs.Memory.{chain_along}
use Rattle.spv_composites.proofs.memory.chain_along.Given as goal

abbrev pub invariant-indexes : goal.invariant-indexes
invariant-indexes l = chain_along l.kinds l.indexes l.t ≡ chain_along l.kinds (drop l.index-index l.indexes) l.part
