use Rattle.std.proofs.Common.{◌≡◌, ℕ, take}
use Rattle.std.specs.BTreeSet.{contains}
use Rattle.std.specs.List.{list_any}
use Rattle.std.specs.Ordering.{nat_cmp}
use Rattle.spv_blocks.specs.Blocks.{Block}
use Rattle.spv_normal.specs.Order.{joins}
use Rattle.spv_sources.proofs.staying.joined_of.Given as goal

abbrev pub invariant-each : goal.invariant-each
invariant-each l = (t : ℕ) → contains nat_cmp l.joined t ≡ list_any (λ (b : Block). joins l.labels b.label t) (take l.k l.labels)
