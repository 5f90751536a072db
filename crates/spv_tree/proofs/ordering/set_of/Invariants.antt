use Rattle.std.proofs.Common.{◌≡◌, ℕ, nat_eq, take}
use Rattle.std.specs.BTreeSet.{contains}
use Rattle.std.specs.List.{list_any}
use Rattle.std.specs.Ordering.{nat_cmp}
use Rattle.spv_tree.proofs.ordering.set_of.Given as goal

abbrev pub invariant-ids : goal.invariant-ids
invariant-ids l = (id : ℕ) → contains nat_cmp l.set id ≡ list_any (nat_eq id) (take l.id-index l.ids)
