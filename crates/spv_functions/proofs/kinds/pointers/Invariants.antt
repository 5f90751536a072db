use Rattle.std.proofs.Common.{◌≡◌, ℕ, take}
use Rattle.std.specs.BTreeSet.{contains}
use Rattle.std.specs.Ordering.{nat_cmp}
use Rattle.spv_functions.specs.Functions.{is_pointer}
use Rattle.spv_functions.proofs.kinds.pointers.Given as goal

-- the pointers of the instructions before
abbrev pub invariant-instructions : goal.invariant-instructions
invariant-instructions l = (t : ℕ) → contains nat_cmp l.types t ≡ is_pointer (take l.k l.flat.insts) t
