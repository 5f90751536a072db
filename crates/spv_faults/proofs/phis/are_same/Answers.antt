use Rattle.std.proofs.Common.{◌≡◌, length, ap, ℕ, arith}
use Rattle.std.proofs.lemmas.Bool.Decides.{Decides-eqb, nat_tests}
use Rattle.std.proofs.lemmas.Cmp.{nat_cmp_total}
use Rattle.std.proofs.lemmas.Map.Lookups.{btree_set_from_contains, exact_unsigned}
use Rattle.std.proofs.lemmas.Slice.Eq.{slice_eq-Decides}
use Rattle.std.specs.BTreeSet.{BTreeSet, IsOrdered, IsSameSet}
use Rattle.std.specs.Ordering.{nat_cmp}
use Rattle.spv_faults.proofs.phis.are_same.Goals as goal

same_keys : (s t : BTreeSet ℕ) → IsOrdered nat_cmp s → IsOrdered nat_cmp t → IsSameSet nat_cmp s t → s.keys ≡ t.keys
same_keys s t one other same = btree_set_from_contains nat_cmp_total s t one other same exact_unsigned

pub returns-then-len-clause-no : goal.returns-then-len-clause-no
returns-then-len-clause-no c = λ same.
    (slice_eq-Decides Decides-eqb c.args.one.now.keys c.args.other.now.keys c.eq.result c.eq.ensures).1
    (same_keys c.args.one.now c.args.other.now c.len.ensures.ordered c.len-2.ensures.ordered same)

pub returns-else-len-clause-no : goal.returns-else-len-clause-no
returns-else-len-clause-no c = λ same.
    let keys = ap length (same_keys c.args.one.now c.args.other.now c.len.ensures.ordered c.len-2.ensures.ordered same) in
    let one = c.len.ensures.len in
    let other = c.len-2.ensures.len in
    grind (arith, nat_tests, keys, one, other)
