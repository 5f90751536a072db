use Rattle.std.proofs.Common.{◌≡◌, ℕ, take}
use Rattle.std.specs.BTreeSet.{contains}
use Rattle.std.specs.Ordering.{nat_cmp}
use Rattle.std.specs.List.{list_any}
use Rattle.spv_tree.specs.Tree.{words_of}
use Rattle.spv_norm.specs.Norm.{is_label_line}
use Rattle.spv_norm.proofs.label_set.labels.Given as goal

abbrev pub invariant-instructions : goal.invariant-instructions
invariant-instructions l = (label : ℕ) → contains nat_cmp l.labels label ≡ list_any (is_label_line label) (words_of (take l.k l.insts))
