use Rattle.std.proofs.Common.{◌≡◌, ◌++◌, take}
use Rattle.spv_tree.specs.Tree.{words_of}
use Rattle.spv_tree.proofs.flattening.push_list.Given as goal

abbrev pub invariant-list : goal.invariant-list
invariant-list l = words_of l.insts ≡ words_of l.fn.insts ++ words_of (take l.k l.list)
