use Rattle.std.proofs.Common.{◌≡◌, ◌++◌, take}
use Rattle.spv_bodies.specs.Bodies.{Body}
use Rattle.spv_bodies.specs.Listing.{branches}
use Rattle.spv_tree.specs.Tree.{items_then}
use Rattle.spv_tree.specs.Branches.{branchings, branches_of_list}
use Rattle.spv_tree.proofs.gather.+gather.Given as goal

abbrev pub invariant-gather_items-items : goal.invariant-gather_items-items
invariant-gather_items-items l =
    (rest : Body) → branchings l.found.items ++ branches l.last rest ≡ branchings l.fn.found.items ++ branches l.fn.block (items_then (take l.item-index l.items) rest)

abbrev pub invariant-gather_arms-arms : goal.invariant-gather_arms-arms
invariant-gather_arms-arms l = branchings l.found.items ≡ branchings l.fn.found.items ++ branches_of_list l.block (take l.arm-index l.arms)
