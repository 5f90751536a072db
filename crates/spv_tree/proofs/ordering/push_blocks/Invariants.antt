use Rattle.std.proofs.Common.{◌≡◌, ◌++◌, take}
use Rattle.std.specs.List.{flat_map}
use Rattle.spv_tree.specs.Branches.{shown, of_block}
use Rattle.spv_tree.proofs.ordering.push_blocks.Given as goal

abbrev pub invariant-parents : goal.invariant-parents
invariant-parents l = shown l.ordered.items ≡ shown l.fn.ordered.items ++ flat_map (λ block. shown (of_block l.blocks block)) (take l.parent-index l.parents)
