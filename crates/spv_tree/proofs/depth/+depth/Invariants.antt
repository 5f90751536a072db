use Rattle.std.proofs.Common.{◌≡◌, max, take}
use Rattle.spv_bodies.specs.Bodies.{Body, depth, depth_of_arms}
use Rattle.spv_tree.specs.Tree.{items_then, arms_of}
use Rattle.spv_tree.specs.Depth.{capped}
use Rattle.spv_tree.proofs.depth.+depth.Given as goal

abbrev pub invariant-depth_of_items-items : goal.invariant-depth_of_items-items
invariant-depth_of_items-items l = (rest : Body) → capped (depth (items_then (take l.item-index l.items) rest)) ≡ max l.depth (capped (depth rest))

abbrev pub invariant-depth_of_arms-arms : goal.invariant-depth_of_arms-arms
invariant-depth_of_arms-arms l = (first : Body) → capped (depth_of_arms (arms_of first (take l.arm-index l.arms))) ≡ max (capped (depth first)) l.depth
