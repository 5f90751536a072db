-- A loop as an arm.
use Rattle.std.proofs.Common.{◌≡◌, ap}
use Rattle.spv_tree.specs.declared.body.Item as item
use Rattle.spv_tree.specs.declared.body.Loop.{Loop}
use Rattle.spv_tree.specs.Tree.{item_then}

-- it holds the loop in a box
pub in_box : (held turn : Loop) (body : _) → held ≡ turn → item_then (item.Loop held) body ≡ item_then (item.Loop turn) body
in_box held turn body is = ap (λ z. item_then (item.Loop z) body) is
