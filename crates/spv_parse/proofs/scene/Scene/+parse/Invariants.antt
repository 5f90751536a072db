use Rattle.std.proofs.Common.{◌+◌, ◌*◌, take}
use Rattle.spv_parse.proofs.Continuing.{Continues}
use Rattle.spv_parse.specs.Arms.{SpellEach}
use Rattle.spv_parse.proofs.scene.Scene.+parse.Given as goal

-- each call for a block one step further on has one block less left; for the same block the calls go down this order

abbrev pub decreases-sequence : goal.decreases-sequence
decreases-sequence l = l.left * 8 + 7

abbrev pub decreases-turn : goal.decreases-turn
decreases-turn l = l.left * 8 + 6

abbrev pub decreases-behind : goal.decreases-behind
decreases-behind l = l.left * 8 + 5

abbrev pub decreases-close : goal.decreases-close
decreases-close l = l.left * 8 + 4

abbrev pub decreases-choice : goal.decreases-choice
decreases-choice l = l.left * 8 + 3

abbrev pub decreases-switch : goal.decreases-switch
decreases-switch l = l.left * 8 + 3

abbrev pub decreases-arms : goal.decreases-arms
decreases-arms l = l.left * 8 + 2

abbrev pub decreases-turning : goal.decreases-turning
decreases-turning l = l.left * 8 + 3

abbrev pub decreases-opening : goal.decreases-opening
decreases-opening l = l.left * 8 + 2

abbrev pub decreases-arm : goal.decreases-arm
decreases-arm l = l.left * 8 + 1

abbrev pub decreases-entering : goal.decreases-entering
decreases-entering l = l.left * 8 + 8

abbrev pub decreases-block : goal.decreases-block
decreases-block l = l.left * 8 + 8

abbrev pub invariant-sequence-states : goal.invariant-sequence-states
invariant-sequence-states l = Continues l.self l.fn.state l.fn.items.items l.fn.left l.state l.left l.items.items

abbrev pub decreases-sequence-states : goal.decreases-sequence-states
decreases-sequence-states l = l.left

-- the arms so far
abbrev pub invariant-arms-targets : goal.invariant-arms-targets
invariant-arms-targets l = SpellEach l.self l.label (take l.target-index l.targets) l.arms.items
