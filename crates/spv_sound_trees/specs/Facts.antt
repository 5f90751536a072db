-- Facts of small functions: one that is admitted, and how deep small trees are.
use Rattle.std.specs.Prelude.{◌≡◌}
use Rattle.spv_bodies.specs.Bodies.{Body, Enters, Selects, depth}
use Rattle.spv_bodies.specs.Facts.{leave, plain, returns}
use Rattle.spv_normal.specs.Facts.{in_one, written}
use Rattle.spv_tree.specs.Sound.{IsSound}
use Rattle.spv_spelling.specs.Facts.{joined_tree, loop_tree, selection_tree, switch_tree}
use Rattle.spv_spelling.specs.Spelling.{SpellsFunction}
use Rattle.spv_spelling.specs.Whole.{IsAdmitted}

-- a function of one block is admitted, and spells a tree, which is sound
pub record OneBlockIsSound : Type 0 where
  pub admitted : IsAdmitted (written in_one)
  pub spells : SpellsFunction (written in_one) (λ l. l) joined_tree
  pub sound : IsSound joined_tree

-- a selection in the first arm of another
abbrev pub nested : Body
nested = Selects 0 20 (Enters 5 (Selects 0 21 (Enters 8 (leave 10)) (leave 10) (plain 10) (leave 7))) (Enters 6 (leave 7)) (plain 7) returns

-- a selection behind another
abbrev pub behind_another : Body
behind_another = Selects 0 20 (Enters 5 (leave 7)) (leave 7) (plain 7) (Selects 0 21 (Enters 8 (leave 10)) (leave 10) (plain 10) returns)

pub record SmallDepths : Type 0 where
  pub joined : depth joined_tree.body ≡ 0
  pub selection : depth selection_tree.body ≡ 1
  pub switch : depth switch_tree.body ≡ 1
  pub loop : depth loop_tree.body ≡ 1
  pub inside : depth nested ≡ 2
  pub behind : depth behind_another ≡ 1
