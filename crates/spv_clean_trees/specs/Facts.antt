-- Trees that small functions spell: structured where no rule is broken, and else not.
use Rattle.std.specs.Prelude.{◌==◌, ℕ, Bool, List, [], ◌∷◌}
use Rattle.spv_blocks.specs.Cutting.{blocks_of}
use Rattle.spv_walk.specs.Rules.{Broken}
use Rattle.spv_bodies.specs.Bodies.{Function, Switches, Last}
use Rattle.spv_bodies.specs.Facts.{leave, of_body, plain, returns}
use Rattle.spv_normal.specs.Facts.{ending, in_one, opening, written}
use Rattle.spv_spelling.specs.Clean.{no_pointers}
use Rattle.spv_spelling.specs.Facts.{joined_tree, loop_tree, selection_tree, switch_tree}
use Rattle.spv_spelling.specs.Spelling.{SpellsFunction}
use Rattle.spv_structured.specs.Structured.{IsStructured}

-- the type %21 is a pointer
abbrev pub pointer : ℕ → Bool
pointer type = type == 21

-- what the small functions of `spv_spelling` spell
pub record SpelledAreStructured : Type 0 where
  pub joined : IsStructured no_pointers joined_tree
  pub selection : IsStructured no_pointers selection_tree
  pub switch : IsStructured no_pointers switch_tree
  pub loop : IsStructured no_pointers loop_tree

-- the selection and the loop are not structured where their OpPhi are of a type that is a pointer
pub record PointersAreNotStructured : Type 0 where
  pub selection : ¬ IsStructured pointer selection_tree
  pub loop : ¬ IsStructured pointer loop_tree

-- %4: OpSelectionMerge %5; OpSwitch %20 %5, 1 %5, 1 %5; %5: OpReturn
abbrev pub literal_twice : List (List ℕ)
literal_twice =
    opening
    ∷ (0x0002_00F8 ∷ 4 ∷ []) ∷ (0x0003_00F7 ∷ 5 ∷ 0 ∷ []) ∷ (0x0007_00FB ∷ 20 ∷ 5 ∷ 1 ∷ 5 ∷ 1 ∷ 5 ∷ [])
    ∷ (0x0002_00F8 ∷ 5 ∷ []) ∷ (0x0001_00FD ∷ [])
    ∷ ending ∷ []

-- one arm, since its one label is the merge block's
abbrev pub tree_of_twice : Function
tree_of_twice = of_body (Switches 0 20 ((1, 5) ∷ (1, 5) ∷ []) (Last (leave 5)) (plain 5) returns)

-- a function that breaks a rule may spell a tree, but that is not structured
pub record LiteralTwice : Type 0 where
  pub spells : SpellsFunction (written literal_twice) (λ l. l) tree_of_twice
  pub breaks : Broken no_pointers (blocks_of (written literal_twice)) 402 0
  pub not : ¬ IsStructured no_pointers tree_of_twice

-- a function of one block is one that the laws speak of: its tree is structured, and its listing breaks no rule
pub record OneBlock : Type 0 where
  pub structured : IsStructured no_pointers joined_tree
  pub unbroken : (rule at : ℕ) → Broken no_pointers (blocks_of (written in_one)) rule at → ⊥
