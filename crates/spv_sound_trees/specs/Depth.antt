-- How deep a spelled tree is.
use Rattle.std.specs.Prelude.{ℕ, List, Option}
use Rattle.spv_module.specs.Instruction.{Instruction}
use Rattle.spv_blocks.specs.Cutting.{blocks_of}
use Rattle.spv_walk.specs.Contexts.{Context}
use Rattle.spv_walk.specs.Walked.{IsWalk, InPlaces}
use Rattle.spv_walking.specs.Depths.{IsDepth}
use Rattle.spv_bodies.specs.Bodies.{Function, depth}
use Rattle.spv_spelling.specs.Spelling.{SpellsFunction}
use Rattle.spv_spelling.specs.Whole.{IsAdmitted}

-- as many constructs lie round one point of the tree as, by an exact table of the walk, round the end of a block
abbrev pub SpelledHasDepth : Type 0
SpelledHasDepth =
    (insts : List Instruction) (stays : ℕ → ℕ) (f : Function) (place : ℕ → Option Context) → IsAdmitted insts → SpellsFunction insts stays f
    → IsWalk (blocks_of insts) (InPlaces place) → IsDepth (blocks_of insts) (InPlaces place) (depth f.body)
