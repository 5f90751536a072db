-- What a tree is read from, and where a block stands on the way of the walk.
use Rattle.std.specs.Prelude.{◌≡◌, ℕ, ◌+◌, ◌-◌, ◌<◌, Bool, List, [], length, Option, Some, None}
use Rattle.spv_module.specs.Instruction.{Instruction}
use Rattle.spv_blocks.specs.Blocks.{Code, End, construct}
use Rattle.spv_blocks.specs.Cutting.{blocks_of}
use Rattle.spv_walk.specs.Contexts.{Context, behind, is_exit}
use Rattle.spv_walk.specs.Walk.{end_of}
use Rattle.spv_walk.specs.Walked.{IsWalk, InPlaces}
use Rattle.spv_walking.specs.Table.{context_of}
use Rattle.spv_spelling.specs.Paths.{Path}
use Rattle.spv_spelling.specs.Whole.{IsAdmitted}
use Rattle.spv_sources.specs.Source.{stays_of}
use Rattle.spv_parse.specs.declared.scene.Scene.{Scene}

abbrev pub insts_of : Scene → List Instruction
insts_of s = s.source.now.insts

abbrev pub staying : Scene → ℕ → ℕ
staying s = stays_of s.source.now

abbrev pub code_of : Scene → Code
code_of s = blocks_of (insts_of s)

-- the context of a walked block
abbrev pub context_in : Option Context → Context
context_in None = []
context_in (Some c) = c

abbrev pub context : Scene → ℕ → Context
context s l = context_in (context_of s.walked.now l)

-- the context behind the merge instruction of a block, on the way to a target
abbrev pub toward : Scene → (l t : ℕ) → Context
toward s l t = behind (construct (code_of s) l) l t (context s l)

abbrev pub end_in : Scene → ℕ → End
end_in s l = end_of (code_of s) l

-- a branch of the block l to t leaves a construct round it
abbrev pub leaves_in : Scene → (l t : ℕ) → Bool
leaves_in s l t = is_exit (toward s l t) (end_in s l) t

-- no rule is broken, the labels are those of the function, and its walk is known
pub record IsScene (s : Scene) : Type 0 where
  pub same : s.labels.now ≡ code_of s
  pub admitted : IsAdmitted (insts_of s)
  pub walk : IsWalk (code_of s) (InPlaces (context_of s.walked.now))

-- the walk comes to the block l with so many blocks left that may lie behind
pub record Stands (s : Scene) (l left : ℕ) : Type 0 where
  pub scene : IsScene s
  pub steps : ℕ
  pub path : Path (code_of s) steps l (context s l)
  pub room : steps + left ≡ length (code_of s)

-- it comes to t one step further on, in the context c
pub record IsNext (s : Scene) (left t : ℕ) (c : Context) : Type 0 where
  pub some : 0 < left
  pub stands : Stands s t (left - 1)
  pub same : context s t ≡ c
