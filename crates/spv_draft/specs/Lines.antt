-- Instructions whose words stand in a pool, with words added to the pool.
use Rattle.std.specs.Prelude.{◌≡◌, ℕ, List, ◌++◌, take, drop}
use Rattle.spv_placing.specs.Placing.{size_in}
use Rattle.spv_module.specs.declared.list.Span.{Span}
use Rattle.spv_module.specs.declared.pool.Pool.{Pool}
use Rattle.spv_module.specs.Instruction.{Instruction}
use Rattle.spv_module.specs.List.{instructions_in, AreSpans}

-- a number is that of the words of a header and of these instructions
pub record HasSize (size : ℕ) (insts : List Instruction) : Type 0 where
  pub is : size ≡ size_in insts

-- others in the place of the elements from `start` up to `end`
abbrev pub spliced : {X : Type 0} → List X → (start end : ℕ) → List X → List X
spliced xs start end more = (take start xs ++ more) ++ drop end xs

-- spans keep their instructions, and more of them have these
pub record Extends (old new : Pool) (spans more : List Span) (insts : List Instruction) : Type 0 where
  pub are : AreSpans new (spans ++ more)
  pub is : instructions_in new (spans ++ more) ≡ instructions_in old spans ++ insts

-- spans keep their instructions
pub record Keeps (old new : Pool) (spans : List Span) : Type 0 where
  pub are : AreSpans new spans
  pub is : instructions_in new spans ≡ instructions_in old spans
