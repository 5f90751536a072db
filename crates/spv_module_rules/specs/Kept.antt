-- Functions that break no rule on structured control flow, and what is told of functions together.
use Rattle.std.specs.Prelude.{◌≡◌, ℕ, ◌<◌, List, Option, None, length}
use Rattle.std.specs.List.{count_by, sum_by}
use Rattle.spv_base.specs.declared.fault.Refusal.{Refusal}
use Rattle.spv_module.specs.Code.{is_function}
use Rattle.spv_module.specs.First.{first}
use Rattle.spv_module.specs.Instruction.{Instruction}
use Rattle.spv_blocks.specs.Blocks.{Code}
use Rattle.spv_blocks.specs.Cutting.{blocks_of, function_insts}
use Rattle.spv_walk.specs.Rules.{Broken, IsFirst}
use Rattle.spv_exits.specs.Exits.{AreNestedTogether, capped, crowded_in_all}
use Rattle.spv_functions.specs.Functions.{is_pointer}

-- the functions of a module break no rule on structured control flow
abbrev pub AreUnbroken : List Instruction → Type 0
AreUnbroken insts = (f : ℕ) → f < count_by is_function insts → IsFirst (Broken (is_pointer insts) (blocks_of (function_insts f insts))) None

-- how many blocks functions have together
abbrev pub blocks_together : List Code → ℕ
blocks_together fs = sum_by length fs

-- the nested returns of functions together, counted up to 16,384
pub record AreCounted (fs : List Code) (counted : ℕ) : Type 0 where
  pub nested : ℕ
  pub together : AreNestedTogether fs nested
  pub same : counted ≡ capped nested

-- the first block of functions that breaks 607, by their nested returns together
pub record IsFirstCrowded (fs : List Code) (refusal : Option Refusal) : Type 0 where
  pub nested : ℕ
  pub together : AreNestedTogether fs nested
  pub same : refusal ≡ first (crowded_in_all fs nested)
