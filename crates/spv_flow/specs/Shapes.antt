-- A function that breaks no rule on structured control flow, and its tables.
use Rattle.std.specs.Prelude.{ℕ, Bool, Option, None}
use Rattle.spv_blocks.specs.Blocks.{Code}
use Rattle.spv_walk.specs.Contexts.{Context}
use Rattle.spv_walk.specs.Rules.{Broken, IsFirst}
use Rattle.spv_walk.specs.Walked.{AreEnterers, InPlaces, IsWalk}
use Rattle.spv_flow.specs.Known.{AreToldLoops}

-- no rule is broken in it, by some types of pointers; from which block each label is entered, and where the walk comes to each
pub record IsShaped (f : Code) (enterer : ℕ → Option ℕ) (place : ℕ → Option Context) : Type 0 where
  pub is_pointer : ℕ → Bool
  pub unbroken : IsFirst (Broken is_pointer f) None
  pub enterers : AreEnterers f enterer
  pub walk : IsWalk f (InPlaces place)
  pub loops : AreToldLoops f
