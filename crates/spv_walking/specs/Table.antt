-- The contexts of blocks that a walk has come to.
use Rattle.std.specs.Prelude.{◌≡◌, ℕ, ◌<◌, List, ◌++◌, length, Option}
use Rattle.spv_blocks.specs.Tables.{found}
use Rattle.std.specs.Option.{option_map}
use Rattle.spv_walk.specs.Contexts.{Context}
use Rattle.spv_walking.specs.declared.walked.Walked.{Walked}
use Rattle.spv_walking.specs.Places.{context_at}

-- the context of a block, by its label
abbrev pub context_of : Walked → (label : ℕ) → Option Context
context_of walked label = option_map (context_at walked.rows) (found walked.places label)

-- there is a place of the context d, and else at most more places
pub record Widens (old new : Walked) (place : ℕ) (d : Context) : Type 0 where
  pub added : List Context
  pub rows : new.rows ≡ old.rows ++ added
  pub within : place < length new.rows
  pub context : context_at new.rows place ≡ d
  pub places : new.places ≡ old.places
