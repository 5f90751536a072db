-- The contexts that rows keep.
use Rattle.std.specs.Prelude.{◌≡◌, ℕ, ◌<◌, ◌≤◌, List, [], ◌∷◌, ◌++◌, length, slice_get, fold, Option, Some, None}
use Rattle.std.specs.Option.{option_map}
use Rattle.spv_walk.specs.Contexts.{Context}
use Rattle.spv_walk.specs.Rows.{seen, innermost}
use Rattle.spv_walking.specs.declared.rows.Row.{Row}
use Rattle.spv_walking.specs.declared.seen.Level.{Level}
use Rattle.spv_walking.specs.Kept.{level_of, seen_of}
use Rattle.spv_walking.specs.Places.{context_at, outer_of}

-- one more construct, if there is one, round what is outside it
abbrev pub with_level : Option Level → Context → Context
with_level None c = []
with_level (Some level) c = level_of level ∷ c

-- the context of a row is added to those of the rows before it
abbrev pub with_row : List Context → Row → List Context
with_row contexts row = contexts ++ with_level row.level (context_at contexts row.outer) ∷ []

abbrev pub contexts_of : List Row → List Context
contexts_of rows = fold with_row [] rows

-- what a row keeps of its context
pub record Keeps (contexts : List Context) (place : ℕ) (row : Row) (c : Context) : Type 0 where
  pub level : option_map level_of row.level ≡ innermost c
  pub seen : seen_of row.seen ≡ seen c
  pub within : row.outer < length contexts
  pub outer : context_at contexts row.outer ≡ outer_of c
  pub depth : row.depth ≡ length c
  pub shallow : length c ≤ place

pub record AreKept (rows : List Row) : Type 0 where
  pub count : length (contexts_of rows) ≡ length rows
  pub each : (place : ℕ) (row : Row) → slice_get rows place ≡ Some row → Keeps (contexts_of rows) place row (context_at (contexts_of rows) place)
