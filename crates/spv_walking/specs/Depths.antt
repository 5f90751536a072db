-- How many constructs lie round one point of a function.
use Rattle.std.specs.Prelude.{◌≡◌, ◌⊎◌, ℕ, ◌≤◌, true, length, Option, Some, None}
use Rattle.spv_blocks.specs.Blocks.{Code, construct, is_label}
use Rattle.spv_walk.specs.Contexts.{Context, behind}

-- n constructs lie round the end of a block that the walk comes to: those round the block, and its own if it opens one
pub record HasDepth (f : Code) (In : ℕ → Context → Type 0) (n : ℕ) : Type 0 where
  pub label : ℕ
  pub context : Context
  pub block : is_label f label ≡ true
  pub stands : In label context
  pub depth : length (behind (construct f label) label label context) ≡ n

-- n is the greatest such number, 0 where the walk comes to no block
pub record IsDepth (f : Code) (In : ℕ → Context → Type 0) (n : ℕ) : Type 0 where
  pub bound : (m : ℕ) → HasDepth f In m → m ≤ n
  pub reached : (n ≡ 0) ⊎ HasDepth f In n

-- how many constructs lie round the end of a block, where it stands in a context
abbrev pub depth_at : Code → (l : ℕ) → Option Context → ℕ
depth_at f l None = 0
depth_at f l (Some c) = length (behind (construct f l) l l c)
