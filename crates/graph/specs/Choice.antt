-- The one element of a list that is left.
use Rattle.std.specs.Prelude.{◌≡◌, ℕ, Bool, List}
use Rattle.std.specs.List.{Contains}
use Rattle.graph.specs.Rows.{IsMarked}

-- the list names the place, it is not marked, and no other place that the list names is unmarked
pub record IsTheOne (places : List ℕ) (marks : List Bool) (place : ℕ) : Type 0 where
  pub stands : Contains places place
  pub free : ¬ IsMarked marks place
  pub one : (other : ℕ) → Contains places other → ¬ IsMarked marks other → other ≡ place
