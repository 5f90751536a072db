-- Orders of the places of a graph in which every edge leads onward.
use Rattle.std.specs.Prelude.{◌≡◌, ℕ, ◌<◌, nat_eq, List, length, take, slice_get, Option, Some, None}
use Rattle.std.specs.List.{Contains, IsDistinct}
use Rattle.graph.specs.Rows.{HasEdge}

-- each place once, behind all places from which an edge leads to it
pub record IsOrder (rows : List (List ℕ)) (order : List ℕ) : Type 0 where
  pub whole : (p : ℕ) → p < length rows → Contains order p
  pub within : (p : ℕ) → Contains order p → p < length rows
  pub once : IsDistinct nat_eq order
  pub behind : (k p q : ℕ) → slice_get order k ≡ Some q → HasEdge rows p q → Contains (take k order) p

-- numbers that grow along each edge between places
abbrev pub GoesOnward : List (List ℕ) → (number : ℕ → ℕ) → Type 0
GoesOnward rows number = (p q : ℕ) → q < length rows → HasEdge rows p q → number p < number q

-- the places cannot be numbered so, as where a walk comes back to its place
abbrev pub IsTangled : List (List ℕ) → Type 0
IsTangled rows = (number : ℕ → ℕ) → GoesOnward rows number → ⊥

abbrev pub IsOrdered : List (List ℕ) → Option (List ℕ) → Type 0
IsOrdered rows None = IsTangled rows
IsOrdered rows (Some order) = IsOrder rows order
