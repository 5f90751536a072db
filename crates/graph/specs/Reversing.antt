-- The graph turned round.
use Rattle.std.specs.Prelude.{ℕ, Bool, nat_eq, List, length, map, filter}
use Rattle.std.specs.List.{list_any, range_with_len}
use Rattle.graph.specs.Rows.{row}

-- the list names the place
abbrev pub names : List ℕ → (place : ℕ) → Bool
names places place = list_any (nat_eq place) places

-- the first n places whose rows name a place, in increasing order, each once
abbrev pub predecessors_below : (n : ℕ) → List (List ℕ) → (to : ℕ) → List ℕ
predecessors_below n rows to = filter (λ from. names (row rows from) to) (range_with_len 0 n)

-- all of them
abbrev pub predecessors : List (List ℕ) → (to : ℕ) → List ℕ
predecessors rows to = predecessors_below (length rows) rows to

-- the row of each place are its predecessors
abbrev pub reversed : List (List ℕ) → List (List ℕ)
reversed rows = map (predecessors rows) (range_with_len 0 (length rows))
