-- Directed graphs: the list of the rows of successors, by place.
use Rattle.std.specs.Prelude.{◌≡◌, ℕ, ◌-◌, Bool, true, false, cond, nat_eq, List, [], ◌∷◌, ◌++◌, length, slice_index_or, slice_get, slice_set}
use Rattle.std.specs.List.{Contains}
use Rattle.std.specs.Option.{option_map_or}

-- the successors of a place; a number past the last place has none
abbrev pub row : List (List ℕ) → (place : ℕ) → List ℕ
row rows place = slice_index_or rows place []

-- an edge leads from one to the other
abbrev pub HasEdge : List (List ℕ) → (from to : ℕ) → Type 0
HasEdge rows from to = Contains (row rows from) to

-- a set of places, by its marks; nothing past their end is marked
abbrev pub is_marked : List Bool → (place : ℕ) → Bool
is_marked marks place = slice_index_or marks place false

abbrev pub IsMarked : List Bool → (place : ℕ) → Type 0
IsMarked marks place = is_marked marks place ≡ true

-- the list with a place at its end, where that is not its last already
abbrev pub ends_with : List ℕ → (place : ℕ) → Bool
ends_with places place = option_map_or (nat_eq place) (slice_get places (length places - 1)) false

abbrev pub ending : List ℕ → (place : ℕ) → List ℕ
ending places place = cond (ends_with places place) places (places ++ place ∷ [])

-- the graph with an edge at the end of a row, where that is not its last already
abbrev pub added : List (List ℕ) → (from to : ℕ) → List (List ℕ)
added rows from to = slice_set rows from (ending (row rows from) to)
