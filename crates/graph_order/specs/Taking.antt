-- An order under way, as the code keeps it.
use Rattle.std.specs.Prelude.{ℕ, ◌-◌, cond, ◌==◌, nat_lt, ◌&&◌, List, [], ◌∷◌, ◌++◌, length, fold, slice_index_or, slice_set}
use Rattle.std.specs.List.{range_with_len}
use Rattle.graph.specs.Rows.{row}

-- of how many places that lead to a place it is not known that they were passed; and the order so far
pub record Taking : Type 0 where
  pub waits : List ℕ
  pub order : List ℕ

-- a place that so many places lead to
abbrev pub add : Taking → (place waits : ℕ) → Taking
add t place waits = record { waits = t.waits ++ waits ∷ []; order = cond (waits == 0) (t.order ++ place ∷ []) t.order }

abbrev pub begun_with : List (List ℕ) → (places : List ℕ) → Taking → Taking
begun_with leading places t = fold (λ u place. add u place (length (row leading place))) t places

abbrev pub begun : List (List ℕ) → Taking
begun leading = begun_with leading (range_with_len 0 (length leading)) (record { waits = []; order = [] })

abbrev pub waits_of : Taking → ℕ → ℕ
waits_of t place = slice_index_or t.waits place 0

-- one of the places that lead to this one was passed
abbrev pub release : Taking → (place : ℕ) → Taking
release t place =
    cond (nat_lt place (length t.waits) && nat_lt 0 (waits_of t place))
    (record { waits = slice_set t.waits place (waits_of t place - 1); order = cond ((waits_of t place - 1) == 0) (t.order ++ place ∷ []) t.order })
    t

abbrev pub passed : Taking → List ℕ → Taking
passed t places = fold release t places
