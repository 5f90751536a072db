-- What a walk that is under way keeps, and what each of its steps does to it.
use Rattle.std.specs.Prelude.{ℕ, Bool, true, false, cond, List, [], ◌∷◌, ◌++◌, replicate, slice_index_or, slice_set, fold}
use Rattle.graph.specs.Rows.{row, is_marked}

-- the places that are met, by their marks, and those of them whose rows were not looked at
pub record Going : Type 0 where
  pub met : List Bool
  pub waiting : List ℕ

-- none of `count` places is met
abbrev pub begun : (count : ℕ) → Going
begun count = record { met = replicate count false; waiting = [] }

-- a place that is not met is met, and waits
abbrev pub meet : Going → (place : ℕ) → Going
meet g place = record {
  met = slice_set g.met place true;
  waiting = cond (slice_index_or g.met place true) g.waiting (g.waiting ++ place ∷ []);
}

-- the successors of a place that may be passed are met
abbrev pub passed : List (List ℕ) → (passable : List Bool) → Going → (place : ℕ) → Going
passed rows passable g place = cond (is_marked passable place) (fold meet g (row rows place)) g
