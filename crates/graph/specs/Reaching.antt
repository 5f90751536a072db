-- What a walk along the edges of a graph reaches.
use Rattle.std.specs.Prelude.{◌≡◌, ℕ, ◌<◌, Bool, List, length}
use Rattle.std.specs.List.{Contains}
use Rattle.graph.specs.Rows.{HasEdge, IsMarked}

-- there is a walk from one place to another
pub data Reaches (rows : List (List ℕ)) (from : ℕ) : ℕ → Type 0 where
  Here : Reaches rows from from
  Along : {p q : ℕ} → Reaches rows from p → HasEdge rows p q → Reaches rows from q

-- there is a walk that goes on only from places that are passable
pub data ReachesPast (rows : List (List ℕ)) (passable : List Bool) (from : ℕ) : ℕ → Type 0 where
  Here : ReachesPast rows passable from from
  Along : {p q : ℕ} → ReachesPast rows passable from p → IsMarked passable p → HasEdge rows p q → ReachesPast rows passable from q

-- there is one from one of the starts
abbrev pub IsReached : List (List ℕ) → (starts : List ℕ) → (place : ℕ) → Type 0
IsReached rows starts place = (start : ℕ) × Contains starts start × Reaches rows start place

abbrev pub IsReachedPast : List (List ℕ) → (starts : List ℕ) → (passable : List Bool) → (place : ℕ) → Type 0
IsReachedPast rows starts passable place = (start : ℕ) × Contains starts start × ReachesPast rows passable start place

-- the marks, one for each place, are on exactly those of a set
pub record AreMarks (count : ℕ) (Set : ℕ → Type 0) (marks : List Bool) : Type 0 where
  pub one_each : length marks ≡ count
  pub only : (place : ℕ) → IsMarked marks place → Set place
  pub all : (place : ℕ) → place < count → Set place → IsMarked marks place
