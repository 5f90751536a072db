-- A function with the blocks that branch to each label.
use Rattle.std.specs.Prelude.{◌≡◌, ℕ, Bool, true, false, List, [], ◌∷◌, Option, Some, None, ◌==◌}
use Rattle.graph.specs.Rows.{row}
use Rattle.spv_blocks.specs.Blocks.{Code, branches, has, is_label}
use Rattle.spv_blocks.specs.Places.{place}

pub record Flow : Type 0 where
  pub code : Code
  -- for each block, by its number, the labels of the blocks that branch to it
  pub rows : List (List ℕ)

-- the row of the place of a label
abbrev pub row_at : List (List ℕ) → Option ℕ → List ℕ
row_at rows None = []
row_at rows (Some j) = row rows j

-- the labels of the blocks that branch to a label
unfoldable pub before : Flow → (t : ℕ) → List ℕ
before flow t = row_at flow.rows (place flow.code t)

pub record IsFlow (flow : Flow) : Type 0 where
  pub branch : (t q : ℕ) → is_label flow.code t ≡ true → has (before flow t) q ≡ branches flow.code q t

-- a place that a label has is named
abbrev pub has_place : List ℕ → Option ℕ → Bool
has_place places None = false
has_place places (Some i) = has places i

-- the labels of the blocks at these places, each of which is the first with its label
pub record AreLabelsAt (f : Code) (places labels : List ℕ) : Type 0 where
  pub named : (q : ℕ) → has labels q ≡ has_place places (place f q)
