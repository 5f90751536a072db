-- The blocks of a function as a graph: the places are the numbers of blocks.
use Rattle.std.specs.Prelude.{◌≡◌, ℕ, true, List, map, Some}
use Rattle.graph.specs.Rows.{HasEdge}
use Rattle.graph.specs.Distinct.{distinct_rows}
use Rattle.graph.specs.Reversing.{reversed}
use Rattle.spv_blocks.specs.Blocks.{Code, branches}
use Rattle.spv_blocks.specs.Places.{place, row_of}

-- where the terminators of the blocks lead
abbrev pub rows_of : Code → List (List ℕ)
rows_of f = map (row_of f) f

-- each block to which a block leads, once, in the order in which its terminator names them
abbrev pub targets_of : Code → List (List ℕ)
targets_of f = distinct_rows (rows_of f)

-- each block that leads to a block, once, in order
abbrev pub predecessors_of : Code → List (List ℕ)
predecessors_of f = reversed (rows_of f)

-- the edges are the branches, of blocks with the labels l and t at the places i and j
pub record AreBranches (f : Code) : Type 0 where
  pub target : (l t i j : ℕ) → place f l ≡ Some i → place f t ≡ Some j → branches f l t ≡ true → HasEdge (targets_of f) i j
  pub branch : (l t i j : ℕ) → place f l ≡ Some i → place f t ≡ Some j → HasEdge (targets_of f) i j → branches f l t ≡ true
  pub predecessor : (l t i j : ℕ) → place f l ≡ Some i → place f t ≡ Some j → branches f l t ≡ true → HasEdge (predecessors_of f) j i
  pub branched : (l t i j : ℕ) → place f l ≡ Some i → place f t ≡ Some j → HasEdge (predecessors_of f) j i → branches f l t ≡ true
