-- The steps from one block to the next past merge instructions, by the numbers of blocks.
use Rattle.std.specs.Prelude.{◌≡◌, ℕ, ◌<◌, Bool, cond, List, [], ◌∷◌, ◌++◌, length, map, filter, Option, Some, None, slice_get}
use Rattle.std.specs.Option.{option_map}
use Rattle.graph.specs.Rows.{row}
use Rattle.spv_blocks.specs.Blocks.{Block, Code, construct, is_role, merge_of, next_of, stops, targets}
use Rattle.spv_blocks.specs.Places.{is_free, number_of}

-- a merge block or continue target of b, if it may be walked to
abbrev pub role_of : Code → (b : ℕ) → Option ℕ → List ℕ
role_of f b None = []
role_of f b (Some role) = cond (is_role f b role) (role ∷ []) []

-- the labels directly behind b
unfoldable pub onward : Code → (b : ℕ) → List ℕ
onward f b = cond (stops f b) [] (role_of f b (merge_of (construct f b)) ++ (role_of f b (next_of (construct f b)) ++ filter (is_free f) (targets f b)))

-- the numbers of these
abbrev pub steps_from : Code → Option ℕ → List ℕ
steps_from f None = []
steps_from f (Some b) = map (number_of f) (onward f b)

-- the label of the i-th block
abbrev pub label_of : Code → (i : ℕ) → Option ℕ
label_of f i = option_map (λ (b : Block). b.label) (slice_get f i)

-- the row of each block has the numbers of the blocks directly behind it
pub record AreSteps (f : Code) (rows : List (List ℕ)) : Type 0 where
  pub count : length rows ≡ length f
  pub each : (i : ℕ) → i < length f → row rows i ≡ steps_from f (label_of f i)
