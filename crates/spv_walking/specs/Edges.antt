-- The blocks that end loops, by a table of contexts.
use Rattle.std.specs.Prelude.{◌≡◌, ℕ, Bool, true, false, cond, ◌&&◌, ◌==◌, [], ◌∷◌, Option, Some, None, is_none}
use Rattle.spv_blocks.specs.Tables.{found}
use Rattle.spv_blocks.specs.Blocks.{Code, branches, construct, is_it}
use Rattle.spv_walk.specs.Contexts.{InSelection, InArm, InBody, InNext, Context}
use Rattle.spv_walking.specs.declared.closing.BackEdges.{BackEdges}

-- the header of the loop that the block b ends with its back edge, in this context
abbrev pub ends_loop : Code → (b : ℕ) → Context → Option ℕ
ends_loop f b [] = None
ends_loop f b (InSelection m ∷ c) = None
ends_loop f b (InArm h m a ∷ c) = None
ends_loop f b (InBody h m n ∷ c) = None
ends_loop f b (InNext h m ∷ c) = cond (is_none (construct f b) && branches f b h) (Some h) None

-- the same where it stands in a context, if in any
abbrev pub edge_of : Code → (b : ℕ) → Option Context → Option ℕ
edge_of f b None = None
edge_of f b (Some c) = ends_loop f b c

-- the table has one block of the loop
abbrev pub is_one : Option (Option ℕ) → Bool
is_one None = false
is_one (Some None) = false
is_one (Some (Some b)) = true

abbrev pub has_one : BackEdges → (h : ℕ) → Bool
has_one edges h = is_one (found edges.blocks h)

-- what the table has of a loop once it has the block b too
abbrev pub joined : Option (Option ℕ) → (b : ℕ) → Option ℕ
joined None b = Some b
joined (Some None) b = None
joined (Some (Some a)) b = cond (a == b) (Some b) None

-- the block b is added to the loop that it ends, if it ends one
pub record AddsEdge (old new : BackEdges) (ends : Option ℕ) (b : ℕ) : Type 0 where
  pub at : (h : ℕ) → found new.blocks h ≡ cond (is_it h ends) (Some (joined (found old.blocks h) b)) (found old.blocks h)
