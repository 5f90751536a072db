-- Contexts by their places.
use Rattle.std.specs.Prelude.{ℕ, Bool, false, not, ◌&&◌, ◌==◌, List, [], ◌∷◌, slice_index_or}
use Rattle.spv_blocks.specs.Blocks.{Code}
use Rattle.spv_walk.specs.Contexts.{InSelection, InArm, InBody, InNext, Context, begins_case}

-- the context of a place
abbrev pub context_at : List Context → (place : ℕ) → Context
context_at contexts place = slice_index_or contexts place []

-- what lies round the innermost construct
abbrev pub outer_of : Context → Context
outer_of [] = []
outer_of (level ∷ c) = c

-- the innermost construct is a switch, and t is the first block of another case of it
abbrev pub falls_here : Code → Context → (t : ℕ) → Bool
falls_here f [] t = false
falls_here f (InSelection m ∷ c) t = false
falls_here f (InArm h m a ∷ c) t = begins_case f h m c t && not (t == a)
falls_here f (InBody h m n ∷ c) t = false
falls_here f (InNext h m ∷ c) t = false
