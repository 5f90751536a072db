-- Where a place stands: the constructs round it, and which labels may be branched to from there.
use Rattle.std.specs.Prelude.{ℕ, Bool, true, false, not, ◌&&◌, ◌||◌, List, [], ◌∷◌, Option, Some, None, ◌==◌}
use Rattle.spv_blocks.specs.Blocks.{Code, Construct, ASelection, ASwitch, ALoop, End, Branch, BranchIf, Switch, Return, Unreachable, Open, branches}

-- a construct round a place, and the part of it where the place is
pub data Level : Type 0 where
  InSelection : (merge : ℕ) → Level
  InArm : (header merge arm : ℕ) → Level
  InBody : (header merge next : ℕ) → Level
  InNext : (header merge : ℕ) → Level

-- the innermost first
abbrev pub Context : Type 0
Context = List Level

-- t is the merge block or continue target of the innermost loop, where the place is in its header or body
abbrev pub leaves_loop : Context → ℕ → Bool
leaves_loop [] t = false
leaves_loop (InSelection m ∷ c) t = leaves_loop c t
leaves_loop (InArm h m a ∷ c) t = leaves_loop c t
leaves_loop (InBody h m n ∷ c) t = t == m || t == n
leaves_loop (InNext h m ∷ c) t = false

-- t is the merge block of the innermost switch, where no loop lies between
abbrev pub leaves_switch : Context → ℕ → Bool
leaves_switch [] t = false
leaves_switch (InSelection m ∷ c) t = leaves_switch c t
leaves_switch (InArm h m a ∷ c) t = t == m
leaves_switch (InBody h m n ∷ c) t = false
leaves_switch (InNext h m ∷ c) t = false

-- the targets are exactly the header and the merge block
abbrev pub is_back_pair : (header merge : ℕ) → End → Bool
is_back_pair h m (Branch l) = false
is_back_pair h m (BranchIf a b) = (a == h && b == m) || (a == m && b == h)
is_back_pair h m (Switch d ps) = false
is_back_pair h m Return = false
is_back_pair h m Unreachable = false
is_back_pair h m Open = false

-- t is the merge block of the innermost construct, a selection or a switch; or the header of the innermost loop, where the place is in its continue part
-- and no construct lies between, or its merge block in a branch to both
abbrev pub leaves_inner : Context → End → ℕ → Bool
leaves_inner [] e t = false
leaves_inner (InSelection m ∷ c) e t = t == m
leaves_inner (InArm h m a ∷ c) e t = t == m
leaves_inner (InBody h m n ∷ c) e t = false
leaves_inner (InNext h m ∷ c) e t = t == h || (t == m && is_back_pair h m e)

-- t is an exit for a terminator in this context
abbrev pub is_exit : Context → End → ℕ → Bool
is_exit c e t = leaves_inner c e t || leaves_switch c t || leaves_loop c t

-- the OpSwitch of the header h, in the context c, branches to t, and t is no exit there: neither its merge block nor what leaves the innermost loop
abbrev pub begins_case : Code → (header merge : ℕ) → Context → (t : ℕ) → Bool
begins_case f h m c t = branches f h t && not (t == m || leaves_loop c t)

-- t is the first block of another case of a switch round the place
abbrev pub is_fall : Code → Context → ℕ → Bool
is_fall f [] t = false
is_fall f (InSelection m ∷ c) t = is_fall f c t
is_fall f (InArm h m a ∷ c) t = (begins_case f h m c t && not (t == a)) || is_fall f c t
is_fall f (InBody h m n ∷ c) t = is_fall f c t
is_fall f (InNext h m ∷ c) t = is_fall f c t

-- the place is in a continue part
abbrev pub in_next : Context → Bool
in_next [] = false
in_next (InSelection m ∷ c) = in_next c
in_next (InArm h m a ∷ c) = in_next c
in_next (InBody h m n ∷ c) = in_next c
in_next (InNext h m ∷ c) = true

-- the context behind the merge instruction of the block b, on the way to t
abbrev pub behind : Option Construct → (b t : ℕ) → Context → Context
behind None b t c = c
behind (Some (ASelection m)) b t c = InSelection m ∷ c
behind (Some (ASwitch m)) b t c = InArm b m t ∷ c
behind (Some (ALoop m n)) b t c = InBody b m n ∷ c

-- the context of the continue target of the block b
abbrev pub next_context : Option Construct → (b : ℕ) → Context → Context
next_context None b c = c
next_context (Some (ASelection m)) b c = c
next_context (Some (ASwitch m)) b c = c
next_context (Some (ALoop m n)) b c = InNext b m ∷ c
