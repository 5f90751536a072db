-- The rule on many exits: how many blocks branch to a block, and how many returns are nested.
use Rattle.std.specs.Prelude.{◌≡◌, ℕ, ◌+◌, Bool, true, false, not, ◌&&◌, nat_lt, min, List, [], ◌∷◌, ◌++◌, map, count_by, Option, Some, None}
use Rattle.spv_base.specs.declared.fault.Refusal.{Refusal}
use Rattle.spv_module.specs.First.{here, unless}
use Rattle.spv_module.specs.Instruction.{Instruction}
use Rattle.spv_blocks.specs.Blocks.{Code, Block, End, Branch, BranchIf, Switch, Return, Unreachable, Open, end_targets, has}
use Rattle.spv_blocks.specs.Cutting.{blocks_of, function_at, starts}
use Rattle.spv_walk.specs.Contexts.{Context}
use Rattle.spv_walk.specs.Walked.{IsWalk, InPlaces}

-- ---- branches to a block

-- how many blocks branch to a label: each counts once, however often its terminator names the label
abbrev pub branching : Code → (l : ℕ) → ℕ
branching f l = count_by (λ b. has (end_targets b.end) l) f

-- ---- nested returns

-- the block ends with OpReturn or OpReturnValue
abbrev pub is_return : End → Bool
is_return (Branch l) = false
is_return (BranchIf a b) = false
is_return (Switch d ps) = false
is_return Return = true
is_return Unreachable = false
is_return Open = false

-- the walk comes to a block inside a construct
abbrev pub is_inside : Option Context → Bool
is_inside None = false
is_inside (Some []) = false
is_inside (Some (level ∷ c)) = true

-- a block with a return that does not end the outermost sequence of blocks, by a table of the contexts of blocks
abbrev pub is_nested_return : (place : ℕ → Option Context) → Block → Bool
is_nested_return place b = is_return b.end && is_inside (place b.label)

abbrev pub nested_by : (place : ℕ → Option Context) → Code → ℕ
nested_by place f = count_by (is_nested_return place) f

-- a function has n nested returns
pub record AreNestedReturns (f : Code) (n : ℕ) : Type 0 where
  pub place : ℕ → Option Context
  pub walk : IsWalk f (InPlaces place)
  pub same : n ≡ nested_by place f

-- the functions of a module, in order
abbrev pub functions_of : List Instruction → List Code
functions_of insts = map (λ first. blocks_of (function_at first insts)) (starts insts)

-- functions have n nested returns together: the sum over the functions
abbrev pub AreNestedTogether : List Code → (n : ℕ) → Type 0
AreNestedTogether [] n = n ≡ 0
AreNestedTogether (f ∷ fs) n = (m : ℕ) × (k : ℕ) × AreNestedReturns f m × AreNestedTogether fs k × (n ≡ m + k)

-- so many as matter to the rule: 16,384 break it at each block, and so do more
abbrev pub capped : (nested : ℕ) → ℕ
capped nested = min nested 16384

-- ---- 607 ManyExits

-- at an OpLabel with this label, where the module has so many nested returns
abbrev pub exits_fit : (f : Code) (nested : ℕ) (l : ℕ) → Bool
exits_fit f nested l = not (nat_lt 16383 (branching f l + nested))

abbrev pub crowded_at : (f : Code) (nested : ℕ) → Block → List Refusal
crowded_at f nested b = here b.at (unless (exits_fit f nested b.label) 607)

abbrev pub crowded_among : (f : Code) (nested : ℕ) → List Block → List Refusal
crowded_among f nested [] = []
crowded_among f nested (b ∷ bs) = crowded_at f nested b ++ crowded_among f nested bs

-- the blocks of a function that break it
abbrev pub crowded : Code → (nested : ℕ) → List Refusal
crowded f nested = crowded_among f nested f

-- the blocks of all functions that break it
abbrev pub crowded_in_all : List Code → (nested : ℕ) → List Refusal
crowded_in_all [] nested = []
crowded_in_all (f ∷ fs) nested = crowded f nested ++ crowded_in_all fs nested
