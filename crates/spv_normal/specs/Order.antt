-- The blocks of a function in the order of its constructs, and those that are joined.
use Rattle.std.specs.Prelude.{ℕ, zero, suc, Bool, true, false, cond, not, ◌&&◌, ◌||◌, ◌==◌, List, [], ◌∷◌, ◌++◌, filter, fold, length, Option, Some, None, is_none}
use Rattle.spv_blocks.specs.Blocks.{Code, Construct, ASelection, ASwitch, ALoop, End, Branch, BranchIf, Switch, Return, Unreachable, Open, has, of_block, block, targets, construct, names}

-- ---- fronts

abbrev pub is_loop : Option Construct → Bool
is_loop None = false
is_loop (Some (ASelection m)) = false
is_loop (Some (ASwitch m)) = false
is_loop (Some (ALoop m c)) = true

-- a merge block, a continue target or a loop's header
abbrev pub is_front : Code → (label : ℕ) → Bool
is_front f l = not (names f l == 0) || is_loop (construct f l)

-- ---- the order

-- the blocks that a construct places behind its header's arms: the continue target of a loop, and the merge block
abbrev pub placed : Option Construct → List ℕ
placed None = []
placed (Some (ASelection m)) = m ∷ []
placed (Some (ASwitch m)) = m ∷ []
placed (Some (ALoop m c)) = c ∷ m ∷ []

-- what follows a block: its targets that no merge instruction names, in the order in which its terminator names them, then what its construct places
abbrev pub followers : Code → (label : ℕ) → List ℕ
followers f l = filter (λ t. names f t == 0) (targets f l) ++ placed (construct f l)

-- the blocks seen, and then a block with all that follows it, each where it is met first; at most n deep
abbrev pub visited : (n : ℕ) → Code → (seen : List ℕ) → (label : ℕ) → List ℕ
visited zero f seen l = seen
visited (suc n) f seen l = cond (has seen l) seen (fold (visited n f) (seen ++ l ∷ []) (followers f l))

abbrev pub first_label : Code → ℕ
first_label [] = 0
first_label (b ∷ bs) = b.label

-- a block, the arms in the order of the operands, then the merge block; for a loop its header, body, continue part and merge block
abbrev pub ordered : Code → List ℕ
ordered f = visited (length f) f [] (first_label f)

-- ---- joined blocks

abbrev pub is_branch_to : (label : ℕ) → End → Bool
is_branch_to l (Branch t) = t == l
is_branch_to l (BranchIf a b) = false
is_branch_to l (Switch d cases) = false
is_branch_to l Return = false
is_branch_to l Unreachable = false
is_branch_to l Open = false

-- the block t is joined with the block l, which ends with OpBranch to it and has no merge instruction
abbrev pub joins : Code → (l t : ℕ) → Bool
joins f l t = of_block (λ b. is_branch_to t b.end) false (block f l) && is_none (construct f l) && not (is_front f t)

-- the label that stays for a block, behind one for which another stays
abbrev pub label_behind : Code → Option (ℕ × ℕ) → (label : ℕ) → ℕ
label_behind f None l = l
label_behind f (Some before) l = cond (joins f before.0 l) before.1 l

-- blocks in order, each with the label that stays for it
abbrev pub with_labels : Code → Option (ℕ × ℕ) → List ℕ → List (ℕ × ℕ)
with_labels f before [] = []
with_labels f before (l ∷ ls) = let h = label_behind f before l in (l, h) ∷ with_labels f (Some (l, h)) ls
