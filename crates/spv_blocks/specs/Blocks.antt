-- A function as a list of blocks, and what stands in it whatever a walk through it finds.
use Rattle.std.specs.Prelude.{ℕ, ◌+◌, Bool, true, false, cond, not, ◌&&◌, List, [], ◌∷◌, Option, Some, None, ◌==◌}
use Rattle.std.specs.List.{list_any}

-- An instruction of a block before its terminator, with its word offset. An OpPhi has its type, its result and its pairs of a value and a parent
-- block; OpSelectionMerge has its merge block, and OpLoopMerge its merge block and its continue target.
pub data Ins : Type 0 where
  Phi : (at t r : ℕ) (pairs : List (ℕ × ℕ)) → Ins
  Selection : (at merge : ℕ) → Ins
  Loop : (at merge next : ℕ) → Ins
  Other : (at : ℕ) → Ins

-- A terminator: OpSwitch has its default and its pairs of a literal and a label. An open block has none.
pub data End : Type 0 where
  Branch : (target : ℕ) → End
  BranchIf : (one other : ℕ) → End
  Switch : (default : ℕ) (cases : List (ℕ × ℕ)) → End
  Return : End
  Unreachable : End
  Open : End

-- a block: the label that begins it at a word offset, the instructions up to its terminator, and that
pub record Block : Type 0 where
  pub label : ℕ
  pub at : ℕ
  pub body : List Ins
  pub end_at : ℕ
  pub end : End

-- what a merge instruction opens: its merge block, and for a loop its continue target
pub data Construct : Type 0 where
  ASelection : (merge : ℕ) → Construct
  ASwitch : (merge : ℕ) → Construct
  ALoop : (merge next : ℕ) → Construct

-- the blocks of a function, in order
abbrev pub Code : Type 0
Code = List Block

abbrev pub has : List ℕ → ℕ → Bool
has xs x = list_any (λ y. y == x) xs

-- the first block with a label
abbrev pub block : Code → ℕ → Option Block
block [] l = None
block (b ∷ bs) l = cond (b.label == l) (Some b) (block bs l)

-- whether it is the label of the first block
abbrev pub is_first : Code → ℕ → Bool
is_first [] l = false
is_first (b ∷ bs) l = b.label == l

abbrev pub seconds : List (ℕ × ℕ) → List ℕ
seconds [] = []
seconds (p ∷ ps) = p.1 ∷ seconds ps

-- the labels that a terminator names
abbrev pub end_targets : End → List ℕ
end_targets (Branch l) = l ∷ []
end_targets (BranchIf a b) = a ∷ b ∷ []
end_targets (Switch d ps) = d ∷ seconds ps
end_targets Return = []
end_targets Unreachable = []
end_targets Open = []

abbrev pub of_block : {A : Type 0} → (Block → A) → A → Option Block → A
of_block f d None = d
of_block f d (Some b) = f b

-- the labels that the terminator of a block names
abbrev pub targets : Code → ℕ → List ℕ
targets f l = of_block (λ b. end_targets b.end) [] (block f l)

-- whether the block b branches to t
abbrev pub branches : Code → ℕ → ℕ → Bool
branches f b t = has (targets f b) t

-- the labels that an instruction names as a merge block or continue target
abbrev pub roles : Ins → List ℕ
roles (Phi at t r ps) = []
roles (Selection at m) = m ∷ []
roles (Loop at m c) = m ∷ c ∷ []
roles (Other at) = []

-- how often a number stands in a list
abbrev pub times : List ℕ → ℕ → ℕ
times [] l = 0
times (x ∷ xs) l = cond (x == l) (times xs l + 1) (times xs l)

abbrev pub names_in : List Ins → ℕ → ℕ
names_in [] l = 0
names_in (i ∷ is) l = times (roles i) l + names_in is l

-- how often the merge instructions name a label
abbrev pub names : Code → ℕ → ℕ
names [] l = 0
names (b ∷ bs) l = names_in b.body l + names bs l

abbrev pub is_some_block : Option Block → Bool
is_some_block None = false
is_some_block (Some b) = true

-- whether it is a label of the function
abbrev pub is_label : Code → ℕ → Bool
is_label f l = is_some_block (block f l)

-- the construct that a merge instruction opens before a terminator
abbrev pub opens : End → Ins → Option Construct
opens Open i = None
opens e (Phi at t r ps) = None
opens e (Other at) = None
opens e (Loop at m c) = Some (ALoop m c)
opens (Switch d ps) (Selection at m) = Some (ASwitch m)
opens e (Selection at m) = Some (ASelection m)

abbrev pub last_opens : End → List Ins → Option Construct
last_opens e [] = None
last_opens e (i ∷ []) = opens e i
last_opens e (i ∷ j ∷ is) = last_opens e (j ∷ is)

-- the construct of a block, which the last instruction before its terminator opens
abbrev pub construct : Code → ℕ → Option Construct
construct f l = of_block (λ b. last_opens b.end b.body) None (block f l)

-- the merge block and the continue target of a construct
abbrev pub merge_of : Option Construct → Option ℕ
merge_of None = None
merge_of (Some (ASelection m)) = Some m
merge_of (Some (ASwitch m)) = Some m
merge_of (Some (ALoop m c)) = Some m

abbrev pub next_of : Option Construct → Option ℕ
next_of None = None
next_of (Some (ASelection m)) = None
next_of (Some (ASwitch m)) = None
next_of (Some (ALoop m c)) = Some c

abbrev pub is_switch : Option Construct → Bool
is_switch None = false
is_switch (Some (ASelection m)) = false
is_switch (Some (ASwitch m)) = true
is_switch (Some (ALoop m c)) = false

-- the merge block or continue target l of the header h may be walked to: it is a block of the function, not the first, not the header, and named once
abbrev pub is_role : Code → ℕ → ℕ → Bool
is_role f h l = is_label f l && not (is_first f l) && not (l == h) && names f l == 1

-- a header that is its own continue target
abbrev pub is_it : ℕ → Option ℕ → Bool
is_it l None = false
is_it l (Some c) = c == l

abbrev pub stops : Code → ℕ → Bool
stops f l = is_it l (next_of (construct f l))

-- a block may go on to a label that is none of the first block, a merge block or a continue target
abbrev pub goes : Code → ℕ → ℕ → Bool
goes f b t = branches f b t && is_label f t && not (is_first f t) && names f t == 0

-- a label that the OpSwitch of a block names, and that no merge instruction names
abbrev pub is_case : Code → ℕ → ℕ → Bool
is_case f s t = is_switch (construct f s) && branches f s t && names f t == 0
