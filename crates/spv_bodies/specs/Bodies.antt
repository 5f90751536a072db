-- The body of a function as a tree of constructs: a sequence and what follows it, each construct with its parts and with what stands behind it.
use Rattle.std.specs.Prelude.{ℕ, ◌+◌, Bool, true, false, List, max}

-- a branch out of a part, with a value for each parameter of the block that it names
pub record Exit : Type 0 where
  pub target : ℕ
  pub values : List ℕ

-- a parameter of a block, which is an OpPhi: its type, its result, and the blocks that it names, in its order
pub record Parameter : Type 0 where
  pub type : ℕ
  pub result_id : ℕ
  pub parents : List ℕ

-- the front of a loop's header, of a continue target or of a merge block
pub record Front : Type 0 where
  pub label : ℕ
  pub parameters : List Parameter

-- how a loop is come to: by a branch, with a value for each parameter of its header; or its header is the merge block or continue target that the part
-- begins with
pub data Entry : Type 0 where
  ByBranch : (values : List ℕ) → Entry
  InPlace : Entry

-- Instructions are lists of words, and operands are ids. A body that begins at a branch leaves at once (`Leaves`), enters a block of its own (`Enters`) or
-- enters a loop (`Loops`, by a branch): so does each arm, what follows a conditional exit, and what follows the merge instruction of a loop.
mutual
  pub data Body : Type 0 where
    -- OpBranch out of the part
    Leaves : Exit → Body
    -- OpReturn, OpReturnValue or OpUnreachable
    Finishes : (words : List ℕ) → Body
    -- an instruction that is no OpPhi, no merge instruction and no terminator
    Step : (words : List ℕ) → Body → Body
    -- a branch to a block without parameters that nothing else branches to
    Enters : (label : ℕ) → Body → Body
    -- OpBranchConditional without OpSelectionMerge: out of the part where the condition is `on`, else on to the body
    Splits : (condition : ℕ) (on : Bool) → Exit → Body → Body
    -- OpSelectionMerge, with its control, and OpBranchConditional: an arm for true, an arm for false, the merge block and what follows
    Selects : (control condition : ℕ) → (first second : Body) → (merge : Front) → Body → Body
    -- OpSelectionMerge and OpSwitch: literals with the labels of their arms; an arm for each label, that of the default first
    Switches : (control selector : ℕ) → (cases : List (ℕ × ℕ)) → Arms → (merge : Front) → Body → Body
    -- a loop's header, with OpLoopMerge and its control at the end of the header's block, and its body; the continue part, the merge block and what follows
    Loops : Entry → (header : Front) → (control : ℕ) → (inner : Body) → (next : Front) → (continuing : Body) → (merge : Front) → Body → Body

  pub data Arms : Type 0 where
    Last : Body → Arms
    Also : Body → Arms → Arms

-- the label that a body which begins at a branch begins with
abbrev pub target : Body → ℕ
target (Leaves exit) = exit.target
target (Enters label body) = label
target (Loops entry header control inner next continuing merge rest) = header.label
target other = 0

-- a body that begins at a branch
abbrev pub begins_at_branch : Body → Bool
begins_at_branch (Leaves exit) = true
begins_at_branch (Enters label body) = true
begins_at_branch (Loops (ByBranch values) header control inner next continuing merge rest) = true
begins_at_branch other = false

-- the greatest number of constructs round one point
abbrev mutual
  pub depth : Body → ℕ
  depth (Leaves exit) = 0
  depth (Finishes words) = 0
  depth (Step words body) = depth body
  depth (Enters label body) = depth body
  depth (Splits condition on exit body) = depth body
  depth (Selects control condition first second merge rest) = max (max (depth first) (depth second) + 1) (depth rest)
  depth (Switches control selector cases arms merge rest) = max (depth_of_arms arms + 1) (depth rest)
  depth (Loops entry header control inner next continuing merge rest) = max (max (depth inner) (depth continuing) + 1) (depth rest)

  pub depth_of_arms : Arms → ℕ
  depth_of_arms (Last arm) = depth arm
  depth_of_arms (Also arm arms) = max (depth arm) (depth_of_arms arms)

-- a function: the words of its OpFunction and of each OpFunctionParameter, the label of its first block, and its body
pub record Function : Type 0 where
  pub function : List ℕ
  pub parameters : List (List ℕ)
  pub label : ℕ
  pub body : Body
