-- The instructions of a function whose body is a tree, in the tree's order: a block, the arms of a selection, its merge block; for a loop its header, body,
-- continue part and merge block. Each is a list of words.
use Rattle.std.specs.Prelude.{ℕ, ◌+◌, ◌*◌, ◌^◌, ◌==◌, Bool, true, cond, not, nat_eq, List, [], ◌∷◌, ◌++◌, map, filter, length, slice_index}
use Rattle.std.specs.List.{list_any, flat_map}
use Rattle.spv_opcodes.specs.declared.op.TheConstants as op
use Rattle.spv_bodies.specs.Bodies.{Exit, Parameter, Front, Entry, ByBranch, InPlace, Body, Leaves, Finishes, Step, Enters, Splits, Selects, Switches, Loops, Arms, Last, Also, Function, target}

-- an instruction of these words behind its first
abbrev pub instruction : (opcode : ℕ) → List ℕ → List ℕ
instruction opcode words = ((length words + 1) * 2 ^ 16 + opcode) ∷ words

abbrev pub label_line : ℕ → List ℕ
label_line label = instruction op.LABEL (label ∷ [])

abbrev pub branch_line : ℕ → List ℕ
branch_line label = instruction op.BRANCH (label ∷ [])

abbrev pub split_line : (condition : ℕ) → (on : Bool) → (exit other : ℕ) → List ℕ
split_line condition on exit other = instruction op.BRANCH_CONDITIONAL (condition ∷ cond on (exit ∷ other ∷ []) (other ∷ exit ∷ []))

abbrev pub pair_words : List (ℕ × ℕ) → List ℕ
pair_words [] = []
pair_words (pair ∷ pairs) = pair.0 ∷ pair.1 ∷ pair_words pairs

-- ---- branches that carry values

-- a block, and the branch with values that it ends with
abbrev pub Branching : Type 0
Branching = ℕ × Exit

-- the branch to the header of a loop, where there is one
abbrev pub entering : (block header : ℕ) → Entry → List Branching
entering block header (ByBranch values) = (block, record { target = header; values = values }) ∷ []
entering block header InPlace = []

-- the branches with values of a body whose first block has this label
abbrev mutual
  pub branches : (block : ℕ) → Body → List Branching
  branches block (Leaves exit) = (block, exit) ∷ []
  branches block (Finishes words) = []
  branches block (Step words body) = branches block body
  branches block (Enters label body) = branches label body
  branches block (Splits condition on exit body) = (block, exit) ∷ branches block body
  branches block (Selects control condition first second merge rest) = branches block first ++ (branches block second ++ branches merge.label rest)
  branches block (Switches control selector cases arms merge rest) = branches_of_arms block arms ++ branches merge.label rest
  branches block (Loops entry header control inner next continuing merge rest) =
      entering block header.label entry ++ (branches header.label inner ++ (branches next.label continuing ++ branches merge.label rest))

  pub branches_of_arms : (block : ℕ) → Arms → List Branching
  branches_of_arms block (Last arm) = branches block arm
  branches_of_arms block (Also arm arms) = branches block arm ++ branches_of_arms block arms

-- those to a label
abbrev pub arriving : ℕ → List Branching → List Branching
arriving label all = filter (λ branching. branching.1.target == label) all

-- ---- OpPhi

-- the branches from one block, and those from blocks that are not named
abbrev pub from_block : List Branching → ℕ → List Branching
from_block all block = filter (λ branching. branching.0 == block) all

abbrev pub from_others : List Branching → List ℕ → List Branching
from_others all blocks = filter (λ branching. not (list_any (nat_eq branching.0) blocks)) all

-- branches from the named blocks in their order, then the others
abbrev pub in_order : List ℕ → List Branching → List Branching
in_order blocks all = flat_map (from_block all) blocks ++ from_others all blocks

-- the pairs of the k-th parameter: a value and the block that it comes from
abbrev pub phi_pairs : (k : ℕ) → List Branching → List (ℕ × ℕ)
phi_pairs k all = map (λ branching. (slice_index branching.1.values k, branching.0)) all

abbrev pub phi_line : (k : ℕ) → List Branching → Parameter → List ℕ
phi_line k all parameter =
    instruction op.PHI (parameter.type ∷ parameter.result_id ∷ pair_words (phi_pairs k (in_order parameter.parents all)))

abbrev pub phi_lines : (k : ℕ) → List Branching → List Parameter → List (List ℕ)
phi_lines k all [] = []
phi_lines k all (parameter ∷ parameters) = phi_line k all parameter ∷ phi_lines (k + 1) all parameters

-- the label of a block and its OpPhi, of all branches of the function
abbrev pub front_lines : List Branching → Front → List (List ℕ)
front_lines all front = label_line front.label ∷ phi_lines 0 (arriving front.label all) front.parameters

-- ---- the lines of a body

abbrev pub selection_line : (merge control : ℕ) → List ℕ
selection_line merge control = instruction op.SELECTION_MERGE (merge ∷ control ∷ [])

abbrev pub loop_line : (merge next control : ℕ) → List ℕ
loop_line merge next control = instruction op.LOOP_MERGE (merge ∷ next ∷ control ∷ [])

-- the branch to a loop and the front of its header; where the header is in place, they stand before
abbrev pub entry_lines : List Branching → (opened : List (List ℕ)) → (header : Front) → Entry → List (List ℕ)
entry_lines all opened header (ByBranch values) = opened ++ branch_line header.label ∷ front_lines all header
entry_lines all opened header InPlace = []

-- all branches of the function; the merge instruction that stands before the terminator of the first block, where there is one
abbrev mutual
  pub lines : List Branching → (opened : List (List ℕ)) → Body → List (List ℕ)
  lines all opened (Leaves exit) = opened ++ branch_line exit.target ∷ []
  lines all opened (Finishes words) = opened ++ words ∷ []
  lines all opened (Step words body) = words ∷ lines all opened body
  lines all opened (Enters label body) = opened ++ branch_line label ∷ label_line label ∷ lines all [] body
  lines all opened (Splits condition on exit body) = opened ++ split_line condition on exit.target (target body) ∷ arm_lines all body
  lines all opened (Selects control condition first second merge rest) =
      opened ++ selection_line merge.label control ∷ split_line condition true (target first) (target second)
      ∷ (arm_lines all first ++ (arm_lines all second ++ (front_lines all merge ++ lines all [] rest)))
  lines all opened (Switches control selector cases arms merge rest) =
      opened ++ selection_line merge.label control ∷ instruction op.SWITCH (selector ∷ first_target arms ∷ pair_words cases)
      ∷ (lines_of_arms all arms ++ (front_lines all merge ++ lines all [] rest))
  lines all opened (Loops entry header control inner next continuing merge rest) =
      entry_lines all opened header entry
      ++ (lines all (loop_line merge.label next.label control ∷ []) inner
      ++ (front_lines all next ++ (lines all [] continuing ++ (front_lines all merge ++ lines all [] rest))))

  -- the blocks of an arm, behind the branch to it
  pub arm_lines : List Branching → Body → List (List ℕ)
  arm_lines all (Enters label body) = label_line label ∷ lines all [] body
  arm_lines all (Loops entry header control inner next continuing merge rest) =
      front_lines all header
      ++ (lines all (loop_line merge.label next.label control ∷ []) inner
      ++ (front_lines all next ++ (lines all [] continuing ++ (front_lines all merge ++ lines all [] rest))))
  arm_lines all other = []

  pub first_target : Arms → ℕ
  first_target (Last arm) = target arm
  first_target (Also arm arms) = target arm

  pub lines_of_arms : List Branching → Arms → List (List ℕ)
  lines_of_arms all (Last arm) = arm_lines all arm
  lines_of_arms all (Also arm arms) = arm_lines all arm ++ lines_of_arms all arms

-- the instructions of a function
abbrev pub listed : Function → List (List ℕ)
listed f =
    f.function ∷ (f.parameters ++ label_line f.label
    ∷ (lines (branches f.label f.body) [] f.body ++ instruction op.FUNCTION_END [] ∷ []))
