-- What makes the plain tree of a function sound. What the words of a tree in code are is told by its types: ids are words above 0, control
-- masks are ones of the profile, and each Step is one instruction of the profile.
use Rattle.std.specs.Prelude.{◌≡◌, ℕ, ◌≤◌, Bool, true, ◌==◌, ◌&&◌, ◌||◌, not, nat_eq, Option, Some, None, List, [], ◌∷◌, ◌++◌, length, slice_index, All, AllPairs, Contains}
use Rattle.std.specs.List.{list_any, IsDistinct}
use Rattle.spv_opcodes.specs.declared.op.TheConstants as op
use Rattle.spv_grammar.specs.Operands.{opcode_of}
use Rattle.spv_grammar.specs.Table.{row_of}
use Rattle.spv_module.specs.Code.{row_section}
use Rattle.spv_bodies.specs.Bodies.{Body, Leaves, Finishes, Step, Enters, Splits, Selects, Switches, Loops, Front, Entry, ByBranch, InPlace, Arms, Last, Also, Function, target, begins_at_branch}
use Rattle.spv_bodies.specs.Listing.{Branching}
use Rattle.spv_tree.specs.Branches.{branches_in}
use Rattle.spv_tree.specs.Fronts.{IsFilled}

-- ---- instructions

abbrev pub is_one_of : List ℕ → ℕ → Bool
is_one_of opcodes opcode = list_any (nat_eq opcode) opcodes

-- what only the tree itself has: what opens and ends functions and blocks
abbrev pub structure : List ℕ
structure =
    op.FUNCTION ∷ op.FUNCTION_PARAMETER ∷ op.FUNCTION_END ∷ op.LABEL ∷ op.PHI ∷ op.LOOP_MERGE ∷ op.SELECTION_MERGE ∷ op.BRANCH ∷ op.BRANCH_CONDITIONAL ∷ op.SWITCH
    ∷ op.RETURN ∷ op.RETURN_VALUE ∷ op.UNREACHABLE ∷ []

-- an instruction that stands in blocks, and is no OpPhi, no merge instruction and no terminator
abbrev pub is_step : (opcode : ℕ) → Bool
is_step opcode = (row_section (row_of opcode) == 11 || is_one_of (op.VARIABLE ∷ op.UNDEF ∷ []) opcode) && not (is_one_of structure opcode)

abbrev pub is_end : (opcode : ℕ) → Bool
is_end opcode = is_one_of (op.RETURN ∷ op.RETURN_VALUE ∷ op.UNREACHABLE ∷ []) opcode

abbrev pub opcode_in : List ℕ → ℕ
opcode_in words = opcode_of (slice_index words 0)

-- ---- constructs

-- what follows the merge instruction of a loop, behind the instructions of its header
abbrev pub opens : Body → Bool
opens (Step words body) = opens body
opens (Splits condition on exit body) = true
opens other = begins_at_branch other

abbrev pub targets : Arms → List ℕ
targets (Last arm) = target arm ∷ []
targets (Also arm arms) = target arm ∷ targets arms

-- the cases of a switch, of which there are at most 16,383, name its arms, which have distinct targets
pub record IsSwitch (cases : List (ℕ × ℕ)) (arms : Arms) : Type 0 where
  pub count : length cases ≤ 16383
  pub named : All (λ case. Contains (targets arms) case.1) cases
  pub distinct : IsDistinct nat_eq (targets arms)

-- the conditions on each construct, among all branches of the function
abbrev mutual
  pub IsFormed : List Branching → Body → Type 0
  IsFormed all (Leaves exit) = Unit {0}
  IsFormed all (Finishes words) = is_end (opcode_in words) ≡ true
  IsFormed all (Step words body) = (is_step (opcode_in words) ≡ true) × IsFormed all body
  IsFormed all (Enters label body) = IsFormed all body
  IsFormed all (Splits condition on exit body) = (begins_at_branch body ≡ true) × IsFormed all body
  IsFormed all (Selects control condition first second merge rest) =
      (begins_at_branch first ≡ true) × (begins_at_branch second ≡ true) × IsFilled all merge × IsFormed all first × IsFormed all second × IsFormed all rest
  IsFormed all (Switches control selector cases arms merge rest) = IsSwitch cases arms × IsFilled all merge × AreFormed all arms × IsFormed all rest
  IsFormed all (Loops entry header control inner next continuing merge rest) =
      (opens inner ≡ true) × IsFilled all header × IsFilled all next × IsFilled all merge × IsFormed all inner × IsFormed all continuing × IsFormed all rest

  pub AreFormed : List Branching → Arms → Type 0
  AreFormed all (Last arm) = (begins_at_branch arm ≡ true) × IsFormed all arm
  AreFormed all (Also arm arms) = (begins_at_branch arm ≡ true) × IsFormed all arm × AreFormed all arms

-- ---- loops in place

-- where a loop is in place, its header is the front that its part begins with
abbrev pub IsEntry : Option Front → (header : Front) → Entry → Type 0
IsEntry front header (ByBranch values) = Unit {0}
IsEntry front header InPlace = front ≡ Some header

-- the front that a body stands behind, if it does: a loop in place stands there and nowhere else
abbrev mutual
  pub ArePlaced : Option Front → Body → Type 0
  ArePlaced front (Leaves exit) = Unit {0}
  ArePlaced front (Finishes words) = Unit {0}
  ArePlaced front (Step words body) = ArePlaced None body
  ArePlaced front (Enters label body) = ArePlaced None body
  ArePlaced front (Splits condition on exit body) = ArePlaced None body
  ArePlaced front (Selects control condition first second merge rest) = ArePlaced None first × ArePlaced None second × ArePlaced (Some merge) rest
  ArePlaced front (Switches control selector cases arms merge rest) = ArmsArePlaced arms × ArePlaced (Some merge) rest
  ArePlaced front (Loops entry header control inner next continuing merge rest) =
      IsEntry front header entry × ArePlaced None inner × ArePlaced (Some next) continuing × ArePlaced (Some merge) rest

  pub ArmsArePlaced : Arms → Type 0
  ArmsArePlaced (Last arm) = ArePlaced None arm
  ArmsArePlaced (Also arm arms) = ArePlaced None arm × ArmsArePlaced arms

-- ---- functions

-- the labels of blocks that one branch enters
abbrev mutual
  pub entered : Body → List ℕ
  entered (Leaves exit) = []
  entered (Finishes words) = []
  entered (Step words body) = entered body
  entered (Enters label body) = label ∷ entered body
  entered (Splits condition on exit body) = entered body
  entered (Selects control condition first second merge rest) = entered first ++ entered second ++ entered rest
  entered (Switches control selector cases arms merge rest) = entered_of_arms arms ++ entered rest
  entered (Loops entry header control inner next continuing merge rest) = entered inner ++ entered continuing ++ entered rest

  pub entered_of_arms : Arms → List ℕ
  entered_of_arms (Last arm) = entered arm
  entered_of_arms (Also arm arms) = entered arm ++ entered_of_arms arms

-- the label of a header that is no other front
abbrev pub own_label : Entry → (label : ℕ) → List ℕ
own_label (ByBranch values) label = label ∷ []
own_label InPlace label = []

-- the labels of fronts
abbrev mutual
  pub fronts : Body → List ℕ
  fronts (Leaves exit) = []
  fronts (Finishes words) = []
  fronts (Step words body) = fronts body
  fronts (Enters label body) = fronts body
  fronts (Splits condition on exit body) = fronts body
  fronts (Selects control condition first second merge rest) = merge.label ∷ fronts first ++ fronts second ++ fronts rest
  fronts (Switches control selector cases arms merge rest) = merge.label ∷ fronts_of_arms arms ++ fronts rest
  fronts (Loops entry header control inner next continuing merge rest) =
      own_label entry header.label ++ next.label ∷ merge.label ∷ fronts inner ++ fronts continuing ++ fronts rest

  pub fronts_of_arms : Arms → List ℕ
  fronts_of_arms (Last arm) = fronts arm
  fronts_of_arms (Also arm arms) = fronts arm ++ fronts_of_arms arms

-- two branches of one block to one target carry the same values
abbrev pub AreAlike : Branching → Branching → Type 0
AreAlike a b = a.0 ≡ b.0 → a.1.target ≡ b.1.target → a.1.values ≡ b.1.values

pub record IsSound (f : Function) : Type 0 where
  -- no label stands twice
  pub labels : IsDistinct nat_eq (f.label ∷ entered f.body ++ fronts f.body)
  -- each exit goes to a front of the function
  pub arrive : All (λ branching. Contains (fronts f.body) branching.1.target) (branches_in f)
  pub alike : AllPairs AreAlike (branches_in f)
  pub formed : IsFormed (branches_in f) f.body
  pub placed : ArePlaced None f.body
