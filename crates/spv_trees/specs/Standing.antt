-- Where a structured body stands in a module: the statements that spell it, in the order of its blocks or any other.
use Rattle.std.specs.Prelude.{◌≡◌, ℕ, ◌==◌, Bool, true, false, cond, ◌⊎◌, List, [], ◌∷◌, ◌++◌, Option, Some, IsSome}
use Rattle.std.specs.List.{list_any, AllByRecursion}
use Rattle.spv_opcodes.specs.declared.op.TheConstants as op
use Rattle.spv_meaning.specs.Statements as says
use Rattle.spv_meaning.specs.Statements.{Statement, said, statements_in}
use Rattle.spv_machine.specs.Steps.{behind_label, behind_function, phi_results, phi_sources, behind_phis}
use Rattle.spv_bodies.specs.Bodies.{Exit, Front, ByBranch, InPlace, Body, Leaves, Finishes, Step, Enters, Splits, Selects, Switches, Loops, Arms, Last, Also, Function, target}
use Rattle.spv_bodies.specs.Listing.{instruction, first_target}
use Rattle.spv_trees.specs.Meaning.{parameter_ids}

-- ---- blocks

-- the OpPhi of the target take these ids from a block
pub record StandsExit (all : List Statement) (block : ℕ) (exit : Exit) : Type 0 where
  pub there : List Statement
  pub place : behind_label all exit.target ≡ Some there
  pub values : phi_sources there block ≡ Some exit.values

-- this stands behind the label, and its OpPhi are the parameters
pub record StandsFront (all : List Statement) (front : Front) (there : List Statement) : Type 0 where
  pub place : behind_label all front.label ≡ Some there
  pub parameters : phi_results there ≡ parameter_ids front

abbrev pub copy_line : (type result_id source : ℕ) → List ℕ
copy_line type result_id source = instruction op.COPY_OBJECT (type ∷ result_id ∷ source ∷ [])

-- an OpCopyObject for each OpPhi in front, in their order, and behind them the body
abbrev pub copies : List Statement → (sources : List ℕ) → Body → Body
copies (says.Phi t r pairs ∷ rest) (source ∷ sources) body = Step (copy_line t r source) (copies rest sources body)
copies other sources body = body

-- none takes the result of one before it
abbrev pub Apart : (results sources : List ℕ) → Type 0
Apart (r ∷ rs) (s ∷ ss) = (list_any (λ id. id == r) ss ≡ false) × Apart rs ss
Apart rs ss = Unit {0}

-- this stands behind the label, and its OpPhi are as good as copies of these ids where one comes from the block
pub record IsCopied (all : List Statement) (block label : ℕ) (there : List Statement) (sources : List ℕ) : Type 0 where
  pub place : behind_label all label ≡ Some there
  pub values : phi_sources there block ≡ Some sources
  pub apart : Apart (phi_results there) sources

-- ---- statements

-- no merge instruction, branch or return: what is behind it comes next
abbrev pub leads_on : Statement → Bool
leads_on says.Merge = false
leads_on (says.Branch label) = false
leads_on (says.BranchConditional condition label other) = false
leads_on (says.Switch selector default cases) = false
leads_on says.Return = false
leads_on (says.ReturnValue id) = false
leads_on other = true

abbrev pub is_finish : Statement → Bool
is_finish says.Return = true
is_finish (says.ReturnValue id) = true
is_finish says.Unreachable = true
is_finish other = false

-- ---- bodies

-- each case has an arm
abbrev pub has_arm : Arms → (label : ℕ) → Bool
has_arm (Last arm) label = target arm == label
has_arm (Also arm arms) label = cond (target arm == label) true (has_arm arms label)

abbrev pub Covers : Arms → List (ℕ × ℕ) → Type 0
Covers arms cases = AllByRecursion (λ (c : ℕ × ℕ). has_arm arms c.1 ≡ true) cases

mutual
  -- `rest` in a block spells the body
  pub data Stands (all : List Statement) : (block : ℕ) → (rest : List Statement) → Body → Type 0 where
    branches : {block label : ℕ} {after : List Statement} {body : Body} → StandsAt all block label body → Stands all block (says.Branch label ∷ after) body
    -- a block that could be joined to the one before it
    joined : {block label : ℕ} {after there : List Statement} {sources : List ℕ} {body : Body} →
        IsCopied all block label there sources → Stands all label (behind_phis there) body → Stands all block (says.Branch label ∷ after) (copies there sources body)
    finishes : {block : ℕ} {statement : Statement} {after : List Statement} {words : List ℕ} →
        said words [] ≡ statement ∷ [] → is_finish statement ≡ true → Stands all block (statement ∷ after) (Finishes words)
    steps : {block : ℕ} {after : List Statement} {words : List ℕ} {body : Body} →
        AllByRecursion (λ s. leads_on s ≡ true) (said words []) → Stands all block after body → Stands all block (said words [] ++ after) (Step words body)
    -- a merge instruction before a terminator
    merges : {block : ℕ} {rest : List Statement} {body : Body} → Stands all block rest body → Stands all block (says.Merge ∷ rest) body
    splits : {block condition other : ℕ} {on : Bool} {after : List Statement} {exit : Exit} {body : Body} →
        StandsExit all block exit → StandsAt all block other body →
        Stands all block (says.BranchConditional condition (cond on exit.target other) (cond on other exit.target) ∷ after) (Splits condition on exit body)
    selects : {block control condition yes_label no_label : ℕ} {after there : List Statement} {first second rest : Body} {merge : Front} →
        StandsAt all block yes_label first → StandsAt all block no_label second → StandsFront all merge there → Stands all merge.label (behind_phis there) rest →
        Stands all block (says.Merge ∷ says.BranchConditional condition yes_label no_label ∷ after) (Selects control condition first second merge rest)
    switches : {block control selector : ℕ} {cases : List (ℕ × ℕ)} {after there : List Statement} {arms : Arms} {rest : Body} {merge : Front} →
        StandsArms all block arms → Covers arms cases → StandsFront all merge there → Stands all merge.label (behind_phis there) rest →
        Stands all block (says.Merge ∷ says.Switch selector (first_target arms) cases ∷ after) (Switches control selector cases arms merge rest)
    -- a loop whose header is this block: only its OpPhi stand before
    placed : {control : ℕ} {here : List Statement} {header next merge : Front} {inner continuing rest : Body} →
        StandsLoop all header here inner next continuing merge rest → Stands all header.label here (Loops InPlace header control inner next continuing merge rest)

  -- a branch from the block to the label leads to a body that begins at a branch
  pub data StandsAt (all : List Statement) : (block label : ℕ) → Body → Type 0 where
    leaves : {block : ℕ} {exit : Exit} → StandsExit all block exit → StandsAt all block exit.target (Leaves exit)
    enters : {block label : ℕ} {there : List Statement} {sources : List ℕ} {body : Body} →
        IsCopied all block label there sources → Stands all label (behind_phis there) body → StandsAt all block label (Enters label (copies there sources body))
    -- the OpPhi of the header take the values from the block
    loops : {block control : ℕ} {ids : List ℕ} {here : List Statement} {header next merge : Front} {inner continuing rest : Body} →
        StandsExit all block (record { target = header.label; values = ids }) → StandsLoop all header here inner next continuing merge rest →
        StandsAt all block header.label (Loops (ByBranch ids) header control inner next continuing merge rest)

  pub data StandsArms (all : List Statement) : (block : ℕ) → Arms → Type 0 where
    last : {block : ℕ} {arm : Body} → StandsAt all block (target arm) arm → StandsArms all block (Last arm)
    also : {block : ℕ} {arm : Body} {arms : Arms} → StandsAt all block (target arm) arm → StandsArms all block arms → StandsArms all block (Also arm arms)

  -- a loop's parts, of which the first stands behind the OpPhi of the header
  pub data StandsLoop (all : List Statement) : (header : Front) → (here : List Statement) → (inner : Body) → (next : Front) → (continuing : Body) → (merge : Front) → Body → Type 0 where
    parts : {behind_header behind_next there : List Statement} {header next merge : Front} {inner continuing rest : Body} →
        StandsFront all header behind_header → Stands all header.label (behind_phis behind_header) inner →
        StandsFront all next behind_next → Stands all next.label (behind_phis behind_next) continuing →
        StandsFront all merge there → Stands all merge.label (behind_phis there) rest →
        StandsLoop all header (behind_phis behind_header) inner next continuing merge rest

-- ---- what is left for and what is called

abbrev pub OneOf : {X : Type 0} → X → List X → Type 0
OneOf x [] = ⊥
OneOf x (y ∷ ys) = (x ≡ y) ⊎ OneOf x ys

-- each function that is called is known
abbrev pub CallsKnown : (ℕ → Option Function) → List Statement → Type 0
CallsKnown functions [] = Unit {0}
CallsKnown functions (says.FunctionCall t r function arguments ∷ rest) = IsSome (functions function) × CallsKnown functions rest
CallsKnown functions (s ∷ rest) = CallsKnown functions rest

-- each exit is to one of these labels or to one of a construct round it, and each function that is called is known
abbrev mutual
  pub IsClosed : (ℕ → Option Function) → (labels : List ℕ) → Body → Type 0
  IsClosed functions labels (Leaves exit) = OneOf exit.target labels
  IsClosed functions labels (Finishes words) = Unit {0}
  IsClosed functions labels (Step words body) = CallsKnown functions (said words []) × IsClosed functions labels body
  IsClosed functions labels (Enters label body) = IsClosed functions labels body
  IsClosed functions labels (Splits condition on exit body) = OneOf exit.target labels × IsClosed functions labels body
  IsClosed functions labels (Selects control condition first second merge rest) =
      IsClosed functions (merge.label ∷ labels) first × IsClosed functions (merge.label ∷ labels) second × IsClosed functions labels rest
  IsClosed functions labels (Switches control selector cases arms merge rest) =
      AreClosed functions (merge.label ∷ labels) arms × IsClosed functions labels rest
  IsClosed functions labels (Loops entry header control inner next continuing merge rest) =
      IsClosed functions (next.label ∷ header.label ∷ merge.label ∷ labels) inner
      × IsClosed functions (header.label ∷ merge.label ∷ labels) continuing
      × IsClosed functions labels rest

  pub AreClosed : (ℕ → Option Function) → (labels : List ℕ) → Arms → Type 0
  AreClosed functions labels (Last arm) = IsClosed functions labels arm
  AreClosed functions labels (Also arm arms) = IsClosed functions labels arm × AreClosed functions labels arms

-- ---- functions

abbrev pub is_parameter : Statement → Bool
is_parameter (says.FunctionParameter t r) = true
is_parameter other = false

-- behind the OpFunction stand the parameters and the first label, and behind that the body
pub record StandsFunction (all : List Statement) (functions : ℕ → Option Function) (f : ℕ) (function : Function) : Type 0 where
  pub first_block : List Statement
  pub place : behind_function all f ≡ Some (statements_in function.parameters ++ says.Label function.label ∷ first_block)
  pub parameters : AllByRecursion (λ s. is_parameter s ≡ true) (statements_in function.parameters)
  pub stands : Stands all function.label first_block function.body
  pub closed : IsClosed functions [] function.body

-- so does each function that is known
abbrev pub AllStand : List Statement → (ℕ → Option Function) → Type 0
AllStand all functions = (f : ℕ) (function : Function) → functions f ≡ Some function → StandsFunction all functions f function
