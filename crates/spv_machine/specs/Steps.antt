-- What an invocation does next.
use Rattle.std.specs.Prelude.{ℕ, cond, ◌==◌, List, [], ◌∷◌, ◌++◌, Option, Some, None}
use Rattle.spv_opcodes.specs.declared.storage_class.TheConstants as storage_class
use Rattle.interleaving.specs.Machine.{Move, HasReturned, IsStuck, Goes, Stands, Program}
use Rattle.spv_meaning.specs.Statements as says
use Rattle.spv_meaning.specs.Statements.{Statement}
use Rattle.spv_meaning.specs.Types.{number_in}
use Rattle.spv_machine.specs.Access.{Access}
use Rattle.spv_meaning.specs.Constants.{Table, Meaning, IsVariable}
use Rattle.spv_machine.specs.Setting.{Setting, workgroup_id, local_id}
use Rattle.spv_machine.specs.State.{Value, Words, Points, Data, Caller, State, At, Over, below, bind, bind_all, is_volatile_id, value, some_cons, values, words_of_value}
use Rattle.spv_machine.specs.Operations.{Outcome, Does, Wants, Fails, outcome}

abbrev pub Next : Type 0
Next = Move State Access

-- goes on with what is there
abbrev pub given_some : {X : Type 0} → Option X → (X → Next) → Next
given_some None go = IsStuck
given_some (Some x) go = go x

-- ---- places in the module

-- what stands behind the label of a block
abbrev pub behind_label : List Statement → (label : ℕ) → Option (List Statement)
behind_label [] label = None
behind_label (says.Label r ∷ rest) label = cond (r == label) (Some rest) (behind_label rest label)
behind_label (s ∷ rest) label = behind_label rest label

-- what stands behind the OpFunction of a function
abbrev pub behind_function : List Statement → (function : ℕ) → Option (List Statement)
behind_function [] function = None
behind_function (says.Function r ∷ rest) function = cond (r == function) (Some rest) (behind_function rest function)
behind_function (s ∷ rest) function = behind_function rest function

-- ---- branches

-- the id that an OpPhi takes from a block
abbrev pub from_block : List (ℕ × ℕ) → (block : ℕ) → Option ℕ
from_block [] block = None
from_block (pair ∷ pairs) block = cond (pair.1 == block) (Some pair.0) (from_block pairs block)

-- the results of the OpPhi in front, and the ids that they take from a block
abbrev pub phi_results : List Statement → List ℕ
phi_results (says.Phi t r pairs ∷ rest) = r ∷ phi_results rest
phi_results other = []

abbrev pub phi_sources : List Statement → (block : ℕ) → Option (List ℕ)
phi_sources (says.Phi t r pairs ∷ rest) block = some_cons (from_block pairs block) (phi_sources rest block)
phi_sources other block = Some []

abbrev pub behind_phis : List Statement → List Statement
behind_phis (says.Phi t r pairs ∷ rest) = behind_phis rest
behind_phis other = other

abbrev pub paired : List ℕ → List Value → List (ℕ × Value)
paired (r ∷ rs) (v ∷ vs) = (r, v) ∷ paired rs vs
paired rs vs = []

-- from a block to behind the OpPhi of another, which get their values all at once
abbrev pub branches : Setting → List Caller → (block : ℕ) → Data → (label : ℕ) → Next
branches c callers block d label =
    given_some (behind_label c.all label) (λ target.
    given_some (phi_sources target block) (λ ids.
    given_some (values c d ids) (λ vs.
    Goes (At callers (behind_phis target) label (bind_all (paired (phi_results target) vs) d)))))

-- the target of the first case of an OpSwitch with this literal, else the default
abbrev pub chosen : (word default : ℕ) → (cases : List (ℕ × ℕ)) → ℕ
chosen word default [] = default
chosen word default (c ∷ cs) = cond (c.0 == word) c.1 (chosen word default cs)

-- ---- calls

-- a parameter has the argument's words or place; it is volatile where it is decorated so
abbrev pub passed : Setting → (parameter : ℕ) → Value → Value
passed c parameter (Words t ws) = Words t ws
passed c parameter (Points p) = Points (record p { volatile = is_volatile_id c parameter })

-- behind the parameters and the first label of a function, in a new frame
abbrev pub enters : Setting → List Caller → List Statement → List Value → List (ℕ × Value) → Data → Next
enters c callers (says.FunctionParameter t r ∷ rest) (v ∷ vs) bound d = enters c callers rest vs ((r, passed c r v) ∷ bound) d
enters c callers (says.Label r ∷ rest) [] bound d =
    Goes (At callers rest r (record d { frames = record { values = bound; variables = [] } ∷ d.frames }))
enters c callers other vs bound d = IsStuck

-- a call's result, where the callee has a value
abbrev pub bind_result : (result_id : ℕ) → Option Value → Data → Data
bind_result r None d = d
bind_result r (Some v) d = bind r v d

-- back behind the call, in the frame below
abbrev pub returns_to : List Caller → Option Value → Data → State
returns_to [] v d = Over
returns_to (caller ∷ callers) v d = At callers caller.rest caller.block (bind_result caller.result_id v (record d { frames = below d.frames }))

-- ---- one step

abbrev pub goes_on : List Caller → List Statement → (block : ℕ) → Outcome → Next
goes_on callers rest block (Does d) = Goes (At callers rest block d)
goes_on callers rest block (Wants access by_answer) = Stands access (λ answer. At callers rest block (by_answer answer))
goes_on callers rest block Fails = IsStuck

abbrev pub acts : Setting → List Caller → (block : ℕ) → Data → List Statement → Next
acts c callers block d [] = IsStuck
acts c callers block d (says.Merge ∷ rest) = Goes (At callers rest block d)
acts c callers block d (says.Branch target ∷ rest) = branches c callers block d target
acts c callers block d (says.BranchConditional condition target other ∷ rest) =
    given_some (words_of_value (value c d condition)) (λ ws. branches c callers block d (cond (number_in ws == 1) target other))
acts c callers block d (says.Switch selector default cases ∷ rest) =
    given_some (words_of_value (value c d selector)) (λ ws. branches c callers block d (chosen (number_in ws) default cases))
acts c callers block d (says.Return ∷ rest) = Goes (returns_to callers None d)
acts c callers block d (says.ReturnValue result_id ∷ rest) = given_some (value c d result_id) (λ v. Goes (returns_to callers (Some v) d))
acts c callers block d (says.FunctionCall t r function arguments ∷ rest) =
    given_some (behind_function c.all function) (λ callee.
    given_some (values c d arguments) (λ vs.
    enters c (record { rest = rest; block = block; result_id = r } ∷ callers) callee vs [] d))
acts c callers block d (statement ∷ rest) = goes_on callers rest block (outcome c d statement)

unfoldable pub look : Setting → State → Next
look c (At callers rest block d) = acts c callers block d rest
look c Over = HasReturned

-- ---- the beginning

-- the words that Private variables begin with
abbrev pub private_of : ℕ → Meaning → List (ℕ × List ℕ)
private_of r (IsVariable class target words) = cond (class == storage_class.PRIVATE) ((r, words) ∷ []) []
private_of r m = []

abbrev pub first_privates : Table → List (ℕ × List ℕ)
first_privates [] = []
first_privates (e ∷ es) = private_of e.0 e.1 ++ first_privates es

abbrev pub first_data : Setting → ℕ → Data
first_data c i = record { frames = []; privates = first_privates c.table; group = workgroup_id c i; local = local_id c i }

-- the state that a function is entered in; where there is none, one that is stuck
abbrev pub entered : Data → Next → State
entered d (Goes s) = s
entered d other = At [] [] 0 d

abbrev pub entry_next : Setting → Data → Option ℕ → Next
entry_next c d None = IsStuck
entry_next c d (Some function) = given_some (behind_function c.all function) (λ body. enters c [] body [] [] d)

-- behind the label of the first block of the entry point's function
unfoldable pub first_state : Setting → ℕ → State
first_state c i = entered (first_data c i) (entry_next c (first_data c i) c.function)

abbrev pub program : Setting → Program State Access
program c = record { first = first_state c; look = look c }
