-- What a structured body does: a recursion on its tree. It shares with the machine over statements what each operation does, and has no labels of its own.
use Rattle.std.specs.Prelude.{ℕ, zero, suc, ◌==◌, Bool, true, false, cond, List, [], ◌∷◌, ◌++◌, map, Option, Some, None}
use Rattle.interleaving.specs.Machine.{Answer}
use Rattle.spv_meaning.specs.Statements as says
use Rattle.spv_meaning.specs.Statements.{Statement, said, statements_in}
use Rattle.spv_meaning.specs.Types.{number_in}
use Rattle.spv_machine.specs.Access.{Access}
use Rattle.spv_machine.specs.Setting.{Setting}
use Rattle.spv_machine.specs.State.{Value, Data, below, bind_all, value, values, words_of_value}
use Rattle.spv_machine.specs.Operations.{Outcome, Does, Wants, Fails, outcome}
use Rattle.spv_machine.specs.Steps.{paired, chosen, passed, bind_result}
use Rattle.spv_bodies.specs.Bodies as bodies
use Rattle.spv_bodies.specs.Bodies.{Exit, Front, ByBranch, InPlace, Body, Leaves, Finishes, Step, Enters, Splits, Selects, Switches, Loops, Arms, Last, Also, Function, target}
use Rattle.spv_bodies.specs.Listing.{first_target}

-- How a part ended. It left for a label, with the values of the parameters there; it returned, maybe with a value; an answer is wanted; it ran out of turns or
-- of calls; or it is stuck. Where it goes on, with the data and the answers left.
pub data Fate : Type 0 where
  LeavesFor : (label : ℕ) → List Value → Data → List Answer → Fate
  Returns : Option Value → Data → List Answer → Fate
  Awaits : Fate
  RunsOut : Fate
  Sticks : Fate

-- the accesses that were made, and the end
pub record Result : Type 0 where
  pub accesses : List Access
  pub fate : Fate

-- what is done from some data on, where a list answers its accesses; and with values
abbrev pub Onward : Type 0
Onward = Data → List Answer → Result

abbrev pub Entry : Type 0
Entry = List Value → Onward

abbrev pub only : Fate → Result
only fate = record { accesses = []; fate = fate }

-- accesses, and then a result
abbrev pub made : List Access → Result → Result
made accesses r = record { accesses = accesses ++ r.accesses; fate = r.fate }

-- goes on with what is there
abbrev pub given : {X : Type 0} → Option X → (X → Result) → Result
given None go = only Sticks
given (Some x) go = go x

abbrev pub either : Bool → (first second : Onward) → Onward
either true first second d xs = first d xs
either false first second d xs = second d xs

-- ---- single instructions

-- an access takes the next answer
abbrev pub answered : Access → (Answer → Data) → List Answer → Onward → Result
answered a by_answer [] go = record { accesses = a ∷ []; fate = Awaits }
answered a by_answer (x ∷ xs) go = made (a ∷ []) (go (by_answer x) xs)

abbrev pub behind : Outcome → List Answer → Onward → Result
behind (Does d) xs go = go d xs
behind (Wants a by_answer) xs go = answered a by_answer xs go
behind Fails xs go = only Sticks

-- behind a call, in the frame below, where the callee returned
abbrev pub at_return : (result_id : ℕ) → Onward → List Access → Fate → Result
at_return r go accesses (Returns v d xs) = made accesses (go (bind_result r v (record d { frames = below d.frames })) xs)
at_return r go accesses (LeavesFor label vs d xs) = record { accesses = accesses; fate = Sticks }
at_return r go accesses other = record { accesses = accesses; fate = other }

abbrev pub then_return : (result_id : ℕ) → Onward → Result → Result
then_return r go callee = at_return r go callee.accesses callee.fate

-- one statement and what is behind it, where calls do this
abbrev pub does : Setting → (call : ℕ → Entry) → Statement → Data → List Answer → Onward → Result
does c call (says.FunctionCall t r function arguments) d xs go = given (values c d arguments) (λ vs. then_return r go (call function vs d xs))
does c call statement d xs go = behind (outcome c d statement) xs go

abbrev pub all_do : Setting → (call : ℕ → Entry) → List Statement → Data → List Answer → Onward → Result
all_do c call [] d xs go = go d xs
all_do c call (statement ∷ rest) d xs go = does c call statement d xs (λ e ys. all_do c call rest e ys go)

-- OpReturn, OpReturnValue or OpUnreachable
abbrev pub finishes : Setting → List Statement → Onward
finishes c (says.Return ∷ rest) d xs = only (Returns None d xs)
finishes c (says.ReturnValue id ∷ rest) d xs = given (value c d id) (λ v. only (Returns (Some v) d xs))
finishes c other d xs = only Sticks

-- ---- branches

-- out of a part, with the values of the target's parameters
abbrev pub leaves : Setting → Exit → Onward
leaves c exit d xs = given (values c d exit.values) (λ vs. only (LeavesFor exit.target vs d xs))

abbrev pub by_condition : Setting → (condition : ℕ) → (first second : Onward) → Onward
by_condition c condition first second d xs =
    given (words_of_value (value c d condition)) (λ ws. either (number_in ws == 1) first second d xs)

abbrev pub parameter_ids : Front → List ℕ
parameter_ids front = map (λ p. p.result_id) front.parameters

-- into a block, whose parameters get their values all at once
abbrev pub enters : Front → Onward → Entry
enters front go vs d xs = go (bind_all (paired (parameter_ids front) vs) d) xs

-- goes on where a part left for a label; what leaves for another does so still
abbrev pub arrives : Bool → Entry → List Access → (left_for : ℕ) → Entry
arrives true go accesses left_for vs d xs = made accesses (go vs d xs)
arrives false go accesses left_for vs d xs = record { accesses = accesses; fate = LeavesFor left_for vs d xs }

abbrev pub at_label : (label : ℕ) → Entry → List Access → Fate → Result
at_label label go accesses (LeavesFor left_for vs d xs) = arrives (left_for == label) go accesses left_for vs d xs
at_label label go accesses other = record { accesses = accesses; fate = other }

abbrev pub then_at : (label : ℕ) → Entry → Result → Result
then_at label go part = at_label label go part.accesses part.fate

-- at most n turns of a loop, whose header's parameters have their values: a turn is the header with its body, and the continue part, which may go back with
-- other values
abbrev pub turning : (n : ℕ) → (header : Front) (next : ℕ) → (inner : Onward) (continuing : Entry) → Onward
turning zero header next inner continuing d xs = only RunsOut
turning (suc n) header next inner continuing d xs =
    then_at header.label (enters header (turning n header next inner continuing)) (then_at next continuing (inner d xs))

-- into a loop: by a branch with the values of its header's parameters; where the header is in place, they have them already
abbrev pub begins : Setting → bodies.Entry → (header : Front) → (turns : Onward) → Onward
begins c (ByBranch ids) header turns d xs = given (values c d ids) (λ vs. enters header turns vs d xs)
begins c InPlace header turns d xs = turns d xs

-- ---- bodies

-- where calls do this, and each loop takes at most so many turns
abbrev mutual
  pub meaning : Setting → (call : ℕ → Entry) → (turns : ℕ) → Body → Onward
  meaning c call turns (Leaves exit) d xs = leaves c exit d xs
  meaning c call turns (Finishes words) d xs = finishes c (said words []) d xs
  meaning c call turns (Step words body) d xs = all_do c call (said words []) d xs (meaning c call turns body)
  meaning c call turns (Enters label body) d xs = meaning c call turns body d xs
  meaning c call turns (Splits condition on exit body) d xs =
      by_condition c condition
      (cond on (leaves c exit) (meaning c call turns body))
      (cond on (meaning c call turns body) (leaves c exit)) d xs
  meaning c call turns (Selects control condition first second merge rest) d xs =
      then_at merge.label (enters merge (meaning c call turns rest))
      (by_condition c condition (meaning c call turns first) (meaning c call turns second) d xs)
  meaning c call turns (Switches control selector cases arms merge rest) d xs =
      then_at merge.label (enters merge (meaning c call turns rest))
      (given (words_of_value (value c d selector)) (λ ws. meaning_at c call turns arms (chosen (number_in ws) (first_target arms) cases) d xs))
  meaning c call turns (Loops entry header control inner next continuing merge rest) d xs =
      then_at merge.label (enters merge (meaning c call turns rest))
      (begins c entry header (turning turns header next.label (meaning c call turns inner) (enters next (meaning c call turns continuing))) d xs)

  -- the first arm with a label
  pub meaning_at : Setting → (call : ℕ → Entry) → (turns : ℕ) → Arms → (label : ℕ) → Onward
  meaning_at c call turns (Last arm) label d xs = either (target arm == label) (meaning c call turns arm) (λ e ys. only Sticks) d xs
  meaning_at c call turns (Also arm arms) label d xs =
      either (target arm == label) (meaning c call turns arm) (meaning_at c call turns arms label) d xs

-- ---- functions

-- the parameters with the values that are passed, where there are as many
abbrev pub bound : Setting → (parameters : List Statement) → List Value → List (ℕ × Value) → Option (List (ℕ × Value))
bound c (says.FunctionParameter t r ∷ rest) (v ∷ vs) entries = bound c rest vs ((r, passed c r v) ∷ entries)
bound c [] [] entries = Some entries
bound c other vs entries = None

-- a function with these values, in a new frame
abbrev pub called : Setting → (ℕ → Option Function) → (Body → Onward) → (function : ℕ) → Entry
called c functions go f vs d xs =
    given (functions f) (λ function.
    given (bound c (statements_in function.parameters) vs []) (λ entries.
    go function.body (record d { frames = record { values = entries; variables = [] } ∷ d.frames }) xs))

-- what a function does, at most so many calls deep
abbrev pub tree : Setting → (functions : ℕ → Option Function) → (calls turns : ℕ) → (function : ℕ) → Entry
tree c functions zero turns = called c functions (λ body d xs. only RunsOut)
tree c functions (suc calls) turns = called c functions (meaning c (tree c functions calls turns) turns)
