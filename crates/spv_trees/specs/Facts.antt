-- Small functions, to try the definitions on.
use Rattle.std.specs.Prelude.{◌≡◌, ℕ, ◌==◌, Bool, false, cond, List, [], ◌∷◌, ◌++◌, length, Option, Some, None}
use Rattle.interleaving.specs.Machine.{Answer}
use Rattle.spv_opcodes.specs.declared.op.TheConstants as op
use Rattle.spv_meaning.specs.Statements as says
use Rattle.spv_meaning.specs.Statements.{Statement, statements_in}
use Rattle.spv_meaning.specs.Computations.{Evaluates}
use Rattle.spv_machine.specs.Access.{Access}
use Rattle.spv_machine.specs.Setting.{setting}
use Rattle.spv_machine.specs.State.{Value}
use Rattle.spv_machine.specs.Doubling.{on}
use Rattle.spv_machine.specs.Facts.{module_of, at_word, doubling_store, no_data}
use Rattle.spv_bodies.specs.Bodies.{Exit, Parameter, Front, ByBranch, InPlace, Body, Leaves, Finishes, Step, Enters, Splits, Selects, Switches, Loops, Last, Also, Function}
use Rattle.spv_bodies.specs.Listing.{instruction, listed}
use Rattle.spv_trees.specs.Meaning.{Fate, LeavesFor, Returns, Awaits, RunsOut, Sticks, Result, tree}

-- ---- words and parts

abbrev pub to : ℕ → List ℕ → Exit
to label ids = record { target = label; values = ids }

abbrev pub leave : ℕ → List ℕ → Body
leave label ids = Leaves (to label ids)

abbrev pub parameter : ℕ → Parameter
parameter id = record { type = 20; result_id = id; parents = [] }

abbrev pub front : ℕ → List Parameter → Front
front label parameters = record { label = label; parameters = parameters }

abbrev pub stores : ℕ → Body → Body
stores id body = Step (instruction op.STORE (30 ∷ id ∷ [])) body

abbrev pub returns : Body
returns = Finishes (instruction op.RETURN [])

abbrev pub calls : (result_id function argument : ℕ) → Body → Body
calls r f argument body = Step (instruction op.FUNCTION_CALL (20 ∷ r ∷ f ∷ argument ∷ [])) body

abbrev pub function_of : (id : ℕ) → (parameters : List (List ℕ)) → (label : ℕ) → Body → Function
function_of id parameters label body = record { function = instruction op.FUNCTION (20 ∷ id ∷ 0 ∷ 25 ∷ []); parameters = parameters; label = label; body = body }

-- ---- bodies

-- by a condition 1 or 2, which is stored
abbrev pub choosing : (condition : ℕ) → Body
choosing condition =
    Selects 0 condition (Enters 3 (leave 5 (31 ∷ []))) (Enters 4 (leave 5 (32 ∷ []))) (front 5 (parameter 10 ∷ [])) (stores 10 returns)

-- out of an arm at once, by a condition that is to be true or false
abbrev pub splitting : (on : Bool) → (condition : ℕ) → Body
splitting on condition =
    Selects 0 33 (Enters 3 (Splits condition on (to 5 (31 ∷ [])) (Enters 4 (leave 5 (32 ∷ []))))) (leave 5 (32 ∷ [])) (front 5 (parameter 10 ∷ [])) (stores 10 returns)

-- a loop of two turns whose parameters give each other their values, and which is left in the middle of the second
abbrev pub swapping : Body
swapping =
    Loops (ByBranch (31 ∷ 32 ∷ 33 ∷ [])) (front 3 (parameter 10 ∷ parameter 11 ∷ parameter 12 ∷ [])) 0
    (Splits 12 false (to 6 (11 ∷ [])) (Enters 4 (leave 5 [])))
    (front 5 []) (leave 3 (11 ∷ 10 ∷ 34 ∷ []))
    (front 6 (parameter 13 ∷ [])) (stores 13 returns)

-- An arm by a condition, which carries 1, or a loop as the other arm, which carries 2. They merge at the header of a loop of two turns, which stores what it gets:
-- the second turn gets 2 from behind a loop whose header is the continue target.
abbrev pub headed : Front
headed = front 5 (parameter 10 ∷ parameter 13 ∷ [])

abbrev pub placing : (condition : ℕ) → Body
placing condition =
    Selects 0 condition (leave 5 (31 ∷ 33 ∷ []))
    (Loops (ByBranch (32 ∷ [])) (front 3 (parameter 11 ∷ [])) 0 (leave 6 (11 ∷ [])) (front 4 []) (leave 3 (11 ∷ [])) (front 6 (parameter 12 ∷ [])) (leave 5 (12 ∷ 33 ∷ [])))
    headed
    (Loops InPlace headed 0 (stores 10 (Splits 13 false (to 14 []) (Enters 15 (leave 16 []))))
    (front 16 [])
    (Loops InPlace (front 16 []) 0 (leave 17 []) (front 18 []) (leave 16 []) (front 17 []) (leave 5 (32 ∷ 34 ∷ [])))
    (front 14 []) returns)

-- a switch whose arms store 1 or 2; the first of two cases with one literal counts
abbrev pub switching : (selector : ℕ) → Body
switching selector =
    Switches 0 selector ((1, 3) ∷ (1, 4) ∷ (2, 4) ∷ []) (Also (leave 5 []) (Also (Enters 3 (stores 31 (leave 5 []))) (Last (Enters 4 (stores 32 (leave 5 []))))))
    (front 5 []) returns

-- the function 7 is called twice, and the second result is stored, then the first
abbrev pub calling : Body
calling = calls 10 7 31 (calls 11 7 32 (stores 11 (stores 10 returns)))

-- the function 7 adds 1 to its parameter
abbrev pub adding : Function
adding =
    function_of 7 (instruction op.FUNCTION_PARAMETER (20 ∷ 8 ∷ []) ∷ []) 9
    (Step (instruction op.I_ADD (20 ∷ 10 ∷ 8 ∷ 31 ∷ [])) (Finishes (instruction op.RETURN_VALUE (10 ∷ []))))

-- ---- what they do

abbrev pub functions_of : Body → ℕ → Option Function
functions_of body f = cond (f == 1) (Some (function_of 1 [] 2 body)) (cond (f == 7) (Some adding) None)

-- the function 1 with this body, on a buffer of one word
abbrev pub run : (calls turns : ℕ) → Body → List Answer → Result
run depth turns body xs = tree (setting (module_of []) (on (0 ∷ []))) (functions_of body) depth turns 1 [] no_data xs

-- how it ended: with a value, with so many frames, and with these answers left
pub data Seen : Type 0 where
  Returned : Option Value → (frames : ℕ) → List Answer → Seen
  Left : ℕ → Seen
  Asks : Seen
  Runs : Seen
  Stuck : Seen

abbrev pub seen : Fate → Seen
seen (LeavesFor label vs d xs) = Left label
seen (Returns v d xs) = Returned v (length d.frames) xs
seen Awaits = Asks
seen RunsOut = Runs
seen Sticks = Stuck

-- these words are stored one after another, and then it ends so
abbrev pub stored : List ℕ → List Access
stored [] = []
stored (word ∷ words) = doubling_store (at_word 0) word ∷ stored words

abbrev pub Does : Result → (words : List ℕ) → Seen → Type 0
Does r words end = (r.accesses ≡ stored words) × (seen r.fate ≡ end)

-- ---- a module as it may be written, with a block that could be joined

-- the function 1 branches to a block whose two OpPhi have one block each, which calls the function 7; a selection follows
abbrev pub as_written : List Statement
as_written =
    says.Function 1
    ∷ says.Label 2
    ∷ says.Branch 12
    ∷ says.Label 12
    ∷ says.Phi 20 13 ((31, 2) ∷ [])
    ∷ says.Phi 20 14 ((32, 2) ∷ [])
    ∷ says.FunctionCall 20 15 7 (14 ∷ [])
    ∷ says.Merge
    ∷ says.BranchConditional 33 3 5
    ∷ says.Label 3
    ∷ says.Branch 5
    ∷ says.Label 5
    ∷ says.Phi 20 10 ((13, 12) ∷ (15, 3) ∷ [])
    ∷ says.Store 30 10 []
    ∷ says.Return
    ∷ says.FunctionEnd
    ∷ says.Function 7
    ∷ says.FunctionParameter 20 8
    ∷ says.Label 9
    ∷ says.Operation (Evaluates op.I_ADD) 20 10 (8 ∷ 31 ∷ [])
    ∷ says.ReturnValue 10
    ∷ says.FunctionEnd
    ∷ []

abbrev pub copy : (result_id source : ℕ) → Body → Body
copy r source body = Step (instruction op.COPY_OBJECT (20 ∷ r ∷ source ∷ [])) body

abbrev pub as_parsed : Body
as_parsed =
    copy 13 31 (copy 14 32 (calls 15 7 14
    (Selects 0 33 (Enters 3 (leave 5 (15 ∷ []))) (leave 5 (13 ∷ [])) (front 5 (parameter 10 ∷ [])) (stores 10 returns))))

-- ---- a module as it is listed

abbrev pub as_listed : Body → List Statement
as_listed body = statements_in (listed (function_of 1 [] 2 body) ++ listed adding)
