-- The laws of trees, as statements.
use Rattle.std.specs.Prelude.{◌≡◌, ℕ, ◌+◌, ◌<◌, ◌≤◌, min, List, [], ◌++◌, Option, Some, None, IsSome}
use Rattle.interleaving.specs.Machine.{Answer, HasReturned, IsStuck, Goes, Stands}
use Rattle.interleaving.specs.Trace.{TraceEnd, Returned, Asks, Runs, Stuck, Trace, trace_of}
use Rattle.spv_meaning.specs.Statements.{statements_in}
use Rattle.spv_machine.specs.Access.{Access}
use Rattle.spv_machine.specs.Setting.{Setting}
use Rattle.spv_machine.specs.State.{Value, Data, Caller, State}
use Rattle.spv_machine.specs.Steps.{Next, given_some, behind_function, enters, returns_to, look, first_data}
use Rattle.spv_machine.specs.Machine.{trace_in}
use Rattle.spv_bodies.specs.Bodies.{Function}
use Rattle.spv_trees.specs.Meaning.{Fate, LeavesFor, Returns, Awaits, RunsOut, Sticks, Result, only, tree}
use Rattle.spv_bodies.specs.Listing.{listed}
use Rattle.spv_trees.specs.Standing.{AllStand, StandsFunction, CallsKnown}
use Rattle.spv_trees.specs.Sound.{IsSoundFunction, labels_in, Distinct}

-- accesses before a trace
abbrev pub prepended : {A : Type 0} → List A → Trace A → Trace A
prepended accesses t = record { accesses = accesses ++ t.accesses; end = t.end }

-- what the machine does from a state under these answers
abbrev pub trace_from : Setting → State → (steps : ℕ) → List Answer → Trace Access
trace_from c s steps xs = trace_of (look c) s steps xs

-- from some number of steps on it has made these accesses and come to this end
abbrev pub ComesTo : Setting → State → List Answer → List Access → TraceEnd → Type 0
ComesTo c s xs accesses end = (j : ℕ) × ((k : ℕ) → j ≤ k → trace_from c s k xs ≡ record { accesses = accesses; end = end })

-- The machine at a state, with these callers, does what a tree did. Where that returned, so does the machine, and goes on there; where that ran out, the machine
-- runs for so many steps at least.
abbrev pub Agrees : Setting → List Caller → (bound : ℕ) → State → List Answer → List Access → Fate → Type 0
Agrees c callers bound s xs accesses (LeavesFor label vs d ys) = ⊥
Agrees c callers bound s xs accesses (Returns v d ys) =
    (k : ℕ) → (j : ℕ) × (k ≤ j) × (trace_from c s j xs ≡ prepended accesses (trace_from c (returns_to callers v d) k ys))
Agrees c callers bound s xs accesses Awaits = ComesTo c s xs accesses Asks
Agrees c callers bound s xs accesses RunsOut = (k : ℕ) → k < bound → (trace_from c s k xs).end ≡ Runs
Agrees c callers bound s xs accesses Sticks = ComesTo c s xs accesses Stuck

-- what the machine does where it calls a function with these values: it is behind the first label then, or stuck
abbrev pub entry : Setting → List Caller → (function : ℕ) → List Value → Data → Next
entry c callers f vs d = given_some (behind_function c.all f) (λ rest. enters c callers rest vs [] d)

abbrev pub AgreesFrom : Setting → List Caller → (bound : ℕ) → Next → List Answer → Result → Type 0
AgreesFrom c callers bound (Goes s) xs r = Agrees c callers bound s xs r.accesses r.fate
AgreesFrom c callers bound IsStuck xs r = r ≡ only Sticks
AgreesFrom c callers bound HasReturned xs r = ⊥
AgreesFrom c callers bound (Stands a k) xs r = ⊥

-- The machine does what the tree does: functions that stand in the module, with all that they call, make the same accesses and come to the same end, with the
-- same value and data; and the tree does not run out as long as the machine does not run on for as many steps as there are turns and calls.
abbrev pub AgreementLaw : Type 0
AgreementLaw =
    (c : Setting) (functions : ℕ → Option Function) → AllStand c.all functions →
    (f : ℕ) → IsSome (functions f) → (callers : List Caller) (vs : List Value) (d : Data) (xs : List Answer) (calls turns : ℕ) →
    AgreesFrom c callers (min calls turns) (entry c callers f vs d) xs (tree c functions calls turns f vs d xs)

-- a trace that is over is what a tree did
abbrev pub IsTrace : Setting → List Caller → (steps : ℕ) → Trace Access → List Access → Fate → Type 0
IsTrace c callers steps t accesses (LeavesFor label vs d ys) = ⊥
IsTrace c callers steps t accesses (Returns v d ys) = t ≡ prepended accesses (trace_from c (returns_to callers v d) steps ys)
IsTrace c callers steps t accesses Awaits = t ≡ record { accesses = accesses; end = Asks }
IsTrace c callers steps t accesses RunsOut = ⊥
IsTrace c callers steps t accesses Sticks = t ≡ record { accesses = accesses; end = Stuck }

-- And the tree does what the machine does: where this is over within some steps, so is the tree within one call and one turn more than these.
abbrev pub ConverseLaw : Type 0
ConverseLaw =
    (c : Setting) (functions : ℕ → Option Function) → AllStand c.all functions →
    (f : ℕ) → IsSome (functions f) → (callers : List Caller) (vs : List Value) (d : Data) (xs : List Answer) (s : State) → entry c callers f vs d ≡ Goes s →
    (n : ℕ) → ((trace_from c s n xs).end ≡ Runs → ⊥) →
    let r = tree c functions (n + 1) (n + 1) f vs d xs in
    IsTrace c callers n (trace_from c s n xs) r.accesses r.fate

-- ---- an invocation as a whole

abbrev pub end_of : Fate → TraceEnd
end_of (LeavesFor label vs d ys) = Stuck
end_of (Returns v d ys) = Returned
end_of Awaits = Asks
end_of RunsOut = Runs
end_of Sticks = Stuck

abbrev pub trace_of_tree : Result → Trace Access
trace_of_tree r = record { accesses = r.accesses; end = end_of r.fate }

-- what the entry point's function does, where its tree is this
abbrev pub program_tree : Setting → (functions : ℕ → Option Function) → (invocation : ℕ) → (function calls turns : ℕ) → List Answer → Result
program_tree c functions i f calls turns xs = tree c functions calls turns f [] (first_data c i) xs

-- Each trace of an invocation that is over is that of its tree, and the other way round.
pub record IsProgram (c : Setting) (functions : ℕ → Option Function) (i f : ℕ) : Type 0 where
  pub trace : (n : ℕ) (xs : List Answer) → ((trace_in c i n xs).end ≡ Runs → ⊥) → trace_in c i n xs ≡ trace_of_tree (program_tree c functions i f (n + 1) (n + 1) xs)
  pub tree :
      (calls turns : ℕ) (xs : List Answer) → let t = trace_of_tree (program_tree c functions i f calls turns xs) in
      (t.end ≡ Runs → ⊥) → (j : ℕ) × ((k : ℕ) → j ≤ k → trace_in c i k xs ≡ t)

abbrev pub ProgramLaw : Type 0
ProgramLaw = (c : Setting) (functions : ℕ → Option Function) → AllStand c.all functions → (f : ℕ) → c.function ≡ Some f → IsSome (functions f) → (i : ℕ) → IsProgram c functions i f

-- ---- bounds

-- what a tree does within some bounds, it does within greater ones
abbrev pub BoundsLaw : Type 0
BoundsLaw =
    (c : Setting) (functions : ℕ → Option Function) (calls turns calls2 turns2 : ℕ) → calls ≤ calls2 → turns ≤ turns2 →
    (f : ℕ) (vs : List Value) (d : Data) (xs : List Answer) →
    ((tree c functions calls turns f vs d xs).fate ≡ RunsOut → ⊥) →
    tree c functions calls2 turns2 f vs d xs ≡ tree c functions calls turns f vs d xs

-- ---- listings

-- The instructions of a sound function, as they are listed, stand as its tree says, wherever they stand in a module that has no label twice; each function that
-- they call is to be known.
abbrev pub ListingLaw : Type 0
ListingLaw =
    (functions : ℕ → Option Function) (r : ℕ) (f : Function) (first last : List (List ℕ)) →
    IsSoundFunction r f → CallsKnown functions (statements_in (listed f)) →
    behind_function (statements_in first) r ≡ None →
    let all = statements_in (first ++ (listed f ++ last)) in
    Distinct (labels_in all) → StandsFunction all functions r f
