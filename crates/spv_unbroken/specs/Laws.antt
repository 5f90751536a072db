-- The laws of functions that break no rule on structured control flow, as statements.
use Rattle.std.specs.Prelude.{◌≡◌, ◌⊎◌, ℕ, ◌+◌, min, Bool, true, List, [], ◌∷◌, ◌++◌, Option, Some, None, IsSome}
use Rattle.std.specs.List.{AllByRecursion}
use Rattle.interleaving.specs.Machine.{Answer, Goes}
use Rattle.interleaving.specs.Trace.{Runs}
use Rattle.spv_module.specs.Instruction.{Instruction}
use Rattle.spv_meaning.specs.Statements as says
use Rattle.spv_meaning.specs.Statements.{Statement, said, statements_in}
use Rattle.spv_machine.specs.Setting.{Setting}
use Rattle.spv_machine.specs.State.{Value, Data, Caller, State}
use Rattle.spv_machine.specs.Steps.{behind_function}
use Rattle.spv_blocks.specs.Cutting.{blocks_of}
use Rattle.spv_walk.specs.Rules.{Broken}
use Rattle.spv_bodies.specs.Bodies.{Function}
use Rattle.spv_bodies.specs.Listing.{listed}
use Rattle.spv_tree.specs.Tree.{words_of}
use Rattle.spv_tree.specs.Sound.{IsSound}
use Rattle.spv_trees.specs.Meaning.{tree}
use Rattle.spv_trees.specs.Standing.{is_parameter, StandsFunction, CallsKnown, IsClosed}
use Rattle.spv_trees.specs.Sound.{IsSoundFunction, labels_in, Distinct}
use Rattle.spv_trees.specs.Laws.{AgreesFrom, IsTrace, IsProgram, entry, trace_from}
use Rattle.spv_structured.specs.Structured.{NamesArms}
use Rattle.spv_structured.specs.Laws.{Opens}
use Rattle.spv_unbroken.specs.Pruned.{NamesLoops, pruned_function, pruned_all}

-- The function r, a sound tree each of whose switches names its arms: its first lines are the OpFunction of r and parameters, and as it is listed, in these
-- instructions, it breaks no rule on structured control flow.
pub record IsUnbroken (is_pointer : ℕ → Bool) (r : ℕ) (f : Function) (insts : List Instruction) : Type 0 where
  pub sound : IsSound f
  pub opens : Opens f
  pub arms : NamesArms f.body
  pub function : said f.function [] ≡ says.Function r ∷ []
  pub parameters : AllByRecursion (λ s. is_parameter s ≡ true) (statements_in f.parameters)
  pub words : words_of insts ≡ listed f
  pub none : (rule at : ℕ) → Broken is_pointer (blocks_of insts) rule at → ⊥

-- it is sound to the laws of trees
abbrev pub SoundAgrees : Type 0
SoundAgrees = (is_pointer : ℕ → Bool) (r : ℕ) (f : Function) (insts : List Instruction) → IsUnbroken is_pointer r f insts → IsSoundFunction r f

-- and it stands where it is listed in a module that has no label twice, where each function that it calls is known: the machine does there what its tree does
abbrev pub UnbrokenStands : Type 0
UnbrokenStands =
    (functions : ℕ → Option Function) (is_pointer : ℕ → Bool) (r : ℕ) (f : Function) (insts : List Instruction) (first last : List (List ℕ)) →
    IsUnbroken is_pointer r f insts → CallsKnown functions (statements_in (listed f)) →
    behind_function (statements_in first) r ≡ None →
    let all = statements_in (first ++ (listed f ++ last)) in
    Distinct (labels_in all) → StandsFunction all functions r f

-- ---- arms that no case names

-- The function r, a sound tree in whose switches each arm that is a loop is named, or each of whose exits is to a construct round it: its first lines are the
-- OpFunction of r and parameters, and as it is listed, in these instructions, it breaks no rule on structured control flow.
pub record IsUnbrokenTree (is_pointer : ℕ → Bool) (r : ℕ) (f : Function) (insts : List Instruction) : Type 0 where
  pub sound : IsSound f
  pub opens : Opens f
  pub loops : NamesLoops f.body ⊎ ((functions : ℕ → Option Function) × IsClosed functions [] f.body)
  pub function : said f.function [] ≡ says.Function r ∷ []
  pub parameters : AllByRecursion (λ s. is_parameter s ≡ true) (statements_in f.parameters)
  pub words : words_of insts ≡ listed f
  pub none : (rule at : ℕ) → Broken is_pointer (blocks_of insts) rule at → ⊥

-- what is unbroken, with arms that are all named, is such a tree
abbrev pub NamedIsUnbrokenTree : Type 0
NamedIsUnbrokenTree =
    (is_pointer : ℕ → Bool) (r : ℕ) (f : Function) (insts : List Instruction) →
    IsUnbroken is_pointer r f insts → IsUnbrokenTree is_pointer r f insts

-- without the arms that no case names it is unbroken, and listed in the same instructions
abbrev pub PrunedIsUnbroken : Type 0
PrunedIsUnbroken =
    (is_pointer : ℕ → Bool) (r : ℕ) (f : Function) (insts : List Instruction) →
    IsUnbrokenTree is_pointer r f insts → IsUnbroken is_pointer r (pruned_function f) insts

-- and does what it did, as any functions do, since no selector chooses such an arm
abbrev pub PrunedDoesTheSame : Type 0
PrunedDoesTheSame =
    (c : Setting) (functions : ℕ → Option Function) (calls turns r : ℕ) (vs : List Value) (d : Data) (xs : List Answer) →
    tree c functions calls turns r vs d xs ≡ tree c (pruned_all functions) calls turns r vs d xs

-- the function r is such a tree, stands among these statements as it is listed, the first of that number, and what it calls is known
pub record IsListedIn (is_pointer : ℕ → Bool) (functions : ℕ → Option Function) (all : List Statement) (r : ℕ) (f : Function) : Type 0 where
  pub insts : List Instruction
  pub unbroken : IsUnbrokenTree is_pointer r f insts
  pub known : CallsKnown functions (statements_in (listed f))
  pub before : List (List ℕ)
  pub behind : List (List ℕ)
  pub fresh : behind_function (statements_in before) r ≡ None
  pub place : all ≡ statements_in (before ++ (listed f ++ behind))

-- so do all functions that are known, and no label stands twice
pub record AreListedIn (is_pointer : ℕ → Bool) (functions : ℕ → Option Function) (all : List Statement) : Type 0 where
  pub once : Distinct (labels_in all)
  pub each : (r : ℕ) (f : Function) → functions r ≡ Some f → IsListedIn is_pointer functions all r f

-- then the machine does what the trees do, as `AgreementLaw` of the laws of trees has it
abbrev pub UnbrokenAgrees : Type 0
UnbrokenAgrees =
    (c : Setting) (functions : ℕ → Option Function) (is_pointer : ℕ → Bool) → AreListedIn is_pointer functions c.all →
    (f : ℕ) → IsSome (functions f) → (callers : List Caller) (vs : List Value) (d : Data) (xs : List Answer) (calls turns : ℕ) →
    AgreesFrom c callers (min calls turns) (entry c callers f vs d) xs (tree c functions calls turns f vs d xs)

-- and the trees do what the machine does, as `ConverseLaw` has it
abbrev pub AgreesConversely : Type 0
AgreesConversely =
    (c : Setting) (functions : ℕ → Option Function) (is_pointer : ℕ → Bool) → AreListedIn is_pointer functions c.all →
    (f : ℕ) → IsSome (functions f) → (callers : List Caller) (vs : List Value) (d : Data) (xs : List Answer) (s : State) → entry c callers f vs d ≡ Goes s →
    (n : ℕ) → ((trace_from c s n xs).end ≡ Runs → ⊥) →
    let r = tree c functions (n + 1) (n + 1) f vs d xs in
    IsTrace c callers n (trace_from c s n xs) r.accesses r.fate

-- and each invocation that is over does what the tree of the entry point's function does, and the other way round
abbrev pub AgreesAsAWhole : Type 0
AgreesAsAWhole =
    (c : Setting) (functions : ℕ → Option Function) (is_pointer : ℕ → Bool) → AreListedIn is_pointer functions c.all →
    (f : ℕ) → c.function ≡ Some f → IsSome (functions f) → (i : ℕ) → IsProgram c functions i f
