-- A function whose instructions spell a tree stands in its module as that tree: laws, as statements.
use Rattle.std.specs.Prelude.{◌≡◌, ℕ, ◌+◌, min, true, false, List, [], ◌∷◌, ◌++◌, map, slice_index, Option, Some, None, IsSome}
use Rattle.interleaving.specs.Machine.{Answer, Goes}
use Rattle.interleaving.specs.Trace.{Runs}
use Rattle.spv_module.specs.Instruction.{Instruction}
use Rattle.spv_meaning.specs.Statements as says
use Rattle.spv_meaning.specs.Statements.{Statement, said, statements_in, words_of}
use Rattle.spv_machine.specs.Setting.{Setting}
use Rattle.spv_machine.specs.State.{Value, Data, Caller, State}
use Rattle.spv_machine.specs.Steps.{behind_function}
use Rattle.spv_blocks.specs.Blocks.{is_label}
use Rattle.spv_blocks.specs.Cutting.{blocks_of}
use Rattle.spv_bodies.specs.Bodies.{Function}
use Rattle.spv_normal.specs.Lines.{without_marks}
use Rattle.spv_normal.specs.Order.{is_front}
use Rattle.spv_spelling.specs.Text.{text, phis}
use Rattle.spv_spelling.specs.Spelling.{SpellsFunction}
use Rattle.spv_spelling.specs.Whole.{IsAdmitted}
use Rattle.spv_trees.specs.Standing.{Apart, CallsKnown, StandsFunction, AllStand}
use Rattle.spv_trees.specs.Sound.{labels_in, Distinct}
use Rattle.spv_trees.specs.Meaning.{tree}
use Rattle.spv_trees.specs.Laws.{trace_from, entry, AgreesFrom, IsTrace, IsProgram}

-- ---- OpPhi of blocks that are joined or entered

-- the results of OpPhi, and the first value of each
abbrev pub results : List (List ℕ) → List ℕ
results phis = map (λ words. slice_index words 2) phis

abbrev pub first_values : List (List ℕ) → List ℕ
first_values phis = map (λ words. slice_index words 3) phis

-- no OpPhi of a block that is no merge block, continue target or loop's header names the result of an OpPhi before it in that block
pub record ApartInBlocks (insts : List Instruction) : Type 0 where
  pub apart : (t : ℕ) → is_label (blocks_of insts) t ≡ true → is_front (blocks_of insts) t ≡ false
      → Apart (results (phis (text insts t))) (first_values (phis (text insts t)))

-- ---- the laws

-- Wherever the instructions of a function stand in a module that has no label twice and not the function before, what they spell stands; each function that they
-- call is to be known.
abbrev pub SpelledStands : Type 0
SpelledStands =
    (functions : ℕ → Option Function) (r : ℕ) (f : Function) (stays : ℕ → ℕ) (first insts last : List Instruction)
    → IsAdmitted (without_marks insts) → SpellsFunction (without_marks insts) stays f → ApartInBlocks (without_marks insts)
    → said f.function [] ≡ says.Function r ∷ [] → CallsKnown functions (statements_in (words_of insts))
    → behind_function (statements_in (words_of first)) r ≡ None
    → let all = statements_in (words_of (first ++ (insts ++ last))) in
    Distinct (labels_in all) → StandsFunction all functions r f

-- the function r is spelled by instructions of the module
pub record IsSpelled (all : List Statement) (functions : ℕ → Option Function) (r : ℕ) (f : Function) : Type 0 where
  pub first : List Instruction
  pub insts : List Instruction
  pub last : List Instruction
  pub stays : ℕ → ℕ
  pub whole : all ≡ statements_in (words_of (first ++ (insts ++ last)))
  pub admitted : IsAdmitted (without_marks insts)
  pub spells : SpellsFunction (without_marks insts) stays f
  pub apart : ApartInBlocks (without_marks insts)
  pub function : said f.function [] ≡ says.Function r ∷ []
  pub calls : CallsKnown functions (statements_in (words_of insts))
  pub absent : behind_function (statements_in (words_of first)) r ≡ None

-- so is each function that is known
abbrev pub AllSpelled : List Statement → (ℕ → Option Function) → Type 0
AllSpelled all functions = (r : ℕ) (f : Function) → functions r ≡ Some f → IsSpelled all functions r f

-- functions that are spelled stand, with all that they call
abbrev pub AllSpelledStand : Type 0
AllSpelledStand = (all : List Statement) (functions : ℕ → Option Function) → Distinct (labels_in all) → AllSpelled all functions → AllStand all functions

-- ---- tree and machine

-- So they do in the machine what their trees mean: a call makes the accesses of the tree and comes to its end,
abbrev pub SpelledAgrees : Type 0
SpelledAgrees =
    (c : Setting) (functions : ℕ → Option Function) → Distinct (labels_in c.all) → AllSpelled c.all functions
    → (f : ℕ) → IsSome (functions f) → (callers : List Caller) (vs : List Value) (d : Data) (xs : List Answer) (calls turns : ℕ)
    → AgreesFrom c callers (min calls turns) (entry c callers f vs d) xs (tree c functions calls turns f vs d xs)

-- where the machine is over, so is the tree, with the same accesses and the same end,
abbrev pub SpelledConverse : Type 0
SpelledConverse =
    (c : Setting) (functions : ℕ → Option Function) → Distinct (labels_in c.all) → AllSpelled c.all functions
    → (f : ℕ) → IsSome (functions f) → (callers : List Caller) (vs : List Value) (d : Data) (xs : List Answer) (s : State) → entry c callers f vs d ≡ Goes s
    → (n : ℕ) → ((trace_from c s n xs).end ≡ Runs → ⊥)
    → let r = tree c functions (n + 1) (n + 1) f vs d xs in
    IsTrace c callers n (trace_from c s n xs) r.accesses r.fate

-- and the traces of an invocation that are over are those of the tree of the entry point's function.
abbrev pub SpelledProgram : Type 0
SpelledProgram =
    (c : Setting) (functions : ℕ → Option Function) → Distinct (labels_in c.all) → AllSpelled c.all functions
    → (f : ℕ) → c.function ≡ Some f → IsSome (functions f) → (i : ℕ) → IsProgram c functions i f
