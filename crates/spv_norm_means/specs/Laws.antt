-- A module and its normal form make the same accesses: laws, as statements.
use Rattle.std.specs.Prelude.{◌≡◌, ◌↔◌, ℕ, ◌==◌, false, cond, List, [], ◌∷◌, ◌++◌, length, slice_get, slice_index, Option, Some, None, IsSome, count_by}
use Rattle.std.specs.List.{flat_map}
use Rattle.spv_module.specs.Code.{Code, is_function}
use Rattle.spv_module.specs.First.{first}
use Rattle.spv_module.specs.Instruction.{Instruction}
use Rattle.spv_module.specs.Layout.{group_2}
use Rattle.spv_meaning.specs.Constants.{Specialisation, Table, decorated, table_of}
use Rattle.spv_meaning.specs.Meanings.{statements}
use Rattle.spv_meaning.specs.Statements.{Statement, statements_in, words_of}
use Rattle.spv_machine.specs.Dispatch.{Dispatch}
use Rattle.spv_machine.specs.Laws.{KeepsAccesses, KeepsSize, SameFinals}
use Rattle.spv_machine.specs.Machine.{Ends, Fits}
use Rattle.spv_machine.specs.Setting.{entry_function, size_in, array_lengths}
use Rattle.spv_blocks.specs.Cutting.{function_insts}
use Rattle.spv_machine.specs.Steps.{behind_function}
use Rattle.spv_bodies.specs.Bodies.{Function}
use Rattle.spv_bodies.specs.Listing.{listed}
use Rattle.spv_normal.specs.Lines.{without_marks}
use Rattle.spv_spelling.specs.Spelling.{SpellsFunction}
use Rattle.spv_spelling.specs.Whole.{AreInstructions, IsAdmitted}
use Rattle.spv_trees.specs.Sound.{labels_in, Distinct}
use Rattle.spv_trees.specs.Standing.{AllStand, CallsKnown}
use Rattle.spv_texts.specs.Laws.{DefinesOnce}
use Rattle.spv_standing.specs.Laws.{ApartInBlocks}
use Rattle.spv_norm.specs.Norm.{IsNorm}

-- ---- what is kept

-- the second module makes the accesses of the first under each dispatch, with the same workgroup size, and the same dispatches fit
pub record MeansAsMuch (before after : Code) : Type 0 where
  pub accesses : KeepsAccesses before after (λ s. s) (λ a. false) (λ v. Some v)
  pub size : KeepsSize before after (λ s. s)
  pub fits : (d : Dispatch) → Fits before d ↔ Fits after d

-- ---- modules whose functions stand as the same trees

-- what stands outside functions says the same
pub record SameOutside (all all2 : List Statement) : Type 0 where
  pub entries : (name : List ℕ) → entry_function all name ≡ entry_function all2 name
  pub decorations : (id kind : ℕ) → decorated all id kind ≡ decorated all2 id kind
  pub tables : (s : Specialisation) → table_of all s ≡ table_of all2 s
  pub sizes : (d : Dispatch) → size_in all d ≡ size_in all2 d
  pub lengths : (table : Table) → array_lengths all table ≡ array_lengths all2 table

abbrev pub StandAlike : Type 0
StandAlike =
    (before after : Code) (functions : ℕ → Option Function) → SameOutside (statements before) (statements after)
    → AllStand (statements before) functions → AllStand (statements after) functions
    → ((name : List ℕ) (f : ℕ) → entry_function (statements before) name ≡ Some f → IsSome (functions f))
    → MeansAsMuch before after

-- ---- a module and its normal form

-- the function with an id, by the trees of the functions; of two with one id the first counts
abbrev pub function_of : List Function → (r : ℕ) → Option Function
function_of [] r = None
function_of (f ∷ fs) r = cond (slice_index f.function 2 == r) (Some f) (function_of fs r)

-- the instructions of a function break no rule, spell the tree, and are apart
pub record ReadsAs (insts : List Instruction) (f : Function) : Type 0 where
  pub stays : ℕ → ℕ
  pub admitted : IsAdmitted (without_marks insts)
  pub spells : SpellsFunction (without_marks insts) stays f
  pub apart : ApartInBlocks (without_marks insts)

-- each function's instructions, with its tree
abbrev pub AreRead : List (List Instruction) → List Function → Type 0
AreRead [] [] = Unit {0}
AreRead (insts ∷ texts) (f ∷ fs) = ReadsAs insts f × AreRead texts fs
AreRead texts fs = ⊥

-- What the first module says is what some instructions say, among which no function begins, and then those of its functions, which spell these trees. The second
-- says the same and then the listings of the trees. Neither has a label twice, and each function that is called or entered is one of them.
pub record AreCut (before after : Code) (outside : List Instruction) (texts : List (List Instruction)) (trees : List Function) : Type 0 where
  pub first : statements before ≡ statements_in (words_of (outside ++ flat_map (λ insts. insts) texts))
  pub second : statements after ≡ statements_in (words_of outside ++ flat_map listed trees)
  pub none : (r : ℕ) → behind_function (statements_in (words_of outside)) r ≡ None
  pub read : AreRead texts trees
  pub labels : Distinct (labels_in (statements before))
  pub labels_after : Distinct (labels_in (statements after))
  pub called : CallsKnown (function_of trees) (statements before)
  pub entered : (name : List ℕ) (f : ℕ) → entry_function (statements before) name ≡ Some f → IsSome (function_of trees f)

-- then the second makes the accesses of the first
abbrev pub CutKeeps : Type 0
CutKeeps =
    (before after : Code) (outside : List Instruction) (texts : List (List Instruction)) (trees : List Function)
    → AreCut before after outside texts trees → MeansAsMuch before after

-- no rule of layout is broken, no id is defined twice, the functions spell these trees, and each function that is called or entered is one of them
pub record IsRead (code : Code) (trees : List Function) : Type 0 where
  pub end : ℕ
  pub instructions : AreInstructions code.insts
  pub laid_out : first (group_2 end code.insts) ≡ None
  pub once : DefinesOnce code.insts
  pub count : length trees ≡ count_by is_function code.insts
  pub each : (k : ℕ) (f : Function) → slice_get trees k ≡ Some f → ReadsAs (function_insts k code.insts) f
  pub called : CallsKnown (function_of trees) (statements code)
  pub entered : (name : List ℕ) (f : ℕ) → entry_function (statements code) name ≡ Some f → IsSome (function_of trees f)

-- a module's normal form makes the accesses of the module, where no label stands in it twice
abbrev pub NormKeepsOnce : Type 0
NormKeepsOnce =
    (before after : Code) (trees : List Function) → IsRead before trees → IsNorm before after → Distinct (labels_in (statements after))
    → MeansAsMuch before after

-- none does: a module's normal form makes the accesses of the module
abbrev pub NormKeeps : Type 0
NormKeeps = (before after : Code) (trees : List Function) → IsRead before trees → IsNorm before after → MeansAsMuch before after

-- so where every schedule of the module returns, every schedule of its normal form does, and both can leave the same buffers
abbrev pub NormFinals : Type 0
NormFinals =
    (before after : Code) (trees : List Function) → IsRead before trees → IsNorm before after
    → (d : Dispatch) → Fits before d → Ends before d → SameFinals before d after d
