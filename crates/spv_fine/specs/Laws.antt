-- What is promised in a fine tree is so in the blocks: laws, as statements.
use Rattle.std.specs.Prelude.{◌≡◌, ◌⊎◌, ℕ, ◌+◌, Bool, true, false, List, [], ◌∷◌, ◌++◌, length, slice_get, slice_index, Some}
use Rattle.std.specs.List.{Contains, flat_map}
use Rattle.spv_module.specs.Instruction.{Instruction}
use Rattle.spv_ids.specs.Ids.{definition, place_of}
use Rattle.spv_blocks.specs.Blocks.{has, names}
use Rattle.spv_blocks.specs.Cutting.{blocks_of}
use Rattle.spv_bodies.specs.Bodies.{Function}
use Rattle.spv_bodies.specs.Listing.{Branching, branches, listed}
use Rattle.spv_normal.specs.Order.{is_front}
use Rattle.spv_tree.specs.Sound.{is_step, opcode_in}
use Rattle.spv_spelling.specs.Spelling.{SpellsFunction}
use Rattle.spv_spelling.specs.Text.{is_phi, phis, text}
use Rattle.spv_spelling.specs.Whole.{AreInstructions, IsAdmitted}
use Rattle.spv_texts.specs.Laws.{DefinesOnce}
use Rattle.spv_tree.specs.Tree.{words_of}
use Rattle.spv_trees.specs.Standing.{OneOf}
use Rattle.spv_ways.specs.Ways.{Way}
use Rattle.spv_availability.specs.Availability.{AreAvailable, is_everywhere}
use Rattle.spv_availability.specs.Places.{function_of}
use Rattle.spv_fine.specs.Fine.{Ids, IsFine, With, defined_in}

-- each label stays
abbrev pub stay : ℕ → ℕ
stay l = l

-- a line of the block, an OpPhi or one of what stands behind, defines the id
pub record IsDefinedIn (insts : List Instruction) (block id : ℕ) : Type 0 where
  pub line : List ℕ
  pub stands : OneOf line (text insts block)
  pub defines : ((is_step (opcode_in line) ≡ true) × (has (defined_in line) id ≡ true)) ⊎ ((is_phi line ≡ true) × (slice_index line 2 ≡ id))

-- no block but one with a front begins with OpPhi, as in the listing of a tree
abbrev pub NoPhisJoined : List Instruction → Type 0
NoPhisJoined insts = (t : ℕ) → is_front (blocks_of insts) t ≡ false → phis (text insts t) ≡ []

-- some blocks define the id
pub record IsDefinedAmong (insts : List Instruction) (passed : List ℕ) (id : ℕ) : Type 0 where
  pub block : ℕ
  pub among : Contains passed block
  pub defined : IsDefinedIn insts block id

-- a test as ids
abbrev pub Told : (ℕ → Bool) → Ids
Told test id = test id ≡ true

-- What a branch of a fine function carries, and what its target promises if that is a merge block or continue target, is known, a parameter, or defined in a
-- block that every way up to the end of the branch's block has passed.
abbrev pub SentIsPassed : Type 0
SentIsPassed =
    (insts : List Instruction) (f : Function) (known : ℕ → Bool) (promised : ℕ → ℕ → Bool) → IsAdmitted insts → SpellsFunction insts stay f → NoPhisJoined insts
    → IsFine (Told known) (λ label. Told (promised label)) f
    → (sent : Branching) → OneOf sent (branches f.label f.body)
    → (id : ℕ) → ((names (blocks_of insts) sent.1.target ≡ 1) × (promised sent.1.target id ≡ true)) ⊎ OneOf id sent.1.values
    → (passed : List ℕ) → Way (blocks_of insts) passed sent.0
    → With (Told known) (flat_map defined_in f.parameters) id ⊎ IsDefinedAmong insts (sent.0 ∷ passed) id

-- ---- in a module

-- what is available everywhere: what stands outside functions, functions and labels; of an id that is defined twice the first definition counts
pub record IsKnown (insts : List Instruction) (id : ℕ) : Type 0 where
  pub at : ℕ
  pub inst : Instruction
  pub is_at : place_of insts id ≡ Some at
  pub is : definition insts id ≡ Some inst
  pub everywhere : (function_of insts at ≡ 0) ⊎ (is_everywhere inst ≡ true)

-- The instructions of a function stand in a module in which no id is defined twice, they have the words of a tree's listing and spell the tree. Where the
-- tree is fine, each uses what is available there.
abbrev pub FineIsAvailable : Type 0
FineIsAvailable =
    (before again after : List Instruction) (f : Function) (promised : ℕ → ℕ → Bool) → DefinesOnce (before ++ (again ++ after)) → IsAdmitted again
    → SpellsFunction again stay f → words_of again ≡ listed f → IsFine (IsKnown (before ++ (again ++ after))) (λ label. Told (promised label)) f
    → (k : ℕ) (i : Instruction) → slice_get again k ≡ Some i → AreAvailable (before ++ (again ++ after)) (length before + k) i

-- So it is with the listing of the tree that a function spells, whatever labels stay there.
abbrev pub ListingIsAvailable : Type 0
ListingIsAvailable =
    (texts : List Instruction) (stays : ℕ → ℕ) (f : Function) → IsAdmitted texts → SpellsFunction texts stays f
    → (before again after : List Instruction) (promised : ℕ → ℕ → Bool) → DefinesOnce (before ++ (again ++ after)) → AreInstructions again
    → words_of again ≡ listed f → IsFine (IsKnown (before ++ (again ++ after))) (λ label. Told (promised label)) f
    → (k : ℕ) (i : Instruction) → slice_get again k ≡ Some i → AreAvailable (before ++ (again ++ after)) (length before + k) i
