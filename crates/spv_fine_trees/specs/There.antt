-- What is available in the blocks of a function, by the ways to them.
use Rattle.std.specs.Prelude.{◌≡◌, ◌⊎◌, ℕ, ◌==◌, ◌||◌, true, false, List, ◌∷◌, ◌++◌, slice_index}
use Rattle.spv_opcodes.specs.declared.op.TheConstants as op
use Rattle.spv_module.specs.Instruction.{Instruction}
use Rattle.spv_blocks.specs.Blocks.{has}
use Rattle.spv_blocks.specs.Cutting.{blocks_of}
use Rattle.spv_spelling.specs.Text.{is_phi, phi_pairs, text}
use Rattle.spv_tree.specs.Sound.{is_end, is_step, opcode_in}
use Rattle.spv_trees.specs.Standing.{OneOf}
use Rattle.spv_ways.specs.Ways.{AllPass}
use Rattle.spv_fine.specs.Fine.{Ids, defined_in, used_in}
use Rattle.spv_fine.specs.Laws.{IsDefinedIn}

-- What is promised at a label of a function: a block that every way to the label has passed defines the id.
pub record IsPromised (insts : List Instruction) (label id : ℕ) : Type 0 where
  pub block : ℕ
  pub passed : AllPass (blocks_of insts) block label
  pub defined : IsDefinedIn insts block id

-- one of these lines, an OpPhi or a step, defines the id
pub record IsDefinedBy (lines : List (List ℕ)) (id : ℕ) : Type 0 where
  pub line : List ℕ
  pub stands : OneOf line lines
  pub defines : ((is_step (opcode_in line) ≡ true) × (has (defined_in line) id ≡ true)) ⊎ ((is_phi line ≡ true) × (slice_index line 2 ≡ id))

-- what is available in the block l behind these lines of it, where some ids are free
abbrev pub IsThere : List Instruction → (Free : Ids) → (l : ℕ) → (front : List (List ℕ)) → Ids
IsThere insts Free l front id = Free id ⊎ (IsPromised insts l id ⊎ IsDefinedBy front id)

-- an id is used as a value, and not as a label: by a step, by a return, or by a branch that is decided by it
pub data IsValue (line : List ℕ) (id : ℕ) : Type 0 where
  OfStep : is_step (opcode_in line) ≡ true → IsValue line id
  OfEnd : is_end (opcode_in line) ≡ true → IsValue line id
  Decides : (opcode_in line == op.BRANCH_CONDITIONAL || opcode_in line == op.SWITCH) ≡ true → slice_index line 1 ≡ id → IsValue line id

-- Each line of a block uses as values what is available there, an OpPhi each value at the end of the block that is named with it; and the type of each OpPhi is free.
pub record UsesWhatIsThere (insts : List Instruction) (Free : Ids) : Type 0 where
  pub plain : (l : ℕ) (front : List (List ℕ)) (line : List ℕ) (rest : List (List ℕ)) → text insts l ≡ front ++ line ∷ rest → is_phi line ≡ false
      → (id : ℕ) → OneOf id (used_in line) → IsValue line id → IsThere insts Free l front id
  pub values : (l : ℕ) (line : List ℕ) → OneOf line (text insts l) → is_phi line ≡ true → (pair : ℕ × ℕ) → OneOf pair (phi_pairs line)
      → IsThere insts Free pair.1 (text insts pair.1) pair.0
  pub types : (l : ℕ) (line : List ℕ) → OneOf line (text insts l) → is_phi line ≡ true → Free (slice_index line 1)
