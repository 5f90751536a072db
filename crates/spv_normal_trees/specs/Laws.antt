-- What is so of a function whose blocks spell a tree: the order of its blocks, the labels that stay, its branches to fronts, and its lines.
use Rattle.std.specs.Prelude.{◌≡◌, ℕ, true, cond, nat_eq, List, ◌∷◌, [], length, map, All, None}
use Rattle.std.specs.List.{flat_map}
use Rattle.std.specs.Map.{lookup}
use Rattle.std.specs.Option.{unwrap_or}
use Rattle.spv_module.specs.Instruction.{Instruction}
use Rattle.spv_blocks.specs.Blocks.{Code, branches, is_label, times}
use Rattle.spv_blocks.specs.Cutting.{blocks_of}
use Rattle.spv_bodies.specs.Bodies.{Function}
use Rattle.spv_bodies.specs.Listing.{Branching, arriving, branches as branches_of_body, from_block, label_line, lines}
use Rattle.spv_normal.specs.Normal.{block_lines}
use Rattle.spv_normal.specs.Order.{is_front, ordered, with_labels}
use Rattle.spv_spelling.specs.Spelling.{SpellsFunction}
use Rattle.spv_spelling.specs.Text.{Take, phis, text}
use Rattle.spv_spelling.specs.Whole.{IsAdmitted}

-- a function without line marks, in which no rule is broken, spells a tree
pub record SpellsTree (insts : List Instruction) (stays : ℕ → ℕ) (f : Function) : Type 0 where
  pub admitted : IsAdmitted insts
  pub spells : SpellsFunction insts stays f

-- in the order of the constructs each block stands once, and no other label
abbrev pub EachBlockOnce : Type 0
EachBlockOnce =
    (insts : List Instruction) (stays : ℕ → ℕ) (f : Function) → SpellsTree insts stays f
    → (l : ℕ) → times (ordered (blocks_of insts)) l ≡ cond (is_label (blocks_of insts) l) 1 0

-- the label that stays for a block, as the normal form finds it
abbrev pub stays_by : Code → ℕ → ℕ
stays_by code l = unwrap_or (lookup (nat_eq l) (with_labels code None (ordered code))) l

-- it is the one that stays where the tree is spelled
abbrev pub SameStays : Type 0
SameStays =
    (insts : List Instruction) (stays : ℕ → ℕ) (f : Function) → SpellsTree insts stays f
    → (l : ℕ) → is_label (blocks_of insts) l ≡ true → stays_by (blocks_of insts) l ≡ stays l

-- a branch with values of the tree is that of a block to a front, whose OpPhi take these values from the block; the tree names the label that stays for it
pub record IsBranching (insts : List Instruction) (stays : ℕ → ℕ) (branching : Branching) : Type 0 where
  pub block : ℕ
  pub named : branching.0 ≡ stays block
  pub branch : branches (blocks_of insts) block branching.1.target ≡ true
  pub front : is_front (blocks_of insts) branching.1.target ≡ true
  pub values : Take block (phis (text insts branching.1.target)) branching.1.values

-- these are the branches of the blocks to fronts, each once
pub record AreBranchings (insts : List Instruction) (stays : ℕ → ℕ) (all : List Branching) : Type 0 where
  pub each : All (IsBranching insts stays) all
  pub once : (l t : ℕ) → branches (blocks_of insts) l t ≡ true → is_front (blocks_of insts) t ≡ true → length (from_block (arriving t all) (stays l)) ≡ 1

abbrev pub BranchesOfBlocks : Type 0
BranchesOfBlocks =
    (insts : List Instruction) (stays : ℕ → ℕ) (f : Function) → SpellsTree insts stays f → AreBranchings insts stays (branches_of_body f.label f.body)

-- the lines of the tree are those of the blocks in the normal form, block after block in the order of the constructs
abbrev pub LinesOfBlocks : Type 0
LinesOfBlocks =
    (insts : List Instruction) (stays : ℕ → ℕ) (f : Function) → SpellsTree insts stays f
    → label_line f.label ∷ lines (branches_of_body f.label f.body) [] f.body
    ≡ flat_map (block_lines insts (blocks_of insts) (stays_by (blocks_of insts))) (map (λ l. (l, stays l)) (ordered (blocks_of insts)))
