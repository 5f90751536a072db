-- The lines of a block, and what its OpPhi say: values, parameters and copies.
use Rattle.std.specs.Prelude.{◌≡◌, ℕ, ◌==◌, Bool, cond, not, List, [], ◌∷◌, map, filter, find, drop, slice_index, Option, Some}
use Rattle.std.specs.Option.{option_map}
use Rattle.spv_opcodes.specs.declared.op.TheConstants as op
use Rattle.spv_module.specs.Instruction.{Instruction}
use Rattle.spv_blocks.specs.Blocks.{seconds}
use Rattle.spv_blocks.specs.Cutting.{pairs}
use Rattle.spv_bodies.specs.Bodies.{Parameter, Front, Body, Step}
use Rattle.spv_bodies.specs.Listing.{instruction}
use Rattle.spv_normal.specs.Lines.{line, block_insts}
use Rattle.spv_tree.specs.Sound.{opcode_in}

-- the lines behind the label of a block, up to its terminator, without branch weights; the instructions have no line marks
abbrev pub text : List Instruction → (label : ℕ) → List (List ℕ)
text insts label = map line (block_insts insts label)

-- ---- OpPhi

abbrev pub is_phi : List ℕ → Bool
is_phi words = opcode_in words == op.PHI

-- those in front of lines, and what stands behind them
abbrev pub phis : List (List ℕ) → List (List ℕ)
phis [] = []
phis (words ∷ rest) = cond (is_phi words) (words ∷ phis rest) []

abbrev pub behind_phis : List (List ℕ) → List (List ℕ)
behind_phis [] = []
behind_phis (words ∷ rest) = cond (is_phi words) (behind_phis rest) (words ∷ rest)

-- the pairs of a value and a block
abbrev pub phi_pairs : List ℕ → List (ℕ × ℕ)
phi_pairs words = pairs (drop 3 words)

-- the value that an OpPhi takes from a block
abbrev pub value_from : (block : ℕ) → List ℕ → Option ℕ
value_from block words = option_map (λ pair. pair.0) (find (λ pair. pair.1 == block) (phi_pairs words))

-- these take these values from a block
abbrev pub Take : (block : ℕ) → (phis : List (List ℕ)) → (values : List ℕ) → Type 0
Take block [] [] = Unit {0}
Take block [] (value ∷ values) = ⊥
Take block (phi ∷ phis) [] = ⊥
Take block (phi ∷ phis) (value ∷ values) = (value_from block phi ≡ Some value) × Take block phis values

-- an OpPhi as a parameter, which names the labels that stay
abbrev pub parameter_of : (stays : ℕ → ℕ) → List ℕ → Parameter
parameter_of stays words = record { type = slice_index words 1; result_id = slice_index words 2; parents = map stays (seconds (phi_pairs words)) }

-- the front of a block
abbrev pub front_of : List Instruction → (stays : ℕ → ℕ) → (label : ℕ) → Front
front_of insts stays label = record { label = label; parameters = map (parameter_of stays) (phis (text insts label)) }

-- an OpPhi with one pair, as a copy of its value
abbrev pub copy_of : List ℕ → List ℕ
copy_of words = instruction op.COPY_OBJECT (slice_index words 1 ∷ slice_index words 2 ∷ slice_index words 3 ∷ [])

-- a copy for each OpPhi, and behind them the body
abbrev pub copies : (phis : List (List ℕ)) → Body → Body
copies [] body = body
copies (phi ∷ phis) body = Step (copy_of phi) (copies phis body)

-- ---- numbers, each where it stands first

abbrev pub firsts : List ℕ → List ℕ
firsts [] = []
firsts (x ∷ xs) = x ∷ filter (λ y. not (y == x)) (firsts xs)
