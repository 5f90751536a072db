-- A function whose labels are the numbers of its blocks.
use Rattle.std.specs.Prelude.{◌≡◌, ℕ, ◌+◌, ◌==◌, List, map, length, position, slice_get, Some}
use Rattle.std.specs.Option.{unwrap_or}
use Rattle.spv_blocks.specs.Blocks.{Code, Block, Ins, Phi, Selection, Loop, Other, End, Branch, BranchIf, Switch, Return, Unreachable, Open}

-- the number of the first block with a label, counted from 0; for a label that no block has a number past all blocks, another for each label
abbrev pub number_of : Code → (label : ℕ) → ℕ
number_of f label = unwrap_or (position (λ b. b.label == label) f) (length f + label)

-- other labels in pairs whose second is one
abbrev pub relabelled_pairs : (ℕ → ℕ) → List (ℕ × ℕ) → List (ℕ × ℕ)
relabelled_pairs r pairs = map (λ p. (p.0, r p.1)) pairs

abbrev pub relabelled_ins : (ℕ → ℕ) → Ins → Ins
relabelled_ins r (Phi at t result pairs) = Phi at t result (relabelled_pairs r pairs)
relabelled_ins r (Selection at m) = Selection at (r m)
relabelled_ins r (Loop at m n) = Loop at (r m) (r n)
relabelled_ins r (Other at) = Other at

abbrev pub relabelled_end : (ℕ → ℕ) → End → End
relabelled_end r (Branch l) = Branch (r l)
relabelled_end r (BranchIf a b) = BranchIf (r a) (r b)
relabelled_end r (Switch d cases) = Switch (r d) (relabelled_pairs r cases)
relabelled_end r Return = Return
relabelled_end r Unreachable = Unreachable
relabelled_end r Open = Open

abbrev pub relabelled_block : (ℕ → ℕ) → Block → Block
relabelled_block r b = record b { label = r b.label; body = map (relabelled_ins r) b.body; end = relabelled_end r b.end }

-- the function with other labels
abbrev pub relabelled : (ℕ → ℕ) → Code → Code
relabelled r f = map (relabelled_block r) f

-- with its numbers
unfoldable pub numbered : Code → Code
numbered f = relabelled (number_of f) f

-- the label of each block is its number
abbrev pub IsNumbered : Code → Type 0
IsNumbered f = (k : ℕ) (b : Block) → slice_get f k ≡ Some b → b.label ≡ k

-- no two blocks have one label
abbrev pub HasOwnLabels : Code → Type 0
HasOwnLabels f = (j k : ℕ) (a b : Block) → slice_get f j ≡ Some a → slice_get f k ≡ Some b → a.label ≡ b.label → j ≡ k
