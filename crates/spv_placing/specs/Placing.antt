-- Instructions one behind the other.
use Rattle.std.specs.Prelude.{ℕ, ◌+◌, List, [], ◌∷◌, length}
use Rattle.std.specs.List.{flat_map}
use Rattle.spv_module.specs.Instruction.{Instruction}

-- the first of the instructions stands at a place in words, and each other where the one before it ends
abbrev pub placed_from : (at : ℕ) → List Instruction → List Instruction
placed_from at [] = []
placed_from at (i ∷ is) = (record { offset = at; words = i.words }) ∷ placed_from (at + length i.words) is

-- the words of a header and of instructions
abbrev pub size_in : List Instruction → ℕ
size_in insts = 5 + length (flat_map (λ i. i.words) insts)
