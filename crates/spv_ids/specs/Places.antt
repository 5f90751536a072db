-- What is kept of the instructions: where each id is first defined.
use Rattle.std.specs.Prelude.{◌≡◌, ℕ, ◌-◌, cond, nat_eq, List, slice_index, Option, Some, None}
use Rattle.std.specs.Option.{option_or}
use Rattle.spv_module.specs.Instruction.{Instruction}
use Rattle.spv_ids.specs.Ids.{defines, place_of}

-- what a cell says: one more than a number, or that there is none
abbrev pub said : ℕ → Option ℕ
said cell = cond (nat_eq cell 0) None (Some (cell - 1))

-- the number of an id, by the cells of a table
abbrev pub number_in : List ℕ → (id : ℕ) → Option ℕ
number_in cells id = said (slice_index cells id)

-- the table has the place of each id that one of the instructions defines
pub record HasPlaces (cells : List ℕ) (insts : List Instruction) : Type 0 where
  pub at : (id : ℕ) → number_in cells id ≡ place_of insts id

-- what the k-th instruction defines is added, unless it is there
pub record AddsPlace (old new : List ℕ) (k : ℕ) (i : Instruction) : Type 0 where
  pub at : (id : ℕ) → number_in new id ≡ option_or (number_in old id) (cond (defines id i) (Some k) None)
