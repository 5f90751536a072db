-- Tables of how often ids stand in a list.
use Rattle.std.specs.Prelude.{◌≡◌, ℕ, ◌+◌, List}
use Rattle.std.specs.BTreeMap.{get}
use Rattle.std.specs.Option.{unwrap_or}
use Rattle.std.specs.Ordering.{nat_cmp}
use Rattle.spv_draft.specs.declared.tally.Tally.{Tally}
use Rattle.spv_draft.specs.declared.uses.Uses.{Uses}
use Rattle.spv_module.specs.Instruction.{Instruction}
use Rattle.spv_draft.specs.Named.{times, used_ids}

-- how often a table says that an id stands in the list
abbrev pub tallied : Tally → ℕ → ℕ
tallied tally id = unwrap_or (get nat_cmp tally.counts id) 0

-- some ids were counted more
pub record Adds (old new : Tally) (more : List ℕ) : Type 0 where
  pub at : (id : ℕ) → tallied new id ≡ tallied old id + times id more

-- a table has the counts of a list
pub record Counts (tally : Tally) (ids : List ℕ) : Type 0 where
  pub at : (id : ℕ) → tallied tally id ≡ times id ids

-- how often an id was counted
abbrev pub counted : Uses → ℕ → ℕ
counted uses id = tallied uses.tally id

-- each id was counted as often as operand words name it, names and decorations aside
pub record CountsUses (uses : Uses) (insts : List Instruction) : Type 0 where
  pub at : (id : ℕ) → counted uses id ≡ times id (used_ids insts)
