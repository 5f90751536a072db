-- Where the labels of a function stand, how often merge instructions name them, and where terminators lead, by the numbers of blocks.
use Rattle.std.specs.Prelude.{◌≡◌, ℕ, ◌+◌, ◌&&◌, ◌==◌, Bool, cond, not, min, List, length, map, position, Option, Some, None}
use Rattle.std.specs.BTreeMap.{BTreeMap, get}
use Rattle.std.specs.Option.{option_or, unwrap_or}
use Rattle.std.specs.Ordering.{nat_cmp}
use Rattle.spv_blocks.specs.declared.table.Table.{Table}
use Rattle.spv_blocks.specs.Blocks.{Block, Code, end_targets, is_label, is_first, names}
use Rattle.spv_blocks.specs.Tables.{found}

-- the number of the first block with a label, counted from 0
abbrev pub place : Code → ℕ → Option ℕ
place f l = position (λ b. b.label == l) f

-- how often merge instructions name a label, up to two
abbrev pub named : Code → ℕ → ℕ
named f l = min (names f l) 2

-- a label that any block may go on to: it is that of a block, not of the first, and no merge instruction names it
abbrev pub is_free : Code → ℕ → Bool
is_free f t = is_label f t && not (is_first f t) && names f t == 0

-- the number of a label: that of its block, or a number past all blocks, another for each label that no block has
abbrev pub number_of : Code → ℕ → ℕ
number_of f l = unwrap_or (place f l) (length f + l)

-- the numbers of the labels that a terminator names
abbrev pub row_of : Code → Block → List ℕ
row_of f b = map (number_of f) (end_targets b.end)

-- a table has the places of the labels
pub record HasPlaces (places : Table ℕ) (f : Code) : Type 0 where
  pub at : (l : ℕ) → found places l ≡ place f l

-- a number is kept of a label, unless there is one
pub record KeepsPlace (old new : Table ℕ) (k label : ℕ) : Type 0 where
  pub at : (l : ℕ) → found new l ≡ option_or (found old l) (cond (label == l) (Some k) None)

-- a number is added to a map, unless it has one of the label
pub record AddsPlace (old new : BTreeMap ℕ ℕ) (k label : ℕ) : Type 0 where
  pub at : (l : ℕ) → get nat_cmp new l ≡ option_or (get nat_cmp old l) (cond (label == l) (Some k) None)

-- what a table of counts has of a label
abbrev pub counted : Table ℕ → ℕ → ℕ
counted counts l = unwrap_or (found counts l) 0

-- a table has the counts of the labels
pub record HasNames (counts : Table ℕ) (f : Code) : Type 0 where
  pub at : (l : ℕ) → counted counts l ≡ named f l

-- to the count of each label is added how often it is named more
pub record AddsNames (old new : Table ℕ) (more : ℕ → ℕ) : Type 0 where
  pub at : (l n : ℕ) → counted old l ≡ min n 2 → counted new l ≡ min (n + more l) 2
