-- Values by labels, in a window of labels that follow each other and in a map.
use Rattle.std.specs.Prelude.{ℕ, ◌-◌, ◌&&◌, Bool, cond, nat_le, nat_lt, length, slice_index_or, Option, Some, None}
use Rattle.std.specs.BTreeMap.{get}
use Rattle.std.specs.Ordering.{nat_cmp}
use Rattle.spv_blocks.specs.declared.table.Table.{Table}

module _ {T : Type 0} where
  -- the label is in the window
  abbrev pub is_within : Table T → (label : ℕ) → Bool
  is_within t l = nat_le t.first l && nat_lt (l - t.first) (length t.cells.items)

  -- the value of a label
  unfoldable pub found : Table T → (label : ℕ) → Option T
  found t l = cond (is_within t l) (slice_index_or t.cells.items (l - t.first) None) (get nat_cmp t.others l)
