-- What a source tells of a function.
use Rattle.std.specs.Prelude.{ℕ, List}
use Rattle.std.specs.BTreeMap.{is_at}
use Rattle.std.specs.Map.{lookup}
use Rattle.std.specs.Option.{unwrap_or}
use Rattle.std.specs.Ordering.{nat_cmp}
use Rattle.spv_module.specs.Instruction.{Instruction}

-- its instructions without line marks, and the labels that stay for the blocks that are joined with one before
pub record Told : Type 0 where
  pub insts : List Instruction
  pub stays : List (ℕ × ℕ)

-- the label that stays for a block, by a table of those for which another stays
abbrev pub label_in : List (ℕ × ℕ) → (label : ℕ) → ℕ
label_in stays label = unwrap_or (lookup (is_at (nat_cmp label)) stays) label

abbrev pub stays_of : Told → (label : ℕ) → ℕ
stays_of told label = label_in told.stays label
