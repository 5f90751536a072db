-- What is kept of the parameters: those of all functions one after the other, and where those of each function stand among them.
use Rattle.std.specs.Prelude.{◌≡◌, ℕ, ◌≤◌, cond, nat_lt, List, [], length, slice_range, Some}
use Rattle.std.specs.BTreeMap.{BTreeMap, get}
use Rattle.std.specs.Option.{option_map_or}
use Rattle.std.specs.Ordering.{nat_cmp}
use Rattle.spv_module.specs.Instruction.{Instruction}
use Rattle.spv_signatures.specs.declared.rows.Row.{Row}
use Rattle.spv_signatures.specs.Functions.{Parameter, parameters_at}

abbrev pub row_of : BTreeMap ℕ Row → (all : List Parameter) → (k : ℕ) → List Parameter
row_of rows all k = option_map_or (λ row. slice_range all row.start row.end) (get nat_cmp rows k) []

-- rows within all parameters
pub record IsWithin (all : List Parameter) (row : Row) : Type 0 where
  pub ordered : row.start ≤ row.end
  pub within : row.end ≤ length all

pub record AreWithin (rows : BTreeMap ℕ Row) (all : List Parameter) : Type 0 where
  pub at : (p : ℕ) (row : Row) → get nat_cmp rows p ≡ Some row → IsWithin all row

-- the rows of the functions that begin before the k-th instruction
pub record HasRows (rows : BTreeMap ℕ Row) (all : List Parameter) (insts : List Instruction) (k : ℕ) : Type 0 where
  pub within : AreWithin rows all
  pub at : (p : ℕ) → row_of rows all p ≡ cond (nat_lt p k) (parameters_at insts p) []
