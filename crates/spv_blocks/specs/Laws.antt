-- What follows for the blocks of a function from where their labels stand.
use Rattle.std.specs.Prelude.{◌≡◌, ℕ, ◌<◌, ◌&&◌, false, List, length, slice_get, count_by, Some, None}
use Rattle.spv_module.specs.Code.{is_function}
use Rattle.spv_module.specs.Instruction.{Instruction}
use Rattle.spv_blocks.specs.Blocks.{Block, Code, block, branches, goes, has, is_label}
use Rattle.spv_blocks.specs.Cutting.{starts}
use Rattle.spv_blocks.specs.Places.{place, is_free, row_of}

-- the place of a label is that of its block, and rows lead to where blocks branch
pub record AreFound (f : Code) : Type 0 where
  pub within : (l k : ℕ) → place f l ≡ Some k → k < length f
  pub found : (l k : ℕ) → place f l ≡ Some k → slice_get f k ≡ block f l
  pub none : (l : ℕ) → place f l ≡ None → is_label f l ≡ false
  pub label : (l k : ℕ) (b : Block) → place f l ≡ Some k → slice_get f k ≡ Some b → b.label ≡ l
  pub row : (l t i j : ℕ) (b : Block) → place f l ≡ Some i → slice_get f i ≡ Some b → place f t ≡ Some j → has (row_of f b) j ≡ branches f l t
  pub goes_on : (l t : ℕ) → goes f l t ≡ (branches f l t && is_free f t)

-- a module has as many starts of functions as OpFunction
abbrev pub AreCounted : List Instruction → Type 0
AreCounted insts = length (starts insts) ≡ count_by is_function insts
