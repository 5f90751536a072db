-- A table of the beginnings of blocks, as it is filled.
use Rattle.std.specs.Prelude.{◌≡◌, ℕ, List, drop, Some, None}
use Rattle.std.specs.BTreeMap.{BTreeMap, get}
use Rattle.std.specs.Ordering.{nat_cmp}
use Rattle.spv_module.specs.Instruction.{Instruction}
use Rattle.spv_blocks.specs.Blocks.{is_label}
use Rattle.spv_blocks.specs.Cutting.{blocks_of}
use Rattle.spv_normal.specs.Lines.{behind_label}
use Rattle.spv_sources.specs.declared.begins.Begin.{Begin}
use Rattle.spv_sources.specs.Values.{IsBegin}

-- what it has is right, and of the labels that it has not none stands before the k-th instruction
pub record IsFilled (insts : List Instruction) (k : ℕ) (begins : BTreeMap ℕ Begin) : Type 0 where
  pub each : (l : ℕ) (begin : Begin) → get nat_cmp begins l ≡ Some begin → IsBegin insts l begin
  pub behind : (l : ℕ) → get nat_cmp begins l ≡ None → behind_label insts l ≡ behind_label (drop k insts) l
  pub labels : (l : ℕ) → get nat_cmp begins l ≡ None → is_label (blocks_of insts) l ≡ is_label (blocks_of (drop k insts)) l
