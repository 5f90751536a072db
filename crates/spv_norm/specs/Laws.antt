-- The normal form of a module in normal form.
use Rattle.std.specs.Prelude.{◌≡◌, ℕ, ◌<◌, true, List, ◌++◌}
use Rattle.std.specs.List.{AllByRecursion, count_by, flat_map, range_with_len}
use Rattle.spv_module.specs.Code.{is_function}
use Rattle.spv_module.specs.Instruction.{Instruction}
use Rattle.spv_blocks.specs.Cutting.{function_insts}
use Rattle.spv_tree.specs.Tree.{words_of}
use Rattle.spv_normal.specs.Normal.{normal_function}
use Rattle.spv_norm.specs.Norm.{norm_lines, outside, stays_outside}

-- the instructions of the functions, one function after the other
abbrev pub inside : List Instruction → List Instruction
inside insts = flat_map (λ k. function_insts k insts) (range_with_len 0 (count_by is_function insts))

-- The instructions of each function are its normal form. Outside functions no line mark stands, and nothing names a label that no function has. Nothing
-- stands between two functions, nor behind the last.
pub record AreNormal (insts : List Instruction) : Type 0 where
  pub functions : (k : ℕ) → k < count_by is_function insts → normal_function (function_insts k insts) ≡ words_of (function_insts k insts)
  pub stays : AllByRecursion (λ i. stays_outside insts i ≡ true) (outside insts)
  pub whole : outside insts ++ inside insts ≡ insts

-- they are the module's normal form
abbrev pub NormalStays : Type 0
NormalStays = (insts : List Instruction) → AreNormal insts → norm_lines insts ≡ words_of insts
