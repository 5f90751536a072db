-- What the rules on the layout and on ids say of each function, as statements.
use Rattle.std.specs.Prelude.{◌≡◌, ℕ, false, List, slice_get, Some, None}
use Rattle.spv_module.specs.Code.{is_line}
use Rattle.spv_module.specs.First.{first}
use Rattle.spv_declarations.specs.Broken.{group_3}
use Rattle.spv_module.specs.Instruction.{Instruction}
use Rattle.spv_blocks.specs.Cutting.{blocks_of, function_insts}
use Rattle.spv_walk.specs.Numbering.{HasOwnLabels}
use Rattle.spv_normal.specs.Lines.{without_marks}
use Rattle.spv_ids.specs.Ids.{is_second}
use Rattle.spv_spelling.specs.Whole.{AreInstructions}

-- no instruction that is no line mark defines an id that one before it defines: 301 IdTwice is not broken
abbrev pub DefinesOnce : List Instruction → Type 0
DefinesOnce insts = (k : ℕ) (i : Instruction) → slice_get insts k ≡ Some i → is_line i ≡ false → is_second insts k i ≡ false

-- so it is where the rules on declarations find nothing
abbrev pub UnbrokenDefinesOnce : Type 0
UnbrokenDefinesOnce = (insts : List Instruction) → first (group_3 insts) ≡ None → DefinesOnce insts

-- then no two blocks of a function have one label
abbrev pub LabelsAreOwn : Type 0
LabelsAreOwn = (insts : List Instruction) (k : ℕ) → AreInstructions insts → DefinesOnce insts → HasOwnLabels (blocks_of (without_marks (function_insts k insts)))

-- line marks do not matter to the blocks of a function
abbrev pub BlocksWithoutMarks : Type 0
BlocksWithoutMarks = (insts : List Instruction) → blocks_of (without_marks insts) ≡ blocks_of insts
