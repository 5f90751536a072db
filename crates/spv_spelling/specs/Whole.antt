-- A whole function: its instructions without line marks, in which no rule is broken.
use Rattle.std.specs.Prelude.{◌≡◌, ℕ, ◌<◌, ◌≤◌, Bool, true, ◌||◌, List, [], ◌∷◌, ◌++◌, length, count_by, slice_get, Some, None, All}
use Rattle.spv_opcodes.specs.declared.op.TheConstants as op
use Rattle.spv_module.specs.Code.{is_function}
use Rattle.spv_module.specs.First.{first}
use Rattle.spv_module.specs.Instruction.{Instruction, IsInstruction, opcode, roles}
use Rattle.spv_module.specs.Layout.{group_2, is_terminator}
use Rattle.spv_blocks.specs.Cutting.{blocks_of, function_insts, is_label_mark}
use Rattle.spv_walk.specs.Numbering.{HasOwnLabels}
use Rattle.spv_bodies.specs.Bodies.{Function}
use Rattle.spv_bodies.specs.Listing.{listed}
use Rattle.spv_normal.specs.Lines.{without_marks}
use Rattle.spv_normal.specs.Normal.{normal_function}
use Rattle.spv_tree.specs.Sound.{IsSound, is_step, is_one_of}
use Rattle.spv_spelling.specs.Clean.{IsClean, no_pointers}
use Rattle.spv_spelling.specs.Spelling.{SpellsFunction}

-- ---- the shape of a function's instructions

-- OpPhi and merge instructions, which stand in blocks before the terminator
abbrev pub block_marks : List ℕ
block_marks = op.PHI ∷ op.LOOP_MERGE ∷ op.SELECTION_MERGE ∷ []

-- what stands behind the first label, before OpFunctionEnd
abbrev pub is_in_block : Instruction → Bool
is_in_block i = is_label_mark i || is_terminator i || is_step (opcode i) || is_one_of block_marks (opcode i)

-- OpFunction, its parameters, the blocks and OpFunctionEnd
pub record IsText (insts : List Instruction) : Type 0 where
  pub function : Instruction
  pub parameters : List Instruction
  pub label : Instruction
  pub blocks : List Instruction
  pub last : Instruction
  pub same : insts ≡ function ∷ (parameters ++ (label ∷ blocks) ++ last ∷ [])
  pub begins : opcode function ≡ op.FUNCTION
  pub takes : All (λ i. opcode i ≡ op.FUNCTION_PARAMETER) parameters
  pub first : is_label_mark label ≡ true
  pub inside : All (λ i. is_in_block i ≡ true) blocks
  pub ends : opcode last ≡ op.FUNCTION_END

-- each has the words and parts of an instruction
abbrev pub AreInstructions : List Instruction → Type 0
AreInstructions insts = (k : ℕ) (i : Instruction) → slice_get insts k ≡ Some i → IsInstruction i.words (roles i)

-- the word count of each stands in half a word
abbrev pub AreShort : List Instruction → Type 0
AreShort insts = (k : ℕ) (i : Instruction) → slice_get insts k ≡ Some i → length i.words ≤ 65535

-- where the layout of the module breaks no rule, each function is of this shape
abbrev pub LaidOut : Type 0
LaidOut =
    (end k : ℕ) (insts : List Instruction) → AreInstructions insts → first (group_2 end insts) ≡ None → k < count_by is_function insts
    → IsText (without_marks (function_insts k insts))

-- ---- functions in which no rule is broken

pub record IsAdmitted (insts : List Instruction) : Type 0 where
  pub text : IsText insts
  pub each : AreInstructions insts
  pub short : AreShort insts
  pub own : HasOwnLabels (blocks_of insts)
  pub clean : IsClean no_pointers (blocks_of insts)

-- what they spell is sound
abbrev pub SpelledIsSound : Type 0
SpelledIsSound = (insts : List Instruction) (stays : ℕ → ℕ) (f : Function) → IsAdmitted insts → SpellsFunction insts stays f → IsSound f

-- and is listed in the normal form
abbrev pub SpelledIsNormal : Type 0
SpelledIsNormal =
    (insts : List Instruction) (stays : ℕ → ℕ) (f : Function) → IsAdmitted (without_marks insts)
    → SpellsFunction (without_marks insts) stays f → listed f ≡ normal_function insts
