-- What parsing a function answers.
use Rattle.std.specs.Prelude.{◌≡◌, ℕ, ◌<◌, ◌≤◌, Bool, List, None, Some, Result, Ok, Err}
use Rattle.spv_base.specs.declared.fault.Fault.{Fault}
use Rattle.spv_base.specs.declared.fault.Fault.TheVariants as faults
use Rattle.spv_module.specs.First.{first}
use Rattle.spv_module.specs.Instruction.{Instruction}
use Rattle.spv_module.specs.Layout.{group_2}
use Rattle.spv_blocks.specs.Cutting.{blocks_of}
use Rattle.spv_walk.specs.Rules.{Broken, IsFirst}
use Rattle.spv_walk.specs.Walk.{Walk}
use Rattle.spv_walking.specs.Depths.{IsDepth}
use Rattle.spv_normal.specs.Lines.{without_marks}
use Rattle.spv_spelling.specs.Clean.{IsClean}
use Rattle.spv_spelling.specs.Spelling.{SpellsFunction}
use Rattle.spv_spelling.specs.Whole.{IsAdmitted}
use Rattle.spv_spelling.specs.Whole.{IsAdmitted}
use Rattle.spv_tree.specs.declared.body.Body.{Body}
use Rattle.spv_tree.specs.Tree.{body_of}

-- no rule on the layout of a module is broken
pub record IsLaidOut (insts : List Instruction) : Type 0 where
  pub end : ℕ
  pub unbroken : first (group_2 end insts) ≡ None

-- no rule on structured control flow is broken, and this is the greatest number of constructs round one point
pub record IsNested (is_pointer : ℕ → Bool) (insts : List Instruction) (depth : ℕ) : Type 0 where
  pub unbroken : IsFirst (Broken is_pointer (blocks_of insts)) None
  pub greatest : IsDepth (blocks_of insts) (Walk (blocks_of insts)) depth

-- no rule is broken in the function, and its instructions spell the tree
pub record IsSpelled (insts : List Instruction) (body : Body) : Type 0 where
  pub admitted : IsAdmitted (without_marks insts)
  pub stays : ℕ → ℕ
  pub spells : SpellsFunction (without_marks insts) stays (body_of body)

-- the tree of a function that nests at most 255 deep
pub record IsParsed (is_pointer : ℕ → Bool) (insts : List Instruction) (body : Body) : Type 0 where
  pub depth : ℕ
  pub nested : IsNested is_pointer insts depth
  pub within : depth ≤ 255
  pub clean : IsClean is_pointer (blocks_of insts)
  pub spelled : IsSpelled insts body

pub record IsTooDeep (is_pointer : ℕ → Bool) (insts : List Instruction) : Type 0 where
  pub depth : ℕ
  pub nested : IsNested is_pointer insts depth
  pub above : 255 < depth

abbrev pub Parses : (is_pointer : ℕ → Bool) → (insts : List Instruction) → Result Body Fault → Type 0
Parses is_pointer insts (Ok body) = IsParsed is_pointer insts body
Parses is_pointer insts (Err (faults.Refused refusal)) = IsFirst (Broken is_pointer (blocks_of insts)) (Some refusal)
Parses is_pointer insts (Err faults.Nesting) = IsTooDeep is_pointer insts
Parses is_pointer insts (Err faults.NoMemory) = Unit {0}
