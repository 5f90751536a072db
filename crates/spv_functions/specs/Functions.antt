-- The functions of a module that breaks no rule on layout and on declarations: their trees, and their normal forms.
use Rattle.std.specs.Prelude.{◌≡◌, ℕ, ◌≤◌, Bool, ◌==◌, ◌&&◌, List, length, slice_get, None, Some, Result, Ok, Err}
use Rattle.std.specs.BTreeSet.{BTreeSet, contains}
use Rattle.std.specs.List.{count_by, list_any}
use Rattle.std.specs.Ordering.{nat_cmp}
use Rattle.spv_base.specs.declared.fault.Fault.{Fault}
use Rattle.spv_base.specs.declared.fault.Fault.TheVariants as faults
use Rattle.spv_opcodes.specs.declared.op.TheConstants as op
use Rattle.spv_module.specs.Code.{is_function}
use Rattle.spv_module.specs.First.{first}
use Rattle.spv_module.specs.Instruction.{Instruction, opcode}
use Rattle.spv_module.specs.Layout.{group_2}
use Rattle.spv_ids.specs.Ids.{defines}
use Rattle.spv_declarations.specs.Broken.{group_3}
use Rattle.spv_blocks.specs.Blocks.{Code}
use Rattle.spv_blocks.specs.Cutting.{blocks_of, function_insts, starts as starts_of}
use Rattle.spv_walk.specs.Rules.{Broken, IsFirst}
use Rattle.spv_bodies.specs.Listing.{listed}
use Rattle.spv_tree.specs.declared.body.Body.{Body}
use Rattle.spv_tree.specs.Sound.{IsSound}
use Rattle.spv_tree.specs.Tree.{body_of, words_of}
use Rattle.spv_normal.specs.Normal.{normal_function}
use Rattle.spv_parse.specs.Functions.{IsNested, IsParsed, IsTooDeep}

-- ---- modules

-- an OpTypePointer that defines the type
abbrev pub defines_pointer : (type : ℕ) → Instruction → Bool
defines_pointer type i = opcode i == op.TYPE_POINTER && defines type i

-- some instruction is one
abbrev pub is_pointer : List Instruction → (type : ℕ) → Bool
is_pointer insts type = list_any (defines_pointer type) insts

-- no rule on the layout of a module is broken, and none on declarations
pub record IsDeclared (insts : List Instruction) : Type 0 where
  pub end : ℕ
  pub laid_out : first (group_2 end insts) ≡ None
  pub declared : first (group_3 insts) ≡ None

-- which types are pointers, and the number of each OpFunction among the instructions
pub record Table : Type 0 where
  pub pointers : BTreeSet ℕ
  pub starts : List ℕ

-- they are those of the module
pub record AreFunctions (insts : List Instruction) (functions : Table) : Type 0 where
  pub pointers : (type : ℕ) → contains nat_cmp functions.pointers type ≡ is_pointer insts type
  pub starts : functions.starts ≡ starts_of insts

-- ---- the functions of one, by their instructions

-- the tree of a function in which no rule is broken: it is sound, and listed in the normal form of the function
pub record IsTree (is_pointer : ℕ → Bool) (insts : List Instruction) (body : Body) : Type 0 where
  pub parsed : IsParsed is_pointer insts body
  pub sound : IsSound (body_of body)
  pub normal : listed (body_of body) ≡ normal_function insts

-- the normal form of a function in which no rule is broken, and which nests at most 255 deep
pub record IsNormal (is_pointer : ℕ → Bool) (insts normal : List Instruction) : Type 0 where
  pub depth : ℕ
  pub nested : IsNested is_pointer insts depth
  pub within : depth ≤ 255
  pub same : words_of normal ≡ normal_function insts

-- the first broken rule on structured control flow; or none is broken and it nests too deep; or memory was wanting
abbrev pub Refuses : (is_pointer : ℕ → Bool) → (insts : List Instruction) → Fault → Type 0
Refuses is_pointer insts (faults.Refused refusal) = IsFirst (Broken is_pointer (blocks_of insts)) (Some refusal)
Refuses is_pointer insts faults.Nesting = IsTooDeep is_pointer insts
Refuses is_pointer insts faults.NoMemory = Unit {0}

abbrev pub Answers : (is_pointer : ℕ → Bool) → (insts : List Instruction) → Result Body Fault → Type 0
Answers is_pointer insts (Ok body) = IsTree is_pointer insts body
Answers is_pointer insts (Err fault) = Refuses is_pointer insts fault

abbrev pub Normalizes : (is_pointer : ℕ → Bool) → (insts : List Instruction) → Result (List Instruction) Fault → Type 0
Normalizes is_pointer insts (Ok normal) = IsNormal is_pointer insts normal
Normalizes is_pointer insts (Err fault) = Refuses is_pointer insts fault

-- ---- the blocks of functions

-- those of each of the first n functions, in order
pub record AreShapesBelow (insts : List Instruction) (n : ℕ) (shapes : List Code) : Type 0 where
  pub count : length shapes ≡ n
  pub each : (k : ℕ) (f : Code) → slice_get shapes k ≡ Some f → f ≡ blocks_of (function_insts k insts)

-- those of each function
abbrev pub AreShapes : List Instruction → List Code → Type 0
AreShapes insts shapes = AreShapesBelow insts (count_by is_function insts) shapes
