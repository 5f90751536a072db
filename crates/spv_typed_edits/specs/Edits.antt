-- What an edit of a typed function keeps, so that what it makes is typed in another module.
use Rattle.std.specs.Prelude.{◌≡◌, ℕ, Bool, true, false, cond, ◌==◌, List, [], ◌∷◌, slice_index, Some, All}
use Rattle.spv_opcodes.specs.declared.op.TheConstants as op
use Rattle.spv_module.specs.Instruction.{Instruction, opcode}
use Rattle.spv_ids.specs.Ids.{kind, words_of}
use Rattle.spv_typing.specs.Kinds.{is_one_of}
use Rattle.spv_values.specs.Values.{value_type}
use Rattle.spv_declarations.specs.Sound.{AreInstructions}
use Rattle.spv_usage.specs.declared.stages.Stage.TheVariants.{Opening}
use Rattle.spv_signatures.specs.Functions.{parameters_of}
use Rattle.spv_bodies.specs.Bodies.{Function}
use Rattle.spv_tree.specs.Sound.{opcode_in}
use Rattle.spv_editing.specs.Editing.{Edit}
use Rattle.spv_editing.specs.Showing.{steps_of, uses_of}
use Rattle.spv_typed_trees.specs.Typed.{StepFits}

-- ---- round the body

abbrev pub type_kinds : List ℕ
type_kinds =
    op.TYPE_VOID ∷ op.TYPE_BOOL ∷ op.TYPE_INT ∷ op.TYPE_VECTOR ∷ op.TYPE_ARRAY ∷ op.TYPE_RUNTIME_ARRAY ∷ op.TYPE_STRUCT ∷ op.TYPE_POINTER ∷ op.TYPE_FUNCTION ∷ []

-- some instruction declares the type
abbrev pub is_type : List Instruction → (id : ℕ) → Bool
is_type insts id = is_one_of type_kinds (kind insts id)

-- the same ids are types in both modules, and have the same words
pub record SameTypes (before after : List Instruction) : Type 0 where
  pub words : (t : ℕ) → is_type before t ≡ true → words_of after t 0 ≡ words_of before t 0
  pub others : (t : ℕ) → is_type before t ≡ false → is_type after t ≡ false

-- no instruction declares a type
abbrev pub DeclareNoTypes : List Instruction → Type 0
DeclareNoTypes insts = All (λ i. is_one_of type_kinds (opcode i) ≡ false) insts

-- what a function asks of its module besides what its blocks ask is the same in both
pub record SameRound (before after : List Instruction) (f : Function) : Type 0 where
  pub types : SameTypes before after
  -- the parameters that are known by the function's id
  pub parameters : parameters_of after (slice_index f.function 2) ≡ parameters_of before (slice_index f.function 2)
  -- so no id is 0
  pub whole : AreInstructions before

-- ---- ids

-- where an id is a value of some type in the module before, another one is a value of that type in the module after
abbrev pub HasItsType : (before after : List Instruction) → (id other : ℕ) → Type 0
HasItsType before after id other = (t : ℕ) → value_type before id ≡ Some t → value_type after other ≡ Some t

-- what stands for an id that is used outside Steps has its type: a value of a branch, a condition, a selector, a returned value
abbrev pub KeepsUses : (before after : List Instruction) → Edit → Function → Type 0
KeepsUses before after e f = All (λ id. HasItsType before after id (e.uses id)) (uses_of f.body)

-- ---- instructions

abbrev pub is_variable : (words : List ℕ) → Bool
is_variable words = opcode_in words == op.VARIABLE

-- The lines that stand for an instruction fit where it fits, and are variables exactly where it is one. Both are asked at the head of a function: what fits
-- further on fits there too, and what fits there fits further on unless it is a variable.
pub record StandFor (before after : List Instruction) (words : List ℕ) (lines : List (List ℕ)) : Type 0 where
  pub fit : StepFits before Opening words → All (λ line. StepFits after Opening line) lines
  pub variables : All (λ line. is_variable line ≡ is_variable words) lines

abbrev pub KeepsFitting : (before after : List Instruction) → Edit → Function → Type 0
KeepsFitting before after e f = All (λ words. StandFor before after words (e.steps words)) (steps_of f.body)

-- ---- some edits

-- some instructions go, and ids stay
abbrev pub dropping : (goes : List ℕ → Bool) → Edit
dropping goes = record { steps = λ words. cond (goes words) [] (words ∷ []); uses = λ id. id }

-- the lines that stand for an instruction have its opcode
abbrev pub KeepsOpcodes : Edit → Type 0
KeepsOpcodes e = (words : List ℕ) → All (λ line. opcode_in line ≡ opcode_in words) (e.steps words)
