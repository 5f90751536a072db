-- Two modules of the same instructions, one for one, where some lines of functions and some entry points are rewritten: each keeps its opcode, its result
-- and its type, and uses other ids. In an entry point only the interface changes.
use Rattle.std.specs.Prelude.{◌≡◌, ◌⊎◌, ◌||◌, ℕ, Bool, true, false, List, [], ◌∷◌, length, slice_index}
use Rattle.std.specs.List.{AllByRecursion}
use Rattle.spv_opcodes.specs.declared.op.TheConstants as op
use Rattle.spv_grammar.specs.Roles.{is_defined_id, is_type_id}
use Rattle.spv_module.specs.Code.{is_function}
use Rattle.spv_module.specs.Instruction.{Instruction, opcode, word_with}
use Rattle.spv_module.specs.Layout.{is_entry_point}
use Rattle.spv_ids.specs.Ids.{defines, is_defined, used_ids}
use Rattle.spv_typing.specs.Kinds.{is_one_of}
use Rattle.spv_alike_uses.specs.Alike.{firm_kinds}
use Rattle.spv_entries.specs.Names.{entry_name}
use Rattle.spv_calls.specs.Calls.{globals_at}
use Rattle.spv_calls.specs.Interfaces.{IsReferenced, has, interface, repeats}

-- a relation holds of the instructions of two lists pair by pair, and these are as many
abbrev pub EachAs : (R : Instruction → Instruction → Type 0) → List Instruction → List Instruction → Type 0
EachAs R [] [] = Unit {0}
EachAs R [] (j ∷ js) = ⊥
EachAs R (i ∷ is) [] = ⊥
EachAs R (i ∷ is) (j ∷ js) = R i j × EachAs R is js

-- what is not rewritten: strings, decorations, the modes of entry points, labels, line marks, and what is firm
abbrev pub settled_kinds : List ℕ
settled_kinds =
    op.STRING ∷ op.DECORATE ∷ op.MEMBER_DECORATE ∷ op.EXECUTION_MODE ∷ op.EXECUTION_MODE_ID ∷ op.LABEL ∷ op.LINE ∷ op.NO_LINE ∷ firm_kinds

-- an instruction and what it becomes
pub record IsChanged (insts : List Instruction) (i j : Instruction) : Type 0 where
  pub passing : is_one_of settled_kinds (opcode i) ≡ false
  pub kind : opcode j ≡ opcode i
  pub result : word_with is_defined_id j ≡ word_with is_defined_id i
  pub type : word_with is_type_id j ≡ word_with is_type_id i
  -- what gives a result has as many words
  pub count : (id : ℕ) → defines id i ≡ true → length j.words ≡ length i.words
  -- a call is of the same function, and an entry point is that of the same function by the same name
  pub callee : opcode i ≡ op.FUNCTION_CALL → slice_index j.words 3 ≡ slice_index i.words 3
  pub entry : is_entry_point i ≡ true → slice_index j.words 2 ≡ slice_index i.words 2
  pub name : is_entry_point i ≡ true → entry_name j ≡ entry_name i
  -- what it uses is defined
  pub known : AllByRecursion (λ id. is_defined insts id ≡ true) (used_ids j)

abbrev pub IsRewrittenAs : (insts : List Instruction) (i j : Instruction) → Type 0
IsRewrittenAs insts i j = (j.words ≡ i.words) ⊎ IsChanged insts i j

abbrev pub IsRewritten : (before after : List Instruction) → Type 0
IsRewritten before after = EachAs (IsRewrittenAs before) before after

-- ---- interfaces

-- no entry point is rewritten
abbrev pub EntriesStay : (before after : List Instruction) → Type 0
EntriesStay before after = EachAs (λ i j. is_entry_point i ≡ true → j.words ≡ i.words) before after

-- nothing is rewritten from the first OpFunction on; `begun` says that one has begun before
abbrev pub StaysBehind : (begun : Bool) → (before after : List Instruction) → Type 0
StaysBehind begun [] [] = Unit {0}
StaysBehind begun [] (j ∷ js) = ⊥
StaysBehind begun (i ∷ is) [] = ⊥
StaysBehind begun (i ∷ is) (j ∷ js) = ((begun || is_function i) ≡ true → j.words ≡ i.words) × StaysBehind (begun || is_function i) is js

abbrev pub FunctionsStay : (before after : List Instruction) → Type 0
FunctionsStay before after = StaysBehind false before after

-- each function names only global variables that it named
abbrev pub NamesNoMore : (before after : List Instruction) → Type 0
NamesNoMore before after = (place id : ℕ) → has (globals_at after place) id ≡ true → has (globals_at before place) id ≡ true

-- an entry point lists, each once, ids that it listed, and all that its function or one that it reaches by calls named
pub record ListsReferenced (insts : List Instruction) (i j : Instruction) : Type 0 where
  pub once : repeats (interface j) ≡ false
  pub fewer : (id : ℕ) → has (interface j) id ≡ true → has (interface i) id ≡ true
  pub all : (id : ℕ) → IsReferenced insts (slice_index i.words 2) id → has (interface j) id ≡ true

abbrev pub KeepsListed : (before after : List Instruction) → Type 0
KeepsListed before after = EachAs (λ i j. is_entry_point i ≡ true → ListsReferenced before i j) before after
