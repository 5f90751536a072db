-- The normal form of a module breaks no rule on instructions and on layout: laws, as statements.
use Rattle.std.specs.Prelude.{◌≡◌, ◌≢◌, ◌⊎◌, ℕ, true, false, List, [], length, slice_get, slice_index, Option, Some, None, count_by}
use Rattle.std.specs.List.{AllByRecursion}
use Rattle.std.specs.Option.{option_map}
use Rattle.spv_opcodes.specs.declared.op.TheConstants as op
use Rattle.spv_module.specs.Broken.{group_1}
use Rattle.spv_module.specs.Code.{Code, code_of, is_function, spelling}
use Rattle.spv_module.specs.Decode.{first_in_decode}
use Rattle.spv_module.specs.First.{first}
use Rattle.spv_module.specs.Instruction.{Instruction, instruction_rules}
use Rattle.spv_module.specs.Layout.{group_2}
use Rattle.spv_blocks.specs.Cutting.{function_insts}
use Rattle.spv_ids.specs.Ids.{definition, is_defined}
use Rattle.spv_tree.specs.declared.body.Body.{Body}
use Rattle.spv_tree.specs.Sound.{opcode_in}
use Rattle.spv_tree.specs.Tree.{words_of}
use Rattle.spv_spelling.specs.Whole.{AreInstructions}
use Rattle.spv_texts.specs.Laws.{DefinesOnce}
use Rattle.spv_functions.specs.Functions.{IsTree, is_pointer}
use Rattle.spv_norm.specs.Norm.{IsNorm, is_gone, outside}

-- what is asked of a module: its words break no rule on instructions and layout, and there is a tree for each function
pub record IsWhole (words : List ℕ) (bodies : List Body) : Type 0 where
  pub decoded : first_in_decode words ≡ None
  pub count : length bodies ≡ count_by is_function (code_of words).insts
  pub each : (k : ℕ) (body : Body) → slice_get bodies k ≡ Some body → IsTree (is_pointer (code_of words).insts) (function_insts k (code_of words).insts) body

-- the instructions are of the profile, and each breaks no rule below the bound
pub record AreUnbroken (code : Code) : Type 0 where
  pub instructions : AreInstructions code.insts
  pub rules : AllByRecursion (λ i. instruction_rules code.header.bound i.words ≡ []) code.insts

-- the lines of the normal form are such instructions, under the bound that their ids ask for
abbrev pub NormLinesAreInstructions : Type 0
NormLinesAreInstructions = (words : List ℕ) (bodies : List Body) (norm : Code) → IsWhole words bodies → IsNorm (code_of words) norm → AreUnbroken norm

-- written as words and cut again: the header and the instructions, wherever these stand now, are the same; and no rule on them is broken
pub record IsCutAgain (code : Code) : Type 0 where
  pub header : (code_of (spelling code)).header ≡ code.header
  pub lines : words_of (code_of (spelling code)).insts ≡ words_of code.insts
  pub unbroken : first (group_1 (spelling code)) ≡ None

abbrev pub NormIsCutAgain : Type 0
NormIsCutAgain = (words : List ℕ) (bodies : List Body) (norm : Code) → IsWhole words bodies → IsNorm (code_of words) norm → IsCutAgain norm

-- no rule on the layout is broken, whatever the places of the instructions
abbrev pub NormIsLaidOut : Type 0
NormIsLaidOut =
    (words : List ℕ) (bodies : List Body) (norm : Code) → IsWhole words bodies → IsNorm (code_of words) norm
    → (end : ℕ) (again : List Instruction) → words_of again ≡ words_of norm.insts → first (group_2 end again) ≡ None

-- so the normal form is decoded, as a module that breaks no rule
abbrev pub NormIsDecoded : Type 0
NormIsDecoded =
    (words : List ℕ) (bodies : List Body) (norm : Code) → IsWhole words bodies → IsNorm (code_of words) norm → first_in_decode (spelling norm) ≡ None

-- ---- definitions

-- the words of the instruction that defines an id
abbrev pub defining : List Instruction → (id : ℕ) → Option (List ℕ)
defining insts id = option_map (λ i. i.words) (definition insts id)

-- what becomes of an OpPhi: an OpPhi or an OpCopyObject with its type and its result
pub record PhiStays (before after : List ℕ) : Type 0 where
  pub phi : opcode_in before ≡ op.PHI
  pub kind : (opcode_in after ≡ op.PHI) ⊎ (opcode_in after ≡ op.COPY_OBJECT)
  pub type : slice_index after 1 ≡ slice_index before 1
  pub result_id : slice_index after 2 ≡ slice_index before 2

-- the same words, or an OpPhi and what became of it
abbrev pub SameDefinition : (before after : List ℕ) → Type 0
SameDefinition before after = (after ≡ before) ⊎ PhiStays before after

-- an id that is defined outside functions is defined by the same words
abbrev pub NormDefinesOutside : Type 0
NormDefinesOutside =
    (words : List ℕ) (bodies : List Body) (norm : Code) → IsWhole words bodies → IsNorm (code_of words) norm
    → (id : ℕ) → is_defined (outside (code_of words).insts) id ≡ true
    → (w : List ℕ) × (defining (code_of words).insts id ≡ Some w) × (defining norm.insts id ≡ Some w)

-- where no id of the module is defined twice, what defines an id in the normal form is what defines it in the module, or what became of its OpPhi
abbrev pub NormDefinesAlike : Type 0
NormDefinesAlike =
    (words : List ℕ) (bodies : List Body) (norm : Code) → IsWhole words bodies → IsNorm (code_of words) norm → DefinesOnce (code_of words).insts
    → (id : ℕ) (w : List ℕ) → defining norm.insts id ≡ Some w → (v : List ℕ) × (defining (code_of words).insts id ≡ Some v) × SameDefinition v w

-- and what defines an id in the module has such a definition in the normal form, unless it is a label that went
abbrev pub NormDefinesAll : Type 0
NormDefinesAll =
    (words : List ℕ) (bodies : List Body) (norm : Code) → IsWhole words bodies → IsNorm (code_of words) norm → DefinesOnce (code_of words).insts
    → (id : ℕ) (v : List ℕ) → defining (code_of words).insts id ≡ Some v → is_gone (code_of words).insts id ≡ false
    → (w : List ℕ) × (defining norm.insts id ≡ Some w) × SameDefinition v w

-- nor is an id defined twice in the normal form, by instructions with its words
abbrev pub NormDefinesOnce : Type 0
NormDefinesOnce =
    (words : List ℕ) (bodies : List Body) (norm : Code) → IsWhole words bodies → IsNorm (code_of words) norm → DefinesOnce (code_of words).insts
    → (again : List Instruction) → words_of again ≡ words_of norm.insts → DefinesOnce again

-- so an instruction that is no OpLabel, OpPhi or OpCopyObject defines the same id in both
abbrev pub NormDefinesSame : Type 0
NormDefinesSame =
    (words : List ℕ) (bodies : List Body) (norm : Code) → IsWhole words bodies → IsNorm (code_of words) norm → DefinesOnce (code_of words).insts
    → (id : ℕ) (w : List ℕ) → opcode_in w ≢ op.LABEL → opcode_in w ≢ op.PHI → opcode_in w ≢ op.COPY_OBJECT
    → (defining (code_of words).insts id ≡ Some w → defining norm.insts id ≡ Some w) × (defining norm.insts id ≡ Some w
    → defining (code_of words).insts id ≡ Some w)
