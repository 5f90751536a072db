-- Two modules in which ids stand for the same: labels may have gone, an OpPhi may have become an OpCopyObject, and instructions may stand elsewhere.
use Rattle.std.specs.Prelude.{◌≡◌, ℕ, Bool, true, false, List, [], ◌∷◌}
use Rattle.spv_opcodes.specs.declared.op.TheConstants as op
use Rattle.spv_module.specs.Instruction.{Instruction}
use Rattle.spv_meaning.specs.Constants.{decorated, member_decorated}
use Rattle.spv_ids.specs.Ids.{kind, words_of}
use Rattle.spv_typing.specs.Kinds.{is_one_of, is_outside}
use Rattle.spv_values.specs.Values.{value_type}
use Rattle.spv_declarations.specs.Declarations.{says}
use Rattle.spv_types.specs.Lookup.{known_word}
use Rattle.spv_composites.specs.Forms.{forms}
use Rattle.spv_signatures.specs.Functions.{parameters_of}

-- an id that nothing defines, or that OpLabel, OpPhi or OpCopyObject defines
abbrev pub loose_kinds : List ℕ
loose_kinds = 0 ∷ op.LABEL ∷ op.PHI ∷ op.COPY_OBJECT ∷ []

abbrev pub is_loose : List Instruction → (id : ℕ) → Bool
is_loose insts id = is_one_of loose_kinds (kind insts id)

pub record AreAlike (before after : List Instruction) : Type 0 where
  -- each value has its type
  pub values : (id : ℕ) → value_type after id ≡ value_type before id
  -- what is not loose is defined by the same words, and what is loose stays so
  pub fixed : (id : ℕ) → is_loose before id ≡ false → words_of after id 0 ≡ words_of before id 0
  pub loose : (id : ℕ) → is_loose before id ≡ true → is_loose after id ≡ true
  pub outside : (id : ℕ) → is_outside after id ≡ is_outside before id
  -- the same decorations stand on each id and on each member
  pub decorations : (id d : ℕ) → decorated (says after) id d ≡ decorated (says before) id d
  pub members : (id member d : ℕ) → member_decorated (says after) id member d ≡ member_decorated (says before) id member d
  -- the same constants are Known, and have the same words
  pub known : (id k : ℕ) → known_word after id k ≡ known_word before id k
  -- types have the same forms, and functions the same parameters
  pub forms : forms after ≡ forms before
  pub parameters : (f : ℕ) → parameters_of after f ≡ parameters_of before f
