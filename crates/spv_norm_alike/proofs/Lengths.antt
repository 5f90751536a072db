-- The same lengths are Known: a Known constant and its type are not loose.
use Rattle.std.proofs.Common.{◌≡◌, inl, inr, ℕ, zero, suc, Bool, true, false, cond, nat_lt, ◌==◌, List, [], ◌∷◌, length, drop, Option, Some, None, refl, sym, ap, ◌∙◌, arith}
use Rattle.std.specs.Prelude.{slice_get, slice_index}
use Rattle.std.specs.Option.{option_and_then, option_map_or}
use Rattle.spv_opcodes.specs.declared.op.TheConstants as op
use Rattle.spv_module.specs.Instruction.{Instruction}
use Rattle.spv_meaning.specs.Constants.{IsConstant, IsPointer, IsType, IsVariable, Meaning, meaning, type_at, type_in}
use Rattle.spv_meaning.specs.Meanings.{constant_words}
use Rattle.spv_meaning.specs.Types.{DataType, cells}
use Rattle.spv_ids.specs.Ids.{definition, kind, word_of}
use Rattle.spv_ids.specs.Ids.{words_of as id_words}
use Rattle.spv_typing.specs.Kinds.{constants, data_types, is_data, is_one_of, is_runtime_array, type_of}
use Rattle.spv_declarations.specs.Laws.{IsUnbroken, meanings}
use Rattle.spv_declarations.specs.Sound.{table_before}
use Rattle.spv_declarations.proofs.Consequences.{meant, same_words, sound_constant}
use Rattle.spv_declarations.proofs.Declares.{AllOf, one_of-holds}
use Rattle.spv_declarations.proofs.Functions.{front_of}
use Rattle.spv_declarations.proofs.Modules.{only_constants_stand, only_types_stand, unbroken}
use Rattle.spv_declarations.proofs.SoundConstants.{constant_kind}
use Rattle.spv_declarations.proofs.Whole.{declared-whole}
use Rattle.spv_types.specs.Lookup.{constant_kind as kind_at, known_word, word_in}
use Rattle.spv_types.specs.declared.meaning.ConstKind.{ConstKind}
use Rattle.spv_types.specs.declared.meaning.ConstKind.TheVariants as kinds
use Rattle.spv_composites.specs.Lengths.{is_signed, known_length, some_length}
use Rattle.spv_walk.proofs.Unique.{either_holds, equal_true}
use Rattle.spv_alike.specs.Alike.{is_loose, loose_kinds}

-- ---- the words of a definition

no_word : (k : ℕ) → slice_index [] k ≡ 0
no_word zero = refl
no_word (suc k) = refl

word_by : (o : Option Instruction) (k : ℕ) → option_map_or (λ i. slice_index i.words k) o 0 ≡ slice_index (option_map_or (λ i. drop 0 i.words) o []) k
word_by None k = sym (no_word k)
word_by (Some i) k = refl

word_told : (insts : List Instruction) (id k : ℕ) → word_of insts id k ≡ slice_index (id_words insts id 0) k
word_told insts id k = word_by (definition insts id) k

-- ---- what is Known is a constant of a type of values

abbrev IsFixed : ℕ → Type 0
IsFixed k = is_one_of loose_kinds k ≡ false

constants_fixed : AllOf IsFixed (op.UNDEF ∷ constants)
constants_fixed = search

types_fixed : AllOf IsFixed data_types
types_fixed = search

pub record Holds (m : Option Meaning) (k w : ℕ) : Type 0 where
  pub type : DataType
  pub words : List ℕ
  pub is : m ≡ Some (IsConstant type words)
  pub at : slice_get words k ≡ Some w

word_held : (kind : ConstKind) (m : Option Meaning) (k w : ℕ) → word_in kind (constant_words m) k ≡ Some w → Holds m k w
word_held kinds.Known (Some (IsConstant t ws)) k w h = record { type = t; words = ws; is = refl; at = h }
word_held kind m k w h = cc

pub known_held : (insts : List Instruction) (id k w : ℕ) → known_word insts id k ≡ Some w → Holds (meaning (meanings insts) id) k w
known_held insts id k w h = word_held (kind_at insts id) (meaning (meanings insts) id) k w h

none_held : (ws : List ℕ) (k w : ℕ) → slice_get ws k ≡ Some w → length ws ≡ 0 → ⊥
none_held [] k w h e = cc
none_held (x ∷ ws) k w h e = absurd (omega (arith, e))

pub constant_fixed : (insts : List Instruction) → IsUnbroken insts → (id k w : ℕ) → Holds (meaning (meanings insts) id) k w → is_loose insts id ≡ false
constant_fixed insts clean id k w h =
    one_of-holds IsFixed (op.UNDEF ∷ constants) constants_fixed (kind insts id)
    (constant_kind insts id (only_constants_stand insts id h.type h.words clean h.is))

-- what no type stands for has no words
void_cells : (m : Option Meaning) → ((t : DataType) → m ≡ Some (IsType t) → ⊥) → cells (type_in m) ≡ 0
void_cells None h = refl
void_cells (Some (IsType t)) h = absurd (h t refl)
void_cells (Some (IsPointer class t)) h = refl
void_cells (Some (IsConstant t ws)) h = refl
void_cells (Some (IsVariable class t ws)) h = refl

type_loose : (insts : List Instruction) → IsUnbroken insts → (t : ℕ) → is_loose insts t ≡ true
    → (d : DataType) → meaning (meanings insts) t ≡ Some (IsType d) → ⊥
type_loose insts clean t loose d h = elim (either_holds (is_data insts t) (is_runtime_array insts t) (only_types_stand insts t d clean h)) [
  | inl e ↦ cc (sym loose ∙ one_of-holds IsFixed data_types types_fixed (kind insts t) e)
  | inr e ↦ cc (sym loose ∙ ap (is_one_of loose_kinds) (equal_true (kind insts t) op.TYPE_RUNTIME_ARRAY e))
]

-- its type is a type of values, since it has words
type_fixed : (insts : List Instruction) → IsUnbroken insts → (id k w : ℕ) → Holds (meaning (meanings insts) id) k w → is_loose insts (type_of insts id) ≡ false
type_fixed insts clean id k w h = by (is_loose insts (type_of insts id)) refl where
  by : (b : Bool) → is_loose insts (type_of insts id) ≡ b → b ≡ false
  by false e = refl
  by true e =
      let f = front_of insts (length insts) in
      let table = table_before insts f.m in
      let same : table ≡ meanings insts = sym f.same ∙ declared-whole insts in
      let here = ap (λ t. meaning t id) same ∙ h.is in
      let none = unbroken insts f.m clean.unrefused in
      let m = meant insts clean.whole f.m id (IsConstant h.type h.words) none f.outside here in
      let s = sound_constant insts clean.whole f.m id none f.outside m.before (only_constants_stand insts id h.type h.words clean h.is) in
      let words : s.words ≡ h.words = same_words (meaning table id) (type_at table (type_of insts id)) h.type s.words h.words s.stands here in
      let empty : cells (type_at table (type_of insts id)) ≡ 0 =
      void_cells (meaning table (type_of insts id))
      (λ d g. type_loose insts clean (type_of insts id) e d (sym (ap (λ t. meaning t (type_of insts id)) same) ∙ g)) in
      absurd (none_held h.words k w h.at (ap length (sym words) ∙ s.sized ∙ empty))

-- ---- so the same lengths are Known

module _ (insts again : List Instruction) (clean : IsUnbroken insts)
    (fixed : (id : ℕ) → is_loose insts id ≡ false → id_words again id 0 ≡ id_words insts id 0)
    (known : (id k : ℕ) → known_word again id k ≡ known_word insts id k) where
  word_same : (id k : ℕ) → is_loose insts id ≡ false → word_of again id k ≡ word_of insts id k
  word_same id k h = word_told again id k ∙ ap (λ ws. slice_index ws k) (fixed id h) ∙ sym (word_told insts id k)

  signed_same : (id w : ℕ) → known_word insts id 0 ≡ Some w → is_signed again id ≡ is_signed insts id
  signed_same id w h =
      let held = known_held insts id 0 w h in
      let type : type_of again id ≡ type_of insts id = word_same id 1 (constant_fixed insts clean id 0 w held) in
      ap (λ n. n == 1) (ap (λ t. word_of again t 3) type ∙ word_same (type_of insts id) 3 (type_fixed insts clean id 0 w held))

  length_by : (id : ℕ) (some : Bool) (o : Option ℕ) → known_word insts id 0 ≡ o
      → option_and_then (some_length (is_signed again id)) (cond some o None) ≡ option_and_then (some_length (is_signed insts id)) (cond some o None)
  length_by id false o h = refl
  length_by id true None h = refl
  length_by id true (Some w) h = ap (λ b. some_length b w) (signed_same id w h)

  pub length_same : (id : ℕ) → known_length again id ≡ known_length insts id
  unfolding known_length
  length_same id =
      ap (λ o. option_and_then (some_length (is_signed again id)) (cond (nat_lt 0 id) o None)) (known id 0)
      ∙ length_by id (nat_lt 0 id) (known_word insts id 0) refl
