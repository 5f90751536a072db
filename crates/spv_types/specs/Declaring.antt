-- What is known in front of a constant's declaration, and what is kept of the constant.
use Rattle.std.specs.Prelude.{◌≡◌, ℕ, ◌<◌, Bool, true, false, List, [], ◌∷◌, ◌++◌, length, nat_eq, slice_get, slice_index, Option, Some, None}
use Rattle.std.specs.Map.{lookup}
use Rattle.spv_module.specs.Instruction.{Instruction}
use Rattle.spv_value.specs.Eval.{AreBooleanWords}
use Rattle.spv_meaning.specs.Constants.{Table, Meaning, IsConstant, meaning, words_at, typed_at, composed}
use Rattle.spv_meaning.specs.Types.{DataType, cells}
use Rattle.spv_typing.specs.declared.shapes.Shape.{Shape}
use Rattle.spv_typing.specs.Kinds.{is_one_of, is_constant, type_of}
use Rattle.spv_typing.specs.Operations.{shape}
use Rattle.spv_declarations.specs.Declarations.{Declared, declared_before, says, entry}
use Rattle.spv_declarations.specs.Sound.{IsBefore, table_before, IsSoundConstant}
use Rattle.spv_types.specs.declared.meaning.Constant.{Constant}
use Rattle.spv_types.specs.declared.meaning.Kept.{Kept}
use Rattle.spv_types.specs.declared.meaning.Value.{Value}
use Rattle.spv_types.specs.declared.meaning.Value.TheVariants.{Small}
use Rattle.spv_value.specs.declared.words.Operand.{Operand}
use Rattle.spv_types.specs.Facts.{in_64_bits}
use Rattle.spv_types.specs.Meanings.{IsValue, StandFor, AllBelow, words_numbered, joined, is_small, constant_of_kept}
use Rattle.spv_types.specs.Steps.{IsNext}
use Rattle.spv_types.specs.Extracting.{AreComposed, IsPart, ArePartsOf, part_types, HasNumbers}

-- each Specialised id is a constant
pub record OnlyConstants (d : Declared) : Type 0 where
  pub at : (id : ℕ) → is_one_of d.specialised id ≡ true → (t : DataType) × (words : List ℕ) × (meaning d.table id ≡ Some (IsConstant t words))

-- constants before the k-th have as many words as a value of their type, and each of a boolean is 0 or 1
pub record AreSound (insts : List Instruction) (k : ℕ) : Type 0 where
  pub constants : (id : ℕ) → IsBefore insts k id → is_constant insts id ≡ true → IsSoundConstant insts (table_before insts k) id
  pub booleans : (id : ℕ) (s : Shape) → IsBefore insts k id → is_constant insts id ≡ true → shape insts (type_of insts id) ≡ Some s → s.is_boolean ≡ true →
      AreBooleanWords (words_at (table_before insts k) id)

-- the k-th declares a constant, and so much stands for what those before it declared
pub record IsReady (insts : List Instruction) (k : ℕ) (i : Instruction) (entries : List (ℕ × Kept)) : Type 0 where
  pub next : IsNext insts k i
  pub composed : AreComposed (declared_before insts k).table entries
  pub only : OnlyConstants (declared_before insts k)
  pub sound : AreSound insts k
  pub stand : StandFor (declared_before insts k).table (declared_before insts k).specialised entries

-- what is kept of a constant has these words, and parts of the types of the composite's parts
pub record HasWords (table : Table) (t : DataType) (words : List ℕ) (c : Constant) : Type 0 where
  pub value : IsValue table (length table) c.value t words
  pub cells : c.cells ≡ in_64_bits (length words)
  pub parts : (numbers : List ℕ) → HasNumbers c.value numbers → ArePartsOf table (part_types t) numbers

abbrev pub meaning_in_entry : Option (ℕ × Meaning) → Option Meaning
meaning_in_entry None = None
meaning_in_entry (Some e) = Some e.1

-- the number of an id's entry
pub record IsNumber (table : Table) (id n : ℕ) : Type 0 where
  pub within : n < length table
  pub same : words_numbered table n ≡ words_at table id
  pub meant : meaning_in_entry (slice_get table n) ≡ meaning table id

-- the words of a scalar or a vector, where it is one
abbrev pub IsOperandIn : Value → Operand → Type 0
IsOperandIn (Small y) x = x ≡ y
IsOperandIn v x = Unit {0}

abbrev pub IsOperandOf : Option Constant → Operand → Type 0
IsOperandOf None x = Unit {0}
IsOperandOf (Some c) x = IsOperandIn c.value x

-- whether a specialisation may change it
abbrev pub flag_of : Option Constant → Bool
flag_of None = false
flag_of (Some c) = c.is_specialised

-- scalars, which have one word each
abbrev pub AreScalars : Table → (ids : List ℕ) → Type 0
AreScalars table [] = Unit {0}
AreScalars table (id ∷ ids) = (is_small (typed_at table id).type ≡ true) × ((length (words_at table id) ≡ 1) × AreScalars table ids)

-- an id is a constant of a type, with as many words
pub record IsConstantOf (table : Table) (t : DataType) (id : ℕ) : Type 0 where
  pub words : List ℕ
  pub stands : meaning table id ≡ Some (IsConstant t words)
  pub sized : length words ≡ cells t

-- ids are constants of these types, one each
abbrev pub AreConstantsOf : Table → List DataType → (ids : List ℕ) → Type 0
AreConstantsOf table [] [] = Unit {0}
AreConstantsOf table [] (id ∷ ids) = ⊥
AreConstantsOf table (t ∷ ts) [] = ⊥
AreConstantsOf table (t ∷ ts) (id ∷ ids) = IsConstantOf table t id × AreConstantsOf table ts ids

-- entries of the table that have the words of the ids together; where the ids are constants of some types, the entries are too
pub record HasParts (table : Table) (ids : List ℕ) (numbers : List ℕ) : Type 0 where
  pub words_are : composed table ids ≡ joined table numbers
  pub below : AllBelow (length table) numbers
  pub typed : (ts : List DataType) → AreConstantsOf table ts ids → ArePartsOf table ts numbers

-- one entry more, which is a constant of a type
pub record AddsPart (table : Table) (t : DataType) (old new : List ℕ) : Type 0 where
  pub number : ℕ
  pub is : IsPart table t number
  pub behind : new ≡ old ++ number ∷ []

-- more entries, that have the words of the id behind the others'; where the id is a constant, it is one entry
pub record AddsNumber (table : Table) (id : ℕ) (old new : List ℕ) : Type 0 where
  pub words_are : joined table new ≡ joined table old ++ words_at table id
  pub below : AllBelow (length table) old → AllBelow (length table) new
  pub typed : (t : DataType) → IsConstantOf table t id → AddsPart table t old new

-- what is kept of a constant of these constituents, whatever array or struct it is
pub record HasConstituents (table : Table) (ids : List ℕ) (c : Constant) : Type 0 where
  pub value : (t : DataType) → is_small t ≡ false → IsValue table (length table) c.value t (composed table ids)
  pub cells : c.cells ≡ in_64_bits (length (composed table ids))
  pub typed : (ts : List DataType) → AreConstantsOf table ts ids → (numbers : List ℕ) → HasNumbers c.value numbers → ArePartsOf table ts numbers

-- the flag of an id
abbrev pub flag_at : List (ℕ × Kept) → (id : ℕ) → Bool
flag_at entries id = flag_of (constant_of_kept (lookup (nat_eq id) entries))

-- the constant that the instruction declares has the words that are kept
pub record DeclaresWords (insts : List Instruction) (k : ℕ) (i : Instruction) (c : Constant) : Type 0 where
  pub type : DataType
  pub words : List ℕ
  pub stands : entry (says insts) (table_before insts k) i ≡ Some (slice_index i.words 2, IsConstant type words)
  pub has : HasWords (table_before insts k) type words c

-- scalars and vectors
abbrev pub AreSmall : Table → (ids : List ℕ) → Type 0
AreSmall table [] = Unit {0}
AreSmall table (id ∷ ids) = (is_small (typed_at table id).type ≡ true) × AreSmall table ids
