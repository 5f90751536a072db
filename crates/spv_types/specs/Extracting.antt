-- The part of a kept constant that literals lead to, from part to part.
use Rattle.std.specs.Prelude.{◌≡◌, ℕ, ◌<◌, ◌≤◌, List, [], ◌∷◌, length, replicate, slice_get, slice_index, Option, Some, None, Result, Ok, Err}
use Rattle.spv_value.specs.declared.words.Operand.{Operand}
use Rattle.spv_value.specs.Words.{words_of}
use Rattle.spv_meaning.specs.Constants.{Table, IsConstant}
use Rattle.spv_meaning.specs.Types.{DataType, Vector, Array, Struct, cells}
use Rattle.spv_folding.specs.Folding.{member_types}
use Rattle.spv_types.specs.declared.meaning.Constant.{Constant}
use Rattle.spv_types.specs.declared.meaning.Kept.{Kept}
use Rattle.spv_types.specs.declared.meaning.Value.{Value}
use Rattle.spv_types.specs.declared.meaning.Value.TheVariants.{Small, Zeros, Parts}
use Rattle.spv_types.specs.Meanings.{constant_of_kept, second}

-- literals that lead from a type to another: into structs to a member, into arrays, and into vectors to a component
abbrev pub LeadsTo : (t u : DataType) → (literals : List ℕ) → Type 0
LeadsTo t u [] = u ≡ t
LeadsTo t (Vector n v) (j ∷ rest) = (j < n) × ((cells v ≡ 1) × ((v ≡ t) × (rest ≡ [])))
LeadsTo t (Array stride n v) (j ∷ rest) = LeadsTo t v rest
LeadsTo t (Struct ms) (j ∷ rest) = (v : DataType) × ((slice_get (member_types ms) j ≡ Some v) × LeadsTo t v rest)
LeadsTo t u (j ∷ rest) = ⊥

-- an entry is a constant of a type, with as many words
pub record IsPart (table : Table) (t : DataType) (n : ℕ) : Type 0 where
  pub id : ℕ
  pub words : List ℕ
  pub stands : slice_get table n ≡ Some (id, IsConstant t words)
  pub sized : length words ≡ cells t

-- entries are constants of these types
abbrev pub ArePartsOf : Table → List DataType → (numbers : List ℕ) → Type 0
ArePartsOf table [] [] = Unit {0}
ArePartsOf table [] (n ∷ ns) = ⊥
ArePartsOf table (t ∷ ts) [] = ⊥
ArePartsOf table (t ∷ ts) (n ∷ ns) = IsPart table t n × ArePartsOf table ts ns

-- the types of a composite's parts
abbrev pub part_types : DataType → List DataType
part_types (Struct ms) = member_types ms
part_types (Array stride n v) = replicate n v
part_types t = []

-- the numbers of the parts that a value has
abbrev pub HasNumbers : Value → List ℕ → Type 0
HasNumbers (Parts vec) numbers = vec.items ≡ numbers
HasNumbers v numbers = ⊥

-- constants have as many words as their types, and parts that are kept are of the types of parts
pub record AreComposed (table : Table) (entries : List (ℕ × Kept)) : Type 0 where
  pub sized : (n id : ℕ) (t : DataType) (words : List ℕ) → slice_get table n ≡ Some (id, IsConstant t words) → length words ≡ cells t
  pub parts : (n id : ℕ) (t : DataType) (words : List ℕ) (c : Constant) (numbers : List ℕ) → slice_get table n ≡ Some (id, IsConstant t words) → constant_of_kept (second (slice_get entries n)) ≡ Some c →
      HasNumbers c.value numbers → ArePartsOf table (part_types t) numbers

-- one literal into a value: the number of a part, or the words of a result of so many words
abbrev pub IsValueStep : Value → (index count : ℕ) → Result ℕ Operand → Type 0
IsValueStep (Parts numbers) index count (Ok n) = slice_get numbers.items index ≡ Some n
IsValueStep (Parts numbers) index count (Err x) = (slice_get numbers.items index ≡ None) × (count ≤ 4 → words_of x ≡ replicate count 0)
IsValueStep (Small v) index count (Err x) = words_of x ≡ slice_index (words_of v) index ∷ []
IsValueStep Zeros index count (Err x) = count ≤ 4 → words_of x ≡ replicate count 0
IsValueStep v index count (Ok n) = ⊥

abbrev pub IsStep : Option Constant → (index count : ℕ) → Result ℕ Operand → Type 0
IsStep None index count r = Unit {0}
IsStep (Some c) index count r = IsValueStep c.value index count r
