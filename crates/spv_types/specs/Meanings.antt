-- What is kept of the meanings of ids: entry by entry, it stands for the table's.
use Rattle.std.specs.Prelude.{◌≡◌, ℕ, suc, ◌<◌, Bool, true, false, not, List, [], ◌∷◌, ◌++◌, length, replicate, slice_get, Option, Some, None}
use Rattle.spv_value.specs.Words.{words_of}
use Rattle.spv_meaning.specs.Constants.{Table, Meaning, IsType, IsPointer, IsConstant, IsVariable}
use Rattle.spv_meaning.specs.Types.{DataType, Void, Boolean, Integer, Vector}
use Rattle.spv_typing.specs.Kinds.{is_one_of}
use Rattle.spv_types.specs.declared.facts.TypeFacts.{TypeFacts}
use Rattle.spv_types.specs.declared.meaning.Constant.{Constant}
use Rattle.spv_types.specs.declared.meaning.Value.{Value}
use Rattle.spv_types.specs.declared.meaning.Value.TheVariants.{Small, Zeros, Parts}
use Rattle.spv_types.specs.declared.meaning.Kept.{Kept}
use Rattle.spv_types.specs.declared.meaning.Kept.TheVariants as kept
use Rattle.spv_types.specs.Facts.{facts, in_64_bits}

-- a scalar or a vector
abbrev pub is_small : DataType → Bool
is_small Boolean = true
is_small (Integer width signed) = true
is_small (Vector count t) = true
is_small t = false

-- the words of the constant that is the n-th entry of the table
abbrev pub words_in_entry : Option (ℕ × Meaning) → List ℕ
words_in_entry (Some (r, IsConstant t words)) = words
words_in_entry other = []

abbrev pub words_numbered : Table → (n : ℕ) → List ℕ
words_numbered table n = words_in_entry (slice_get table n)

abbrev pub joined : Table → (numbers : List ℕ) → List ℕ
joined table [] = []
joined table (n ∷ ns) = words_numbered table n ++ joined table ns

abbrev pub AllBelow : (n : ℕ) → List ℕ → Type 0
AllBelow n [] = Unit {0}
AllBelow n (x ∷ xs) = (x < n) × AllBelow n xs

-- the words that a value stands for: a scalar or a vector has its own, and the parts of a composite are entries before the n-th
abbrev pub IsValue : Table → (n : ℕ) → Value → DataType → List ℕ → Type 0
IsValue table n (Small operand) t words = (words_of operand ≡ words) × (is_small t ≡ true)
IsValue table n Zeros t words = ((m : ℕ) × (words ≡ replicate m 0)) × (is_small t ≡ false)
IsValue table n (Parts numbers) t words = (words ≡ joined table numbers.items) × (AllBelow n numbers.items × (is_small t ≡ false))

-- what is kept of the n-th entry, whose id is r, stands for its meaning
abbrev pub StandsFor : Table → (specialised : List ℕ) → (n r : ℕ) → Kept → Meaning → Type 0
StandsFor table specialised n r (kept.Type f) (IsType t) = f ≡ facts t
StandsFor table specialised n r (kept.Pointer f) (IsPointer class t) = f ≡ facts t
StandsFor table specialised n r (kept.Constant c) (IsConstant t words) =
    IsValue table n c.value t words × ((c.cells ≡ in_64_bits (length words)) × (c.is_specialised ≡ is_one_of specialised r))
StandsFor table specialised n r kept.Variable (IsVariable class t words) = Unit {0}
StandsFor table specialised n r k m = ⊥

-- entries from the n-th on
abbrev pub StandFrom : Table → (specialised : List ℕ) → (n : ℕ) → List (ℕ × Kept) → Table → Type 0
StandFrom table specialised n [] [] = Unit {0}
StandFrom table specialised n [] (t ∷ ts) = ⊥
StandFrom table specialised n (k ∷ ks) [] = ⊥
StandFrom table specialised n (k ∷ ks) (t ∷ ts) = (k.0 ≡ t.0) × (StandsFor table specialised n t.0 k.1 t.1 × StandFrom table specialised (suc n) ks ts)

abbrev pub StandFor : Table → (specialised : List ℕ) → List (ℕ × Kept) → Type 0
StandFor table specialised ks = StandFrom table specialised 0 ks table

-- what a look-up of a type gives, void for everything else
abbrev pub type_of_kept : Option Kept → TypeFacts
type_of_kept (Some (kept.Type f)) = f
type_of_kept k = facts Void

abbrev pub pointee_of_kept : Option Kept → TypeFacts
pointee_of_kept (Some (kept.Pointer f)) = f
pointee_of_kept k = facts Void

-- what a look-up of a constant gives
abbrev pub constant_of_kept : Option Kept → Option Constant
constant_of_kept (Some (kept.Constant c)) = Some c
constant_of_kept k = None

abbrev pub second : Option (ℕ × Kept) → Option Kept
second None = None
second (Some e) = Some e.1

-- how many words a constant has, where one is kept
abbrev pub cells_of_constant : Option Constant → Option ℕ
cells_of_constant None = Some 0
cells_of_constant (Some c) = c.cells

-- the entries stand for those of some table
abbrev pub Stand : List (ℕ × Kept) → Type 0
Stand ks = (table : Table) × (ids : List ℕ) × StandFor table ids ks

-- whether a constant is kept that is Known
abbrev pub known_of_kept : Option Kept → Bool
known_of_kept (Some (kept.Constant c)) = not c.is_specialised
known_of_kept k = false
