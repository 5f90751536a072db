-- What the ids of a module stand for under a specialisation: the words of constants, the number of words of a type, and their positions.
use Rattle.std.specs.Prelude.{ℕ, Bool, ◌==◌, ◌||◌, List, Option, Some, None}
use Rattle.spv_opcodes.specs.declared.storage_class.TheConstants as storage_class
use Rattle.spv_module.specs.Code.{Code}
use Rattle.spv_meaning.specs.Statements.{Statement, words_of, statements_in}
use Rattle.spv_meaning.specs.Types.{DataType, cells, spots}
use Rattle.spv_meaning.specs.Constants.{Specialisation, Meaning, IsConstant, meaning, type_at, table_of}

-- what the instructions of a module say; where they stand in the file does not matter
abbrev pub statements : Code → List Statement
statements m = statements_in (words_of m.insts)

-- a storage class in which offsets and strides tell the positions
abbrev pub is_laid : (class : ℕ) → Bool
is_laid class = class == storage_class.STORAGE_BUFFER || class == storage_class.UNIFORM || class == storage_class.PUSH_CONSTANT

abbrev pub constant_words : Option Meaning → Option (List ℕ)
constant_words (Some (IsConstant t words)) = Some words
constant_words m = None

-- the words of a constant under a specialisation
abbrev pub Const : Code → Specialisation → ℕ → Option (List ℕ)
Const m s id = constant_words (meaning (table_of (statements m) s) id)

abbrev pub type_of : Code → Specialisation → ℕ → DataType
type_of m s id = type_at (table_of (statements m) s) id

-- how many words a value of a type has
abbrev pub Cells : Code → Specialisation → ℕ → ℕ
Cells m s id = cells (type_of m s id)

-- their positions in a storage class
abbrev pub Spots : Code → Specialisation → ℕ → (class : ℕ) → List ℕ
Spots m s id class = spots (is_laid class) (type_of m s id)
