-- What the tables tell of a module in which nothing is specialised: which ids are constants and of what kind, the words of Known ones, and how many words
-- a value of a type has.
use Rattle.std.specs.Prelude.{ℕ, Bool, cond, List, length, slice_get, Option, Some, None}
use Rattle.std.specs.Option.{option_map}
use Rattle.spv_module.specs.Instruction.{Instruction}
use Rattle.spv_meaning.specs.Constants.{Meaning, meaning, type_at}
use Rattle.spv_meaning.specs.Meanings.{constant_words}
use Rattle.spv_meaning.specs.Types.{DataType, cells}
use Rattle.spv_typing.specs.Kinds.{is_one_of}
use Rattle.spv_declarations.specs.Declarations.{declared_before}
use Rattle.spv_declarations.specs.Laws.{meanings}
use Rattle.spv_types.specs.declared.meaning.ConstKind.{ConstKind}
use Rattle.spv_types.specs.declared.meaning.ConstKind.TheVariants as kinds
use Rattle.spv_types.specs.declared.meaning.Constant.{Constant}
use Rattle.spv_types.specs.Facts.{is_data_type, in_64_bits}

-- the Specialised constants of a module
abbrev pub specialised : List Instruction → List ℕ
specialised insts = (declared_before insts (length insts)).specialised

-- the words of a constant
abbrev pub constant_at : List Instruction → (id : ℕ) → Option (List ℕ)
constant_at insts id = constant_words (meaning (meanings insts) id)

-- the kind of what has words as a constant, or has none
abbrev pub kind_in : (is_specialised : Bool) → Option (List ℕ) → ConstKind
kind_in is_specialised None = kinds.NotConstant
kind_in is_specialised (Some words) = cond is_specialised kinds.Specialised kinds.Known

abbrev pub constant_kind : List Instruction → (id : ℕ) → ConstKind
constant_kind insts id = kind_in (is_one_of (specialised insts) id) (constant_at insts id)

-- the k-th word of a Known constant
abbrev pub word_in : ConstKind → Option (List ℕ) → (k : ℕ) → Option ℕ
word_in kinds.Known (Some words) k = slice_get words k
word_in kind words k = None

abbrev pub known_word : List Instruction → (id k : ℕ) → Option ℕ
known_word insts id k = word_in (constant_kind insts id) (constant_at insts id) k

-- how many words a value of a data type has, where 64 bits have room for the number
abbrev pub cells_in : DataType → Option ℕ
cells_in t = cond (is_data_type t) (in_64_bits (cells t)) None

abbrev pub data_cells : List Instruction → (t : ℕ) → Option ℕ
data_cells insts t = cells_in (type_at (meanings insts) t)

-- the id of the n-th declaration of those that have a meaning, in the order of the module: void and function types have none
abbrev pub declared_id : List Instruction → (n : ℕ) → Option ℕ
declared_id insts n = option_map (λ (e : ℕ × Meaning). e.0) (slice_get (meanings insts) n)

-- the kind of what is kept of a constant
abbrev pub kind_of_kept : Option Constant → ConstKind
kind_of_kept None = kinds.NotConstant
kind_of_kept (Some c) = cond c.is_specialised kinds.Specialised kinds.Known
