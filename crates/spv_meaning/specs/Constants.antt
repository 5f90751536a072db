-- What ids outside functions stand for, under a specialisation: types, constants and variables.
use Rattle.std.specs.Prelude.{ℕ, suc, map, true, cond, ◌==◌, ◌&&◌, nat_eq, List, [], ◌∷◌, ◌++◌, slice_index, Option, Some, None, is_some}
use Rattle.std.specs.Map.{lookup}
use Rattle.std.specs.Option.{unwrap_or, option_map}
use Rattle.spv_opcodes.specs.declared.decoration.TheConstants as decoration
use Rattle.spv_opcodes.specs.declared.storage_class.TheConstants as storage_class
use Rattle.spv_meaning.specs.Statements as says
use Rattle.spv_meaning.specs.Statements.{Statement}
use Rattle.spv_meaning.specs.Computations.{Typed, no_value, computed}
pub use Rattle.spv_meaning.specs.Types.{zeros}
use Rattle.spv_meaning.specs.Types.{DataType, Void, Boolean, Integer, Vector, Array, RuntimeArray, Struct, Members, NoMember, Member, booleans, number_in, not_negative, fitted}

-- words for constants by their SpecId; of two of one number the first counts
abbrev pub Specialisation : Type 0
Specialisation = List (ℕ × List ℕ)

-- the literals behind a decoration of an id, and of a member of it; of two of one kind the first counts
abbrev pub decorated : List Statement → (id kind : ℕ) → Option (List ℕ)
decorated [] id kind = None
decorated (says.Decorate target what literals ∷ rest) id kind = cond (target == id && what == kind) (Some literals) (decorated rest id kind)
decorated (s ∷ rest) id kind = decorated rest id kind

abbrev pub member_decorated : List Statement → (id number kind : ℕ) → Option (List ℕ)
member_decorated [] id number kind = None
member_decorated (says.MemberDecorate target member what literals ∷ rest) id number kind =
    cond (target == id && (member == number && what == kind)) (Some literals) (member_decorated rest id number kind)
member_decorated (s ∷ rest) id number kind = member_decorated rest id number kind

-- the first literal behind a decoration, where it is there; and that or 0
abbrev pub first_literal : Option (List ℕ) → Option ℕ
first_literal None = None
first_literal (Some literals) = Some (slice_index literals 0)

abbrev pub literal : Option (List ℕ) → ℕ
literal literals = unwrap_or (first_literal literals) 0

pub data Meaning : Type 0 where
  IsType : DataType → Meaning
  IsPointer : (class : ℕ) (target : DataType) → Meaning
  IsConstant : DataType → (words : List ℕ) → Meaning
  -- a variable outside functions, by what it begins with
  IsVariable : (class : ℕ) (target : DataType) (words : List ℕ) → Meaning

-- by id, in the order of the module; of two of one id the first counts
abbrev pub Table : Type 0
Table = List (ℕ × Meaning)

abbrev pub meaning : Table → ℕ → Option Meaning
meaning table id = lookup (nat_eq id) table

abbrev pub type_in : Option Meaning → DataType
type_in (Some (IsType t)) = t
type_in m = Void

abbrev pub type_at : Table → ℕ → DataType
type_at table id = type_in (meaning table id)

-- the storage class and the type that a pointer type points to
abbrev pub pointer_in : Option Meaning → ℕ × DataType
pointer_in (Some (IsPointer class target)) = (class, target)
pointer_in m = (0, Void)

abbrev pub pointer_at : Table → ℕ → ℕ × DataType
pointer_at table id = pointer_in (meaning table id)

abbrev pub words_in : Option Meaning → List ℕ
words_in (Some (IsConstant t words)) = words
words_in m = []

abbrev pub words_at : Table → ℕ → List ℕ
words_at table id = words_in (meaning table id)

-- a constant as the operand of an operation
abbrev pub typed_in : Option Meaning → Typed
typed_in (Some (IsConstant t words)) = record { type = t; words = words }
typed_in m = no_value

abbrev pub typed_at : Table → ℕ → Typed
typed_at table id = typed_in (meaning table id)

-- an array's length, read by the signedness of its constant's type; one below 1 counts as 0
abbrev pub length_in : Option Meaning → ℕ
length_in (Some (IsConstant (Integer width true) words)) = unwrap_or (not_negative words) 0
length_in (Some (IsConstant t words)) = number_in words
length_in m = 0

abbrev pub length_at : Table → ℕ → ℕ
length_at table id = length_in (meaning table id)

-- the stride of an array type, in bytes
abbrev pub stride_of : List Statement → (id : ℕ) → Option ℕ
stride_of all id = first_literal (decorated all id decoration.ARRAY_STRIDE)

-- the members of a struct type from a number on
abbrev pub members_of : List Statement → Table → (id number : ℕ) → (types : List ℕ) → Members
members_of all table id number [] = NoMember
members_of all table id number (t ∷ ts) =
    Member (first_literal (member_decorated all id number decoration.OFFSET)) (is_some (member_decorated all id number decoration.VOLATILE)) (type_at table t)
    (members_of all table id (suc number) ts)

-- the words of constants, one after another
abbrev pub composed : Table → List ℕ → List ℕ
composed table [] = []
composed table (id ∷ ids) = words_at table id ++ composed table ids

-- the words of a constant with a SpecId: those given, else its own
abbrev pub given : (spec_id : Option (List ℕ)) → Specialisation → DataType → (default : List ℕ) → List ℕ
given None s t default = default
given (Some literals) s t default = unwrap_or (option_map (fitted (booleans t)) (lookup (nat_eq (slice_index literals 0)) s)) default

-- what a variable begins with: its initialiser, or zeros
abbrev pub initial : Table → DataType → (initialiser : List ℕ) → List ℕ
initial table t [] = zeros t
initial table t (id ∷ ids) = words_at table id

abbrev pub variable : Table → (class : ℕ) → DataType → (initialiser : List ℕ) → Option Meaning
variable table class target initialiser = cond (class == storage_class.FUNCTION) None (Some (IsVariable class target (initial table target initialiser)))

-- what the id that a statement defines stands for
abbrev pub defined : List Statement → Specialisation → Table → Statement → Option (ℕ × Meaning)
defined all s table (says.TypeBool r) = Some (r, IsType Boolean)
defined all s table (says.TypeInt r width signedness) = Some (r, IsType (Integer width (signedness == 1)))
defined all s table (says.TypeVector r component count) = Some (r, IsType (Vector count (type_at table component)))
defined all s table (says.TypeArray r element length) = Some (r, IsType (Array (stride_of all r) (length_at table length) (type_at table element)))
defined all s table (says.TypeRuntimeArray r element) = Some (r, IsType (RuntimeArray (stride_of all r) (type_at table element)))
defined all s table (says.TypeStruct r members) = Some (r, IsType (Struct (members_of all table r 0 members)))
defined all s table (says.TypePointer r class target) = Some (r, IsPointer class (type_at table target))
defined all s table (says.Constant t r words) = Some (r, IsConstant (type_at table t) words)
defined all s table (says.ConstantComposite t r parts) = Some (r, IsConstant (type_at table t) (composed table parts))
defined all s table (says.ConstantNull t r) = Some (r, IsConstant (type_at table t) (zeros (type_at table t)))
defined all s table (says.Undef t r) = Some (r, IsConstant (type_at table t) (zeros (type_at table t)))
defined all s table (says.SpecConstant t r words) =
    Some (r, IsConstant (type_at table t) (given (decorated all r decoration.SPEC_ID) s (type_at table t) words))
defined all s table (says.SpecConstantOp computation t r operands) =
    Some (r, IsConstant (type_at table t) (computed computation (type_at table t) (map (typed_at table) operands)))
defined all s table (says.Variable t r class initialiser) =
    let target = pointer_at table t in
    option_map (λ m. (r, m)) (variable table class target.1 initialiser)
defined all s table other = None

abbrev pub with_entry : Table → Option (ℕ × Meaning) → Table
with_entry table None = table
with_entry table (Some e) = table ++ e ∷ []

-- the table of a module up to its first function, from what its statements so far define
abbrev pub table_from : List Statement → Specialisation → Table → List Statement → Table
table_from all s table [] = table
table_from all s table (says.Function r ∷ rest) = table
table_from all s table (statement ∷ rest) = table_from all s (with_entry table (defined all s table statement)) rest

abbrev pub table_of : List Statement → Specialisation → Table
table_of all s = table_from all s [] all
