-- Parts of objects: where the part at an index begins, and its type.
use Rattle.std.specs.Prelude.{ℕ, zero, suc, ◌+◌, ◌-◌, ◌*◌, ◌/◌, Bool, false, cond, nat_lt, List, [], ◌∷◌, Option, Some, None}
use Rattle.spv_meaning.specs.Types.{DataType, Void, Boolean, Integer, Vector, Array, RuntimeArray, Struct, Members, NoMember, Member, in_words, cells}

-- how many elements a runtime array has that begins at a position
abbrev pub room : (size : Option ℕ) (first stride : ℕ) → ℕ
room None first stride = 0
room (Some n) first stride = (n - first) / stride

-- a part: its first position and its type
pub record Part : Type 0 where
  pub first : ℕ
  pub type : DataType

-- an element of n, each so far behind the one before
abbrev pub element : (n stride : ℕ) → DataType → (first index : ℕ) → Option Part
element n stride t first index = cond (nat_lt index n) (Some (record { first = first + index * stride; type = t })) None

abbrev pub member : (laid : Bool) (packed : ℕ) → Members → (first index : ℕ) → Option Part
member laid packed NoMember first index = None
member laid packed (Member offset volatile t rest) first zero = Some (record { first = first + cond laid (in_words offset) packed; type = t })
member laid packed (Member offset volatile t rest) first (suc index) = member laid (packed + cells t) rest first index

-- the part of an object at an index, where the object begins at a position of a memory of this size
abbrev pub part : (laid : Bool) (size : Option ℕ) → DataType → (first index : ℕ) → Option Part
part laid size Void first index = None
part laid size Boolean first index = None
part laid size (Integer width signed) first index = None
part laid size (Vector count t) first index = element count (cells t) t first index
part laid size (Array stride count t) first index = element count (cond laid (in_words stride) (cells t)) t first index
part laid size (RuntimeArray stride t) first index = element (room size first (in_words stride)) (in_words stride) t first index
part laid size (Struct members) first index = member laid 0 members first index

abbrev pub and_then : {X Y : Type 0} → Option X → (X → Option Y) → Option Y
and_then None f = None
and_then (Some x) f = f x

-- the part of a value, whose words are packed, that literal indexes lead to
abbrev pub packed_part : (literals : List ℕ) → Part → Option Part
packed_part [] p = Some p
packed_part (index ∷ rest) p = and_then (part false None p.type p.first index) (packed_part rest)
