-- Memories, places in them, and the part of an object that indexes lead to.
use Rattle.std.specs.Prelude.{ℕ, zero, suc, Bool, true, false, cond, ◌==◌, ◌&&◌, ◌||◌, nat_lt, List, [], ◌∷◌, Option, Some, None}
use Rattle.std.specs.List.{list_all}
use Rattle.spv_opcodes.specs.declared.storage_class.TheConstants as storage_class
pub use Rattle.spv_meaning.specs.Meanings.{is_laid}
pub use Rattle.spv_meaning.specs.Parts.{Part, room, part, and_then}
use Rattle.spv_meaning.specs.Types.{DataType, Void, Boolean, Integer, Vector, Array, RuntimeArray, Struct, Members, NoMember, Member, in_words, spots, moved_by, number_in, not_negative}

-- a number for each of three dimensions
pub record Triple : Type 0 where
  pub x : ℕ
  pub y : ℕ
  pub z : ℕ

abbrev pub same_triple : Triple → Triple → Bool
same_triple a b = a.x == b.x && (a.y == b.y && a.z == b.z)

-- variables that are bound to one set and binding share a memory; each workgroup has its own of each Workgroup variable, each invocation of each Input and
-- Private variable, and each call of each Function variable, where depth is the number of calls below
pub data Memory : Type 0 where
  Buffer : (set binding : ℕ) → Memory
  Uniform : (set binding : ℕ) → Memory
  Push : Memory
  Workgroup : (group : Triple) (variable : ℕ) → Memory
  Input : (variable : ℕ) → Memory
  Private : (variable : ℕ) → Memory
  Local : (depth variable : ℕ) → Memory

-- an object in a memory: its first position, and the positions of its words
pub record Place : Type 0 where
  pub memory : Memory
  pub first : ℕ
  pub positions : List ℕ

-- a storage class whose memory all invocations, or those of a workgroup, share and may change
abbrev pub is_shared : (class : ℕ) → Bool
is_shared class = class == storage_class.STORAGE_BUFFER || class == storage_class.WORKGROUP

-- an object of a type from a position on
abbrev pub object_at : (class : ℕ) → Memory → (first : ℕ) → DataType → Place
object_at class memory first t = record { memory = memory; first = first; positions = moved_by first (spots (is_laid class) t) }

-- no position passes the end of a memory of this size; a memory without a size is never too short
abbrev pub is_within : (size : Option ℕ) → List ℕ → Bool
is_within None positions = true
is_within (Some n) positions = list_all (λ x. nat_lt x n) positions

-- an index is read as signed: a negative one is outside
abbrev pub part_at : (laid : Bool) (size : Option ℕ) → DataType → (first : ℕ) (index : Option ℕ) → Option Part
part_at laid size t first None = None
part_at laid size t first (Some index) = part laid size t first index

-- the part that indexes lead to, each the words of an integer
abbrev pub parts_along : (laid : Bool) (size : Option ℕ) → (indexes : List (List ℕ)) → Part → Option Part
parts_along laid size [] p = Some p
parts_along laid size (ws ∷ rest) p = and_then (part_at laid size p.type p.first (not_negative ws)) (parts_along laid size rest)

-- where it is not past the end of its memory
abbrev pub kept_within : (size : Option ℕ) → Place → Option Place
kept_within size p = cond (is_within size p.positions) (Some p) None

-- the place that indexes lead to from a place that holds a type; none is Nowhere
unfoldable pub locate : (class : ℕ) (size : Option ℕ) → DataType → Option Place → (indexes : List (List ℕ)) → Option Place
locate class size t place indexes =
    and_then place (λ p.
    and_then (parts_along (is_laid class) size indexes (record { first = p.first; type = t })) (λ q.
    kept_within size (object_at class p.memory q.first q.type)))

-- how many elements a runtime array has; anything else has none
abbrev pub elements : (size : Option ℕ) (first : ℕ) → DataType → ℕ
elements size first (RuntimeArray stride t) = room size first (in_words stride)
elements size first other = 0

abbrev pub elements_of : (size : Option ℕ) → Option Part → ℕ
elements_of size None = 0
elements_of size (Some p) = elements size p.first p.type

-- how many the member has that the struct at a place ends in
unfoldable pub array_length : (class : ℕ) (size : Option ℕ) → DataType → Option Place → (member : ℕ) → ℕ
array_length class size t place member = elements_of size (and_then place (λ p. part (is_laid class) size t p.first member))

-- whether the member at an index is volatile, and the type of the part at an index, in memory or not
abbrev pub volatile_member : Members → (index : ℕ) → Bool
volatile_member NoMember index = false
volatile_member (Member offset volatile t rest) zero = volatile
volatile_member (Member offset volatile t rest) (suc index) = volatile_member rest index

abbrev pub is_volatile_part : DataType → (index : ℕ) → Bool
is_volatile_part (Struct members) index = volatile_member members index
is_volatile_part t index = false

abbrev pub member_type : Members → (index : ℕ) → DataType
member_type NoMember index = Void
member_type (Member offset volatile t rest) zero = t
member_type (Member offset volatile t rest) (suc index) = member_type rest index

abbrev pub part_type : DataType → (index : ℕ) → DataType
part_type Void index = Void
part_type Boolean index = Void
part_type (Integer width signed) index = Void
part_type (Vector count t) index = t
part_type (Array stride count t) index = t
part_type (RuntimeArray stride t) index = t
part_type (Struct members) index = member_type members index

-- some member that the indexes pass is volatile
abbrev pub passes_volatile : DataType → (indexes : List (List ℕ)) → Bool
passes_volatile t [] = false
passes_volatile t (ws ∷ rest) = is_volatile_part t (number_in ws) || passes_volatile (part_type t (number_in ws)) rest
