-- Types of values, and the words of a value: how many they are, which are booleans, and at which positions they lie.
use Rattle.std.specs.Prelude.{ℕ, zero, suc, ◌+◌, ◌*◌, ◌/◌, ◌%◌, ◌^◌, Bool, true, false, cond, ◌==◌, nat_lt, List, [], ◌∷◌, ◌++◌, map, replicate, length, Option, Some, None}

-- The stride of an array and the offset of a member are in bytes, where a decoration gives them. A member may be volatile.
mutual
  pub data DataType : Type 0 where
    -- what has no value
    Void : DataType
    Boolean : DataType
    Integer : (width : ℕ) (signed : Bool) → DataType
    Vector : (count : ℕ) (component : DataType) → DataType
    Array : (stride : Option ℕ) (count : ℕ) (element : DataType) → DataType
    RuntimeArray : (stride : Option ℕ) (element : DataType) → DataType
    Struct : Members → DataType

  pub data Members : Type 0 where
    NoMember : Members
    Member : (offset : Option ℕ) (volatile : Bool) (part : DataType) → Members → Members

-- bytes as words, 0 where none are given
abbrev pub in_words : Option ℕ → ℕ
in_words None = 0
in_words (Some bytes) = bytes / 4

-- n copies of a list, one after another
abbrev pub copies : {X : Type 0} → ℕ → List X → List X
copies zero xs = []
copies (suc n) xs = xs ++ copies n xs

-- how many words a value has; a runtime array counts as none
abbrev mutual
  pub cells : DataType → ℕ
  cells Void = 0
  cells Boolean = 1
  cells (Integer width signed) = width / 32
  cells (Vector count t) = count * cells t
  cells (Array stride count t) = count * cells t
  cells (RuntimeArray stride t) = 0
  cells (Struct members) = member_cells members

  pub member_cells : Members → ℕ
  member_cells NoMember = 0
  member_cells (Member offset volatile t rest) = cells t + member_cells rest

-- what a value is that nothing was put into
abbrev pub zeros : DataType → List ℕ
zeros t = replicate (cells t) 0

-- which words of a value are booleans
abbrev mutual
  pub booleans : DataType → List Bool
  booleans Void = []
  booleans Boolean = true ∷ []
  booleans (Integer width signed) = copies (width / 32) (false ∷ [])
  booleans (Vector count t) = copies count (booleans t)
  booleans (Array stride count t) = copies count (booleans t)
  booleans (RuntimeArray stride t) = []
  booleans (Struct members) = member_booleans members

  pub member_booleans : Members → List Bool
  member_booleans NoMember = []
  member_booleans (Member offset volatile t rest) = booleans t ++ member_booleans rest

-- these positions, so far on
abbrev pub moved_by : ℕ → List ℕ → List ℕ
moved_by n xs = map (λ x. n + x) xs

-- n copies of these positions, each so far behind the one before
abbrev pub repeated : ℕ → ℕ → List ℕ → List ℕ
repeated zero stride xs = []
repeated (suc n) stride xs = xs ++ moved_by stride (repeated n stride xs)

-- the positions of a value's words from 0 on: laid out by strides and offsets, or packed
abbrev mutual
  pub spots : (laid : Bool) → DataType → List ℕ
  spots laid Void = []
  spots laid Boolean = 0 ∷ []
  spots laid (Integer width signed) = repeated (width / 32) 1 (0 ∷ [])
  spots laid (Vector count t) = repeated count (cells t) (spots laid t)
  spots laid (Array stride count t) = repeated count (cond laid (in_words stride) (cells t)) (spots laid t)
  spots laid (RuntimeArray stride t) = []
  spots laid (Struct members) = member_spots laid 0 members

  -- the first member is at `packed` if it is not laid out
  pub member_spots : (laid : Bool) (packed : ℕ) → Members → List ℕ
  member_spots laid packed NoMember = []
  member_spots laid packed (Member offset volatile t rest) =
      moved_by (cond laid (in_words offset) packed) (spots laid t) ++ member_spots laid (packed + cells t) rest

-- words as one number, the lowest first
abbrev pub number_in : List ℕ → ℕ
number_in [] = 0
number_in (w ∷ ws) = w + 2 ^ 32 * number_in ws

-- the number that words are as signed, where that is not negative
abbrev pub not_negative : List ℕ → Option ℕ
not_negative ws = cond (nat_lt (2 * number_in ws) (2 ^ (32 * length ws))) (Some (number_in ws)) None

-- a word as that of a boolean, which is 0 or 1, or of another
abbrev pub fitted_word : (is_boolean : Bool) → ℕ → ℕ
fitted_word true w = cond (w % 2 ^ 32 == 0) 0 1
fitted_word false w = w % 2 ^ 32

-- words given for a value: missing ones are 0, further ones do not count, and each is read modulo 2^32
abbrev pub fitted : List Bool → List ℕ → List ℕ
fitted [] ws = []
fitted (b ∷ bs) [] = 0 ∷ fitted bs []
fitted (b ∷ bs) (w ∷ ws) = fitted_word b w ∷ fitted bs ws
