-- 309 TypeDepth, and 307 BadLayout of a type: how deep a type nests, and whether decorations lay it out.
use Rattle.std.specs.Prelude.{ℕ, ◌+◌, ◌%◌, max, Bool, true, false, ◌==◌, ◌&&◌, nat_lt, Option, Some, None}
use Rattle.spv_meaning.specs.Types.{DataType, Void, Boolean, Integer, Vector, Array, RuntimeArray, Struct, Members, NoMember, Member}

-- a scalar has depth 1
abbrev mutual
  pub depth : DataType → ℕ
  depth Void = 0
  depth Boolean = 1
  depth (Integer width signed) = 1
  depth (Vector count t) = 1 + depth t
  depth (Array stride count t) = 1 + depth t
  depth (RuntimeArray stride t) = 1 + depth t
  depth (Struct members) = 1 + member_depth members

  -- that of the deepest member
  pub member_depth : Members → ℕ
  member_depth NoMember = 0
  member_depth (Member offset volatile t rest) = max (depth t) (member_depth rest)

-- bytes that are whole words, where they are given; and such that are some
abbrev pub is_offset : Option ℕ → Bool
is_offset None = false
is_offset (Some bytes) = bytes % 4 == 0

abbrev pub is_stride : Option ℕ → Bool
is_stride None = false
is_stride (Some bytes) = nat_lt 0 bytes && bytes % 4 == 0

-- there is no Bool in it, each member has an Offset of whole words, and each array an ArrayStride of whole words
abbrev mutual
  pub is_laid_out : DataType → Bool
  is_laid_out Void = true
  is_laid_out Boolean = false
  is_laid_out (Integer width signed) = true
  is_laid_out (Vector count t) = is_laid_out t
  is_laid_out (Array stride count t) = is_stride stride && is_laid_out t
  is_laid_out (RuntimeArray stride t) = is_stride stride && is_laid_out t
  is_laid_out (Struct members) = are_laid_out members

  pub are_laid_out : Members → Bool
  are_laid_out NoMember = true
  are_laid_out (Member offset volatile t rest) = is_offset offset && (is_laid_out t && are_laid_out rest)
