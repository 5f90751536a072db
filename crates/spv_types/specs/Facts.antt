-- What is kept of a type.
use Rattle.std.specs.Prelude.{ℕ, min, ◌^◌, Bool, true, false, cond, nat_lt, Option, Some, None}
use Rattle.spv_meaning.specs.Types.{DataType, Void, RuntimeArray, cells}
use Rattle.spv_types.specs.declared.facts.TypeFacts.{TypeFacts}
use Rattle.spv_declarations.specs.Depth.{depth, is_laid_out}

-- a number, where 64 bits have room for it
abbrev pub in_64_bits : ℕ → Option ℕ
in_64_bits n = cond (nat_lt n (2 ^ 64)) (Some n) None

-- a type that values have: Bool, Int, Vector, Array or Struct
abbrev pub is_data_type : DataType → Bool
is_data_type Void = false
is_data_type (RuntimeArray stride t) = false
is_data_type t = true

abbrev pub facts : DataType → TypeFacts
facts t = record { depth = min (depth t) 256; is_laid_out = is_laid_out t; is_data = is_data_type t; cells = in_64_bits (cells t) }
