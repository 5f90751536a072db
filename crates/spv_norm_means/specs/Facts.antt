-- A small module and its normal form, on which the law is tried.
use Rattle.std.specs.Prelude.{ℕ, List, [], ◌∷◌, ◌++◌}
use Rattle.spv_base.specs.declared.header.Header.{Header}
use Rattle.spv_module.specs.Code.{Code}
use Rattle.spv_normal.specs.Facts.{written, in_one, in_two}
use Rattle.spv_spelling.specs.Facts.{joined_tree}
use Rattle.spv_norm.specs.Norm.{IsNorm}
use Rattle.spv_norm_means.specs.Laws.{IsRead, MeansAsMuch}

abbrev pub header_of : (bound : ℕ) → Header
header_of bound = record { version = 0x0001_0600; generator = 0; bound = bound; schema = 0 }

-- OpCapability Shader; OpMemoryModel; OpEntryPoint GLCompute %1 "m"
abbrev pub opened : List (List ℕ)
opened = (0x0002_0011 ∷ 1 ∷ []) ∷ (0x0003_000E ∷ 0 ∷ 1 ∷ []) ∷ (0x0004_000F ∷ 5 ∷ 1 ∷ 0x6D ∷ []) ∷ []

-- and the function %1 of two blocks, with a line mark
abbrev pub small : Code
small = record { header = header_of 11; insts = written (opened ++ in_two) }

abbrev pub small_norm : Code
small_norm = record { header = header_of 10; insts = written (opened ++ in_one) }

-- it is read, and has this normal form, which means as much
abbrev pub SmallIsRead : Type 0
SmallIsRead = IsRead small (joined_tree ∷ [])

abbrev pub SmallIsNormal : Type 0
SmallIsNormal = IsNorm small small_norm

abbrev pub SmallMeans : Type 0
SmallMeans = MeansAsMuch small small_norm
