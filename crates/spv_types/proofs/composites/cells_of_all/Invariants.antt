use Rattle.std.proofs.Common.{◌≡◌, ℕ, List, length, take}
use Rattle.spv_meaning.specs.Constants.{Table, composed}
use Rattle.spv_types.specs.Facts.{in_64_bits}
use Rattle.spv_types.specs.Meanings.{StandFor}
use Rattle.spv_types.proofs.composites.cells_of_all.Given as goal

-- of those so far
abbrev pub invariant-constituents : goal.invariant-constituents
invariant-constituents l = (table : Table) (specialised : List ℕ) → StandFor table specialised l.meanings.entries → l.cells ≡ in_64_bits (length (composed table (take l.id-index l.ids)))
