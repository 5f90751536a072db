use Rattle.std.proofs.Common.{ℕ, List, take}
use Rattle.spv_meaning.specs.Constants.{Table}
use Rattle.spv_types.specs.Meanings.{StandFor}
use Rattle.spv_types.specs.Declaring.{HasParts}
use Rattle.spv_types.proofs.composites.numbers_of.Given as goal

-- of those so far
abbrev pub invariant-constituents : goal.invariant-constituents
invariant-constituents l = (table : Table) (specialised : List ℕ) → StandFor table specialised l.meanings.entries → HasParts table (take l.id-index l.ids) l.numbers.items
