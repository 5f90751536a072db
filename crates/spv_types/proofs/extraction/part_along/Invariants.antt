use Rattle.std.proofs.Common.{ℕ, List}
use Rattle.spv_meaning.specs.Constants.{Table}
use Rattle.spv_meaning.specs.Types.{DataType}
use Rattle.spv_types.specs.Meanings.{StandFor}
use Rattle.spv_types.specs.Extracting.{LeadsTo, IsPart, AreComposed}
use Rattle.spv_types.proofs.Reaching.{Reached}
use Rattle.spv_types.proofs.extraction.part_along.Given as goal

-- the literals that are left lead on from the number
abbrev pub invariant-literals : goal.invariant-literals
invariant-literals l =
    (table : Table) (specialised : List ℕ) (t u : DataType) → StandFor table specialised l.meanings.entries → AreComposed table l.meanings.entries → IsPart table u l.fn.first → LeadsTo t u l.literals →
    Reached table t u l.fn.first l.number l.literals l.index-index
