use Rattle.std.proofs.Common.{◌≡◌, ℕ, List, slice_get, drop}
use Rattle.spv_meaning.specs.Constants.{Table}
use Rattle.spv_types.specs.Meanings.{StandFor, joined}
use Rattle.spv_types.proofs.words.find_part.Given as goal

-- the word is that of the parts that are left
abbrev pub invariant-parts : goal.invariant-parts
invariant-parts l =
    (table : Table) (ids : List ℕ) → StandFor table ids l.meanings.entries →
    slice_get (joined table l.parts) l.fn.k ≡ slice_get (joined table (drop l.part-index l.parts)) l.k
