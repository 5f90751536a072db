use Rattle.std.proofs.Common.{◌≡◌, ◌≤◌, ℕ, List, length}
use Rattle.spv_value.specs.Words.{words_of}
use Rattle.spv_meaning.specs.Constants.{Table}
use Rattle.spv_folding.proofs.Shuffling.{filled}
use Rattle.spv_types.specs.Meanings.{StandFor}
use Rattle.spv_types.specs.Declaring.{AreScalars}
use Rattle.spv_types.proofs.CompositeLemmas.{first_of}
use Rattle.spv_types.proofs.composites.vector_of.Given as goal

-- those so far are filled in
abbrev pub invariant-constituents : goal.invariant-constituents
invariant-constituents l = record {
  few : length (words_of l.vector) ≤ 4;
  filled_so_far : (table : Table) (specialised : List ℕ) → StandFor table specialised l.meanings.entries → length l.ids ≤ 4 → AreScalars table l.ids → words_of l.vector ≡ filled (first_of table) l.ids l.i;
}
