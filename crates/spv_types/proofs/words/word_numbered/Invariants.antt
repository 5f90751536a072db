use Rattle.std.proofs.Common.{◌≡◌, ℕ, List, slice_get}
use Rattle.spv_meaning.specs.Constants.{Table}
use Rattle.spv_types.specs.Meanings.{StandFor, words_numbered}
use Rattle.spv_types.proofs.words.word_numbered.Given as goal

-- the word that is looked for stays
abbrev pub invariant-levels : goal.invariant-levels
invariant-levels l =
    (table : Table) (ids : List ℕ) → StandFor table ids l.meanings.entries →
    slice_get (words_numbered table l.fn.number) l.fn.k ≡ slice_get (words_numbered table l.number) l.k

abbrev pub decreases-levels : goal.decreases-levels
decreases-levels l = l.number
