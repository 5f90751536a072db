-- Where the search for a word of a constant comes to.
use Rattle.std.specs.Prelude.{◌≡◌, ℕ, ◌<◌, List, slice_get}
use Rattle.spv_meaning.specs.Constants.{Table}
use Rattle.spv_types.specs.declared.meaning.Kept.{Kept}
use Rattle.spv_types.specs.declared.words.Step.{Step}
use Rattle.spv_types.specs.declared.words.Step.TheVariants.{At, In}
use Rattle.spv_types.specs.Meanings.{StandFor, words_numbered}

-- to the word, or to a word of a constant that stands before
abbrev pub StepsTo : List (ℕ × Kept) → (number k : ℕ) → Step → Type 0
StepsTo ks number k (At word) = (table : Table) (ids : List ℕ) → StandFor table ids ks → slice_get (words_numbered table number) k ≡ word
StepsTo ks number k (In part rest) =
    (part < number) × ((table : Table) (ids : List ℕ) → StandFor table ids ks → slice_get (words_numbered table number) k ≡ slice_get (words_numbered table part) rest)
