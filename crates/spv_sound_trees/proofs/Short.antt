-- A word count stands in half a word.
use Rattle.std.proofs.Common.{◌≡◌, ℕ, ◌/◌, ◌<◌, ◌≤◌, length, slice_index, arith}
use Rattle.spv_sound_trees.specs.Short.{ShortByWords}

few_words : (word n : ℕ) → word / 65536 ≡ n → word < 4294967296 → n ≤ 65535
few_words word n e h = omega arith

pub short_by_words : ShortByWords
short_by_words insts each fit k i at = few_words (slice_index i.words 0) (length i.words) (each k i at).counted (fit k i at)
