-- The pairs of OpPhi and OpSwitch.
use Rattle.std.specs.Prelude.{ℕ, ◌<◌}
use Rattle.spv_sources.specs.declared.pairing.Incoming.{Incoming}

abbrev pub incoming : Incoming → ℕ × ℕ
incoming pair = (pair.value, pair.block)

-- a value and a block are ids; a case names a label
abbrev pub IsIdPair : ℕ × ℕ → Type 0
IsIdPair pair = (0 < pair.0) × (0 < pair.1)

abbrev pub IsCase : ℕ × ℕ → Type 0
IsCase pair = 0 < pair.1
