-- Why a file was not read.
use Rattle.std.specs.Prelude.{ℕ, List}
use Rattle.opt_outside.specs.Seen.{Seen}
use Rattle.opt_top.specs.declared.reading.Stop.{Stop}
use Rattle.opt_top.specs.declared.reading.Stop.TheVariants.{Failed, NoMemory}
use Rattle.opt_top.specs.Moves.{StopsReading, FaultsReading, StopsInput, FaultsInput}

-- at most `most` bytes were taken of the open input
abbrev pub IsStop : ℕ → Stop → Seen → Seen → Type 0
IsStop most Failed old new = FaultsReading most old new
IsStop most NoMemory old new = StopsReading most old new

abbrev pub IsInputStop : List ℕ → Stop → Seen → Seen → Type 0
IsInputStop name Failed old new = FaultsInput name old new
IsInputStop name NoMemory old new = StopsInput name old new
