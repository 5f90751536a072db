-- What a table of tops says.
use Rattle.std.specs.Prelude.{ℕ, Option}
use Rattle.spv_blocks.specs.Blocks.{Code}
use Rattle.spv_walk.specs.Walk.{Top}
use Rattle.spv_walk.specs.Tables.{InTops}

-- the table has the loop of each block that stands at the top of a continue part, and no other
abbrev pub AreTops : Code → (ℕ → Option ℕ) → Type 0
AreTops f top = (h b : ℕ) → (Top f h b → InTops top h b) × (InTops top h b → Top f h b)
