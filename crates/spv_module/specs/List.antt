-- The instructions of a list, whose words stand in a pool.
use Rattle.std.specs.Prelude.{ℕ, ◌≤◌, ◌⊎◌, List, length, map, slice_range, All, AllPairs}
use Rattle.spv_grammar.specs.declared.kind.Role.{Role}
use Rattle.spv_module.specs.declared.list.Span.{Span}
use Rattle.spv_module.specs.declared.pool.Pool.{Pool}
use Rattle.spv_module.specs.Instruction.{Instruction, IsInstruction}

abbrev pub instruction_at : List ℕ → Span → Instruction
instruction_at words span = record { offset = span.offset; words = slice_range words span.start span.end }

-- the words from `start` up to `end` are an instruction
pub record IsSpan (words : List ℕ) (roles : List Role) (span : Span) : Type 0 where
  pub ordered : span.start ≤ span.end
  pub within : span.end ≤ length words
  pub whole : IsInstruction (slice_range words span.start span.end) (slice_range roles span.start span.end)

-- no word belongs to both
abbrev pub AreApart : Span → Span → Type 0
AreApart a b = (a.end ≤ b.start) ⊎ (b.end ≤ a.start)

abbrev pub pool_words : Pool → List ℕ
pool_words pool = pool.words.items

abbrev pub pool_roles : Pool → List Role
pool_roles pool = pool.roles.items

abbrev pub instructions_in : Pool → List Span → List Instruction
instructions_in pool spans = map (instruction_at (pool_words pool)) spans

-- each is an instruction, and no word belongs to two of them
pub record AreSpans (pool : Pool) (spans : List Span) : Type 0 where
  pub whole : All (IsSpan (pool_words pool) (pool_roles pool)) spans
  pub apart : AllPairs AreApart spans
