-- The lesser of two rules.
use Rattle.std.specs.Prelude.{ℕ, min, Option, Some, None}
use Rattle.std.specs.Option.{option_map, unwrap_or}

-- where there is none, the other
abbrev pub lesser : Option ℕ → Option ℕ → Option ℕ
lesser None other = other
lesser (Some rule) other = Some (unwrap_or (option_map (λ o. min rule o) other) rule)
