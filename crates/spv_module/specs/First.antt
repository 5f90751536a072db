-- Broken rules as a list of pairs of a rule and a place, and the first of them: the least place, and there the least rule.
use Rattle.std.specs.Option.{option_map, option_or, unwrap_or}
use Rattle.std.specs.Prelude.{ℕ, min, Bool, true, false, cond, ◌==◌, ◌&&◌, ◌||◌, nat_lt, List, [], ◌∷◌, map, Option, Some, None}
use Rattle.spv_base.specs.declared.fault.Refusal.{Refusal}

-- these rules at one place
abbrev pub here : ℕ → List ℕ → List Refusal
here at rules = map (λ rule. record { rule = rule; at = at }) rules

-- one rule at one place, where the test fails
abbrev pub unless : Bool → ℕ → List ℕ
unless passes rule = cond passes [] (rule ∷ [])

abbrev pub comes_before : Refusal → Refusal → Bool
comes_before b c = nat_lt b.at c.at || (b.at == c.at && nat_lt b.rule c.rule)

abbrev pub earlier : Refusal → Option Refusal → Refusal
earlier b None = b
earlier b (Some c) = cond (comes_before c b) c b

abbrev pub first : List Refusal → Option Refusal
first [] = None
first (b ∷ bs) = Some (earlier b (first bs))

-- the first of a lower group comes before all of a higher group
abbrev pub first_group : Option Refusal → Option Refusal → Option Refusal
first_group lower higher = option_or lower higher

-- the least of some rules
abbrev pub least : List ℕ → Option ℕ
least [] = None
least (rule ∷ rules) = Some (unwrap_or (option_map (λ other. min rule other) (least rules)) rule)

-- the least of some rules at a place, else what comes later
abbrev pub at_place : ℕ → Option ℕ → Option Refusal → Option Refusal
at_place at None later = later
at_place at (Some rule) later = Some (record { rule = rule; at = at })
