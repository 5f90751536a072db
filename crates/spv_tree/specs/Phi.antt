-- Words of an OpPhi and an OpSwitch.
use Rattle.std.specs.Prelude.{◌≡◌, ℕ, ◌<◌, ◌^◌, false, List, [], ◌++◌, length, slice_index}
use Rattle.std.specs.List.{list_any}
use Rattle.spv_grammar.specs.Operands.{count_of}
use Rattle.spv_module.specs.Instruction.{instruction_rules, is_out_of_bound}
use Rattle.spv_bodies.specs.Listing.{Branching, pair_words}

-- ids are added at the end
pub record AddsIds (old new added : List ℕ) : Type 0 where
  pub behind : new ≡ old ++ added
  pub within : list_any (is_out_of_bound (2 ^ 32)) added ≡ false

-- cases are added at the end
pub record AddsCases (old new : List ℕ) (added : List (ℕ × ℕ)) : Type 0 where
  pub behind : new ≡ old ++ pair_words added
  pub within : list_any (λ case. is_out_of_bound (2 ^ 32) case.1) added ≡ false

-- a branch carries a value for the k-th parameter
abbrev pub Carries : (k : ℕ) → Branching → Type 0
Carries k branching = k < length branching.1.values

-- these words, which are one instruction of the profile
pub record IsMade (words line : List ℕ) : Type 0 where
  pub same : words ≡ line
  pub some : 0 < length words
  pub counted : count_of (slice_index words 0) ≡ length words
  pub unbroken : instruction_rules (2 ^ 32) words ≡ []
