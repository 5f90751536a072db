-- Words are at most one of admitted, too nested, and refused: laws, as statements.
use Rattle.std.specs.Prelude.{◌≡◌, ℕ, List}
use Rattle.spv_base.specs.declared.fault.Refusal.{Refusal}
use Rattle.spv_profile.specs.Profile.{IsInProfile, IsRefused, IsTooNested}

-- each answer excludes the others, and the words are refused by one rule at one place alone
pub record HasOneAnswer (words : List ℕ) : Type 0 where
  pub one : (r s : Refusal) → IsRefused words r → IsRefused words s → r ≡ s
  pub not_too_nested : (r : Refusal) → IsRefused words r → IsTooNested words → ⊥
  pub not_admitted : (r : Refusal) → IsRefused words r → IsInProfile words → ⊥
  pub shallow : IsInProfile words → IsTooNested words → ⊥

abbrev pub OneAnswer : Type 0
OneAnswer = (words : List ℕ) → HasOneAnswer words
