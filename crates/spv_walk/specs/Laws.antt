-- The laws of functions with other labels, as statements.
use Rattle.std.specs.Prelude.{◌≡◌, ◌↔◌, ℕ, Bool, Option, slice_get}
use Rattle.spv_base.specs.declared.fault.Refusal.{Refusal}
use Rattle.spv_blocks.specs.Blocks.{Code, block}
use Rattle.spv_walk.specs.Numbering.{relabelled, numbered, IsNumbered, HasOwnLabels}
use Rattle.spv_walk.specs.Rules.{Broken, IsFirst}

-- different labels become different ones
abbrev pub KeepsApart : (ℕ → ℕ) → Type 0
KeepsApart r = (a b : ℕ) → r a ≡ r b → a ≡ b

-- such labels change no rule and no place
abbrev pub RelabellingLaw : Type 0
RelabellingLaw =
    (r : ℕ → ℕ) → KeepsApart r → (is_pointer : ℕ → Bool) (f : Code) (rule at : ℕ) → Broken is_pointer f rule at ↔ Broken is_pointer (relabelled r f) rule at

-- where no two blocks have one label, the label of each block of the numbered function is its number
abbrev pub NumbersLaw : Type 0
NumbersLaw = (f : Code) → HasOwnLabels f → IsNumbered (numbered f)

-- the numbered function breaks the same rules at the same places, and the same one first
abbrev pub SameRulesLaw : Type 0
SameRulesLaw = (is_pointer : ℕ → Bool) (f : Code) (rule at : ℕ) → Broken is_pointer f rule at ↔ Broken is_pointer (numbered f) rule at

abbrev pub SameFirstLaw : Type 0
SameFirstLaw =
    (is_pointer : ℕ → Bool) (f : Code) (refusal : Option Refusal) → IsFirst (Broken is_pointer f) refusal ↔ IsFirst (Broken is_pointer (numbered f)) refusal

-- where labels are numbers, the block of a label is the one at that place, and no two blocks have one label
abbrev pub NumberedBlocksLaw : Type 0
NumberedBlocksLaw = (f : Code) → IsNumbered f → (k : ℕ) → block f k ≡ slice_get f k

abbrev pub NumberedApartLaw : Type 0
NumberedApartLaw = (f : Code) → IsNumbered f → HasOwnLabels f
