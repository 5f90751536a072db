-- The parameters of a front and the branches that carry values to it.
use Rattle.std.specs.Prelude.{◌≡◌, ℕ, ◌+◌, ◌*◌, ◌≤◌, List, length, All}
use Rattle.spv_bodies.specs.Bodies.{Parameter, Front}
use Rattle.spv_bodies.specs.Listing.{Branching, arriving, in_order}

-- a branch carries as many values
abbrev pub CarriesAll : (count : ℕ) → Branching → Type 0
CarriesAll count branching = length branching.1.values ≡ count

-- the OpPhi has at most 65,535 words
abbrev pub IsShort : List Branching → Parameter → Type 0
IsShort all parameter = 3 + 2 * length (in_order parameter.parents all) ≤ 65535

-- each branch to the front carries a value for each parameter, and its OpPhis are not too long
pub record IsFilled (all : List Branching) (front : Front) : Type 0 where
  pub values : All (CarriesAll (length front.parameters)) (arriving front.label all)
  pub short : All (IsShort (arriving front.label all)) front.parameters
