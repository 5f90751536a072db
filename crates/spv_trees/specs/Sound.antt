-- Bodies whose instructions, as they are listed, stand as the tree says.
use Rattle.std.specs.Prelude.{◌≡◌, ℕ, ◌==◌, Bool, true, false, ◌⊎◌, List, [], ◌∷◌, length, Option, Some, None}
use Rattle.std.specs.List.{list_any, AllByRecursion}
use Rattle.spv_meaning.specs.Statements as says
use Rattle.spv_meaning.specs.Statements.{Statement, said, statements_in}
use Rattle.spv_bodies.specs.Bodies.{Exit, Front, Entry, ByBranch, InPlace, Body, Leaves, Finishes, Step, Enters, Splits, Selects, Switches, Loops, Arms, Last, Also, Function, begins_at_branch}
use Rattle.spv_bodies.specs.Listing.{Branching, branches}
use Rattle.spv_trees.specs.Standing.{OneOf, leads_on, is_finish, is_parameter, Covers}

-- to one of these blocks, with a value for each of its parameters
abbrev pub Reaches : List Front → Exit → Type 0
Reaches [] exit = ⊥
Reaches (front ∷ fronts) exit = ((exit.target ≡ front.label) × (length exit.values ≡ length front.parameters)) ⊎ Reaches fronts exit

abbrev pub is_phi : Statement → Bool
is_phi (says.Phi t r pairs) = true
is_phi other = false

-- words that say nothing, or what stands before a terminator
abbrev pub IsMiddle : (words : List ℕ) → Type 0
IsMiddle words = AllByRecursion (λ s. (leads_on s ≡ true) × (is_phi s ≡ false)) (said words [])

pub record IsEnd (words : List ℕ) : Type 0 where
  pub statement : Statement
  pub same : said words [] ≡ statement ∷ []
  pub finish : is_finish statement ≡ true

-- a branch to a loop has a value for each parameter of its header; where this is in place, it is what the part begins behind
abbrev pub LeadsTo : (behind : Option Front) → (header : Front) → Entry → Type 0
LeadsTo behind header (ByBranch ids) = length ids ≡ length header.parameters
LeadsTo behind header InPlace = behind ≡ Some header

-- Each exit reaches one of these blocks or one of a construct round it, arms begin at branches, and instructions are of their kinds. `behind` is the front of the
-- continue target or merge block that the part begins with.
abbrev mutual
  pub IsSound : (behind : Option Front) → (fronts : List Front) → Body → Type 0
  IsSound behind fronts (Leaves exit) = Reaches fronts exit
  IsSound behind fronts (Finishes words) = IsEnd words
  IsSound behind fronts (Step words body) = IsMiddle words × IsSound None fronts body
  IsSound behind fronts (Enters label body) = IsSound None fronts body
  IsSound behind fronts (Splits condition on exit body) = Reaches fronts exit × (begins_at_branch body ≡ true) × IsSound None fronts body
  IsSound behind fronts (Selects control condition first second merge rest) =
      (begins_at_branch first ≡ true) × IsSound None (merge ∷ fronts) first
      × (begins_at_branch second ≡ true) × IsSound None (merge ∷ fronts) second
      × IsSound (Some merge) fronts rest
  IsSound behind fronts (Switches control selector cases arms merge rest) = AreSound (merge ∷ fronts) arms × Covers arms cases × IsSound (Some merge) fronts rest
  IsSound behind fronts (Loops entry header control inner next continuing merge rest) =
      LeadsTo behind header entry
      × IsSound None (next ∷ header ∷ merge ∷ fronts) inner
      × IsSound (Some next) (header ∷ merge ∷ fronts) continuing
      × IsSound (Some merge) fronts rest

  pub AreSound : (fronts : List Front) → Arms → Type 0
  AreSound fronts (Last arm) = (begins_at_branch arm ≡ true) × IsSound None fronts arm
  AreSound fronts (Also arm arms) = (begins_at_branch arm ≡ true) × IsSound None fronts arm × AreSound fronts arms

-- branches of one block to one target carry the same values
abbrev pub SameValues : List Branching → Type 0
SameValues all = (x y : Branching) → OneOf x all → OneOf y all → x.0 ≡ y.0 → x.1.target ≡ y.1.target → x.1.values ≡ y.1.values

pub record IsSoundFunction (r : ℕ) (f : Function) : Type 0 where
  pub function : said f.function [] ≡ says.Function r ∷ []
  pub parameters : AllByRecursion (λ s. is_parameter s ≡ true) (statements_in f.parameters)
  pub values : SameValues (branches f.label f.body)
  pub body : IsSound None [] f.body

-- ---- labels of a module

abbrev pub labels_in : List Statement → List ℕ
labels_in [] = []
labels_in (says.Label r ∷ rest) = r ∷ labels_in rest
labels_in (s ∷ rest) = labels_in rest

abbrev pub Distinct : List ℕ → Type 0
Distinct [] = Unit {0}
Distinct (x ∷ xs) = (list_any (λ y. x == y) xs ≡ false) × Distinct xs
