-- Trees in which nothing is left to be joined, named or put in order.
use Rattle.std.specs.Prelude.{◌≡◌, ℕ, Bool, true, false, cond, List, ◌∷◌, map}
use Rattle.std.specs.List.{AllByRecursion}
use Rattle.spv_blocks.specs.Blocks.{seconds}
use Rattle.spv_bodies.specs.Bodies.{Exit, Body, Leaves, Finishes, Step, Enters, Splits, Selects, Switches, Loops, Front, Parameter, Arms, Last, Also, Function}
use Rattle.spv_bodies.specs.Listing.{Branching, arriving, in_order, first_target}
use Rattle.spv_tree.specs.Branches.{branches_in}
use Rattle.spv_tree.specs.Sound.{targets}
use Rattle.spv_spelling.specs.Text.{firsts}

-- among the branches that come to its block, a parameter names the blocks of all, each as often as it branches there
abbrev pub NamesParents : List Branching → Parameter → Type 0
NamesParents here p = map (λ b. b.0) (in_order p.parents here) ≡ p.parents

abbrev pub IsNamed : List Branching → Front → Type 0
IsNamed all front = AllByRecursion (NamesParents (arriving front.label all)) front.parameters

-- A block of its own stands only where two ways part or a loop's header ends (`parted`); anywhere else it would be joined with the block before. The arms of a
-- switch stand in the order in which it names them.
abbrev mutual
  pub IsNormalBody : List Branching → (parted : Bool) → Body → Type 0
  IsNormalBody all parted (Leaves exit) = Unit {0}
  IsNormalBody all parted (Finishes words) = Unit {0}
  IsNormalBody all parted (Step words body) = IsNormalBody all parted body
  IsNormalBody all parted (Enters label body) = (parted ≡ true) × IsNormalBody all false body
  IsNormalBody all parted (Splits condition on exit body) = IsNormalBody all true body
  IsNormalBody all parted (Selects control condition first second merge rest) =
      IsNamed all merge × IsNormalBody all true first × IsNormalBody all true second × IsNormalBody all false rest
  IsNormalBody all parted (Switches control selector cases arms merge rest) =
      (targets arms ≡ firsts (first_target arms ∷ seconds cases)) × IsNamed all merge × AreNormal all arms × IsNormalBody all false rest
  IsNormalBody all parted (Loops entry header control inner next continuing merge rest) =
      IsNamed all header × IsNamed all next × IsNamed all merge × IsNormalBody all true inner × IsNormalBody all false continuing × IsNormalBody all false rest

  pub AreNormal : List Branching → Arms → Type 0
  AreNormal all (Last arm) = IsNormalBody all true arm
  AreNormal all (Also arm arms) = IsNormalBody all true arm × AreNormal all arms

abbrev pub IsNormal : Function → Type 0
IsNormal f = IsNormalBody (branches_in f) false f.body

-- ---- exits

abbrev pub leaves_part : Body → Bool
leaves_part (Leaves exit) = true
leaves_part other = false

-- where both targets of an OpBranchConditional leave the part, the first is taken for the exit
abbrev mutual
  pub TakesFirst : Body → Type 0
  TakesFirst (Leaves exit) = Unit {0}
  TakesFirst (Finishes words) = Unit {0}
  TakesFirst (Step words body) = TakesFirst body
  TakesFirst (Enters label body) = TakesFirst body
  TakesFirst (Splits condition on exit body) = (leaves_part body ≡ true → on ≡ true) × TakesFirst body
  TakesFirst (Selects control condition first second merge rest) = TakesFirst first × TakesFirst second × TakesFirst rest
  TakesFirst (Switches control selector cases arms merge rest) = ArmsTakeFirst arms × TakesFirst rest
  TakesFirst (Loops entry header control inner next continuing merge rest) = TakesFirst inner × TakesFirst continuing × TakesFirst rest

  pub ArmsTakeFirst : Arms → Type 0
  ArmsTakeFirst (Last arm) = TakesFirst arm
  ArmsTakeFirst (Also arm arms) = TakesFirst arm × ArmsTakeFirst arms

-- an OpBranchConditional out of the part and on to a body, where the first of two exits is taken
abbrev pub taken_split : (condition : ℕ) → (on : Bool) → Exit → Body → Body
taken_split condition on exit (Leaves other) = cond on (Splits condition on exit (Leaves other)) (Splits condition true other (Leaves exit))
taken_split condition on exit body = Splits condition on exit body

-- the tree with the first of two exits taken everywhere
abbrev mutual
  pub first_taken : Body → Body
  first_taken (Leaves exit) = Leaves exit
  first_taken (Finishes words) = Finishes words
  first_taken (Step words body) = Step words (first_taken body)
  first_taken (Enters label body) = Enters label (first_taken body)
  first_taken (Splits condition on exit body) = taken_split condition on exit (first_taken body)
  first_taken (Selects control condition first second merge rest) = Selects control condition (first_taken first) (first_taken second) merge (first_taken rest)
  first_taken (Switches control selector cases arms merge rest) = Switches control selector cases (first_taken_in arms) merge (first_taken rest)
  first_taken (Loops entry header control inner next continuing merge rest) =
      Loops entry header control (first_taken inner) next (first_taken continuing) merge (first_taken rest)

  pub first_taken_in : Arms → Arms
  first_taken_in (Last arm) = Last (first_taken arm)
  first_taken_in (Also arm arms) = Also (first_taken arm) (first_taken_in arms)

abbrev pub taking_first : Function → Function
taking_first f = record f { body = first_taken f.body }
