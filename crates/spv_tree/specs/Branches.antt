-- Branches that carry values, as they are gathered of the tree in code.
use Rattle.std.specs.Prelude.{◌≡◌, ℕ, List, [], ◌∷◌, ◌++◌, map, Option, Some, None}
use Rattle.std.specs.BTreeMap.{BTreeMap, get}
use Rattle.std.specs.Borrow.{Bor}
use Rattle.std.specs.declared.alloc.Global.{Global}
use Rattle.std.specs.declared.vec.Vec.{Vec}
use Rattle.std.specs.Ordering.{nat_cmp}
use Rattle.spv_bodies.specs.Bodies.{Function}
use Rattle.spv_bodies.specs.Listing.{Branching, branches, arriving}
use Rattle.spv_tree.specs.declared.branch.Branch.{Branch}
use Rattle.spv_tree.specs.declared.body.Arm.{Arm}
use Rattle.spv_tree.specs.Tree.{arm_body}

abbrev pub branching_of : Branch → Branching
branching_of branch = (branch.block, record { target = branch.target; values = branch.values })

abbrev pub branchings : List Branch → List Branching
branchings found = map branching_of found

-- those of arms, from one block
abbrev pub branches_of_list : (block : ℕ) → List Arm → List Branching
branches_of_list block [] = []
branches_of_list block (arm ∷ arms) = branches block (arm_body arm) ++ branches_of_list block arms

-- all of a function
abbrev pub branches_in : Function → List Branching
branches_in f = branches f.label f.body

abbrev pub all_of : Option (List Branch) → List Branch
all_of None = []
all_of (Some all) = all

abbrev pub group : BTreeMap ℕ (List Branch) → ℕ → List Branch
group groups label = all_of (get nat_cmp groups label)

-- the map has, for each label, the branches to it
pub record HasGroups (groups : BTreeMap ℕ (List Branch)) (all : List Branching) : Type 0 where
  pub at : (label : ℕ) → branchings (group groups label) ≡ arriving label all

-- branches that are lent
abbrev pub shown : List (Bor Branch) → List Branching
shown lent = map (λ branch. branching_of branch.now) lent

abbrev pub lent_of : Option (Vec (Bor Branch) Global) → List (Bor Branch)
lent_of None = []
lent_of (Some lent) = lent.items

-- those that end a block
abbrev pub of_block : BTreeMap ℕ (Vec (Bor Branch) Global) → ℕ → List (Bor Branch)
of_block blocks block = lent_of (get nat_cmp blocks block)
