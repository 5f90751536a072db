-- Instructions that are listed one item of the tree after the other.
use Rattle.std.specs.Prelude.{◌≡◌, ℕ, Bool, true, false, List, [], ◌∷◌, ◌++◌}
use Rattle.spv_bodies.specs.Bodies as plain
use Rattle.spv_bodies.specs.Bodies.{begins_at_branch}
use Rattle.spv_bodies.specs.Listing.{Branching, arm_lines, entry_lines, front_lines, lines}
use Rattle.spv_tree.specs.declared.body.Arm.{Arm}
use Rattle.spv_tree.specs.declared.body.Item.{Item, Op, Choice', Switch', Loop', Split}
use Rattle.spv_tree.specs.declared.body.Next.{Next}
use Rattle.spv_tree.specs.declared.body.Next.TheVariants as next
use Rattle.spv_tree.specs.declared.body.Opening.{Opening}
use Rattle.spv_tree.specs.Tree.{arm_body, item_then, opening_body}
use Rattle.spv_tree.specs.Sound.{IsFormed, opens}

-- a body that owes nothing, to stand behind an item
abbrev pub nothing : plain.Body
nothing = plain.Leaves (record { target = 0; values = [] })

abbrev pub IsFormedArm : List Branching → Arm → Type 0
IsFormedArm all arm = IsFormed all (arm_body arm)

pub record IsFormedOpening (all : List Branching) (opening : Opening) : Type 0 where
  pub begins : opens (opening_body opening) ≡ true
  pub formed : IsFormed all (opening_body opening)

abbrev pub is_branch : Next → Bool
is_branch (next.Block label) = false
is_branch next.Branch = true

-- an item whose branch goes to what follows it
abbrev pub leads_on : Item → Bool
leads_on (Op inst) = false
leads_on (Choice' control condition first second merge) = false
leads_on (Switch' control selector cases first shape others merge) = false
leads_on (Loop' entry header steps control opening next shape row end merge) = false
leads_on (Split s) = is_branch s.next

-- what is left to be listed of a body, where the branch to it stands before or not
abbrev pub lines_left : (begun : Bool) → List Branching → plain.Body → List (List ℕ)
lines_left true all rest = arm_lines all rest
lines_left false all rest = lines all [] rest

-- what stands before the instructions of a loop's header
abbrev pub coming_lines : (begun : Bool) → List Branching → plain.Front → plain.Entry → List (List ℕ)
coming_lines true all header entry = front_lines all header
coming_lines false all header entry = entry_lines all [] header entry

-- with what is left these are the lines `wanted`
pub record Comes (all : List Branching) (begun : Bool) (wanted found : List (List ℕ)) (rest : plain.Body) : Type 0 where
  pub same : found ++ lines_left begun all rest ≡ wanted
  pub last : begun ≡ true → begins_at_branch rest ≡ true

-- the lines of an item were added, behind the branch to it where that is begun; `begun'` says whether the branch to `rest`, which follows, is
pub record AddsItem (all : List Branching) (begun begun' : Bool) (old new : List (List ℕ)) (item : Item) (rest : plain.Body) : Type 0 where
  pub last : begun' ≡ leads_on item
  pub same : new ++ lines_left begun' all rest ≡ old ++ lines_left begun all (item_then item rest)

-- the blocks of arms
abbrev pub list_lines : List Branching → List Arm → List (List ℕ)
list_lines all [] = []
list_lines all (arm ∷ arms) = arm_lines all (arm_body arm) ++ list_lines all arms
