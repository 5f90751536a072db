-- The blocks of a tree, in the order in which they are listed, each with the context in which it stands.
use Rattle.std.specs.Prelude.{ℕ, ◌+◌, List, [], ◌∷◌, ◌++◌, map, Option, Some, None}
use Rattle.spv_blocks.specs.Blocks.{Ins, Phi, Selection, Loop, Other, Block, Code}
use Rattle.spv_walk.specs.Contexts.{Context, InSelection, InArm, InBody, InNext}
use Rattle.spv_bodies.specs.Bodies.{Body, Leaves, Finishes, Step, Enters, Splits, Selects, Switches, Loops, Front, Parameter, Entry, ByBranch, InPlace, Arms, Last, Also, Function, target}
use Rattle.spv_bodies.specs.Listing.{Branching, arriving, in_order, phi_pairs}
use Rattle.spv_tree.specs.Branches.{branches_in}
use Rattle.spv_structured.specs.Structured.{first_end}

-- a block: its context, the block that leads to it, its label, its front where it may have parameters, and what it begins with behind them; of a loop's header
-- this is the loop in place
pub record Spot : Type 0 where
  pub context : Context
  pub from : ℕ
  pub label : ℕ
  pub front : Option Front
  pub body : Body

-- the header of a loop that a branch enters; one in place is the block before
abbrev pub header_spots : Context → (l : ℕ) → Entry → Front → Body → List Spot
header_spots c l (ByBranch values) header loop = record { context = c; from = l; label = header.label; front = Some header; body = loop } ∷ []
header_spots c l InPlace header loop = []

-- the merge block or continue target of a header, and the blocks behind it
abbrev pub part_spots : Context → (header : ℕ) → Front → Body → List Spot → List Spot
part_spots c h front body behind = record { context = c; from = h; label = front.label; front = Some front; body = body } ∷ behind

-- the other blocks of a body that begins in the block l
abbrev mutual
  pub others : Context → (l : ℕ) → Body → List Spot
  others c l (Leaves exit) = []
  others c l (Finishes words) = []
  others c l (Step words body) = others c l body
  others c l (Enters label body) = record { context = c; from = l; label = label; front = None; body = body } ∷ others c label body
  others c l (Splits condition on exit body) = others c l body
  others c l (Selects control condition first second merge rest) =
      others (InSelection merge.label ∷ c) l first ++ (others (InSelection merge.label ∷ c) l second ++ part_spots c l merge rest (others c merge.label rest))
  others c l (Switches control selector cases arms merge rest) =
      others_of_arms c l merge.label arms ++ part_spots c l merge rest (others c merge.label rest)
  others c l (Loops entry header control inner next continuing merge rest) =
      header_spots c l entry header (Loops InPlace header control inner next continuing merge rest)
      ++ (others (InBody header.label merge.label next.label ∷ c) header.label inner
      ++ part_spots (InNext header.label merge.label ∷ c) header.label next continuing
      (others (InNext header.label merge.label ∷ c) next.label continuing ++ part_spots c header.label merge rest (others c merge.label rest)))

  pub others_of_arms : Context → (l merge : ℕ) → Arms → List Spot
  others_of_arms c l m (Last arm) = others (InArm l m (target arm) ∷ c) l arm
  others_of_arms c l m (Also arm arms) = others (InArm l m (target arm) ∷ c) l arm ++ others_of_arms c l m arms

-- the first block of a function, and all
abbrev pub first_spot : Function → Spot
first_spot f = record { context = []; from = f.label; label = f.label; front = None; body = f.body }

abbrev pub spots_in : Function → List Spot
spots_in f = first_spot f ∷ others [] f.label f.body

-- ---- as blocks, with no offsets

abbrev pub phi_ins : (k : ℕ) → List Branching → List Parameter → List Ins
phi_ins k here [] = []
phi_ins k here (p ∷ ps) = Phi 0 p.type p.result_id (phi_pairs k (in_order p.parents here)) ∷ phi_ins (k + 1) here ps

-- the OpPhi of a block, of all branches of the function
abbrev pub front_ins : List Branching → Option Front → List Ins
front_ins all None = []
front_ins all (Some front) = phi_ins 0 (arriving front.label all) front.parameters

-- the instructions of the block that a body begins in, with the merge instruction that stands before its terminator, if there is one
abbrev pub inside : (opened : List Ins) → Body → List Ins
inside opened (Leaves exit) = opened
inside opened (Finishes words) = opened
inside opened (Step words body) = Other 0 ∷ inside opened body
inside opened (Enters label body) = opened
inside opened (Splits condition on exit body) = opened
inside opened (Selects control condition first second merge rest) = opened ++ Selection 0 merge.label ∷ []
inside opened (Switches control selector cases arms merge rest) = opened ++ Selection 0 merge.label ∷ []
inside opened (Loops (ByBranch values) header control inner next continuing merge rest) = opened
inside opened (Loops InPlace header control inner next continuing merge rest) = inside (Loop 0 merge.label next.label ∷ []) inner

abbrev pub block_of_spot : List Branching → Spot → Block
block_of_spot all s = record { label = s.label; at = 0; body = front_ins all s.front ++ inside [] s.body; end_at = 0; end = first_end s.body }

-- the blocks of a function
abbrev pub blocks_in : Function → Code
blocks_in f = map (block_of_spot (branches_in f)) (spots_in f)

-- a block with its offsets struck out
abbrev pub bare_ins : Ins → Ins
bare_ins (Phi at t r pairs) = Phi 0 t r pairs
bare_ins (Selection at merge) = Selection 0 merge
bare_ins (Loop at merge next) = Loop 0 merge next
bare_ins (Other at) = Other 0

abbrev pub bare_block : Block → Block
bare_block b = record { label = b.label; at = 0; body = map bare_ins b.body; end_at = 0; end = b.end }
