-- What is walked directly behind a block, by a table of the blocks from which labels are entered.
use Rattle.std.specs.Prelude.{◌≡◌, ℕ, Bool, true, not, ◌&&◌, List, ◌∷◌, Option, Some, None}
use Rattle.spv_blocks.specs.Blocks.{Code, Block, End, Construct, ASelection, ASwitch, ALoop, has, end_targets, last_opens, merge_of, next_of, is_role}
use Rattle.spv_walk.specs.Contexts.{InSelection, InArm, InBody, Context, is_exit, behind, next_context}
use Rattle.spv_walk.specs.Walked.{admits}

-- the construct of a block
abbrev pub opened : Block → Option Construct
opened x = last_opens x.end x.body

-- behind the merge instruction of the block b, what the ways to all targets share
abbrev pub shared : Option Construct → (b : ℕ) → Context → Context
shared None b c = c
shared (Some (ASelection m)) b c = InSelection m ∷ c
shared (Some (ASwitch m)) b c = c
shared (Some (ALoop m n)) b c = InBody b m n ∷ c

-- and what the way to t has besides
abbrev pub arm : Option Construct → (b t : ℕ) → Context → Context
arm None b t c = c
arm (Some (ASelection m)) b t c = c
arm (Some (ASwitch m)) b t c = InArm b m t ∷ c
arm (Some (ALoop m n)) b t c = c

-- t is no exit for the terminator of the block b, in the context d on the way to it, and is a header that is its own continue target and begins no other
-- case, or is entered from b
abbrev pub may_enter : (f : Code) (enterer : ℕ → Option ℕ) (b : ℕ) → End → (d : Context) → (t : ℕ) → Bool
may_enter f enterer b e d t = not (is_exit d e t) && admits f enterer b d t

-- the block x, whose label is b, leads to t, one of these targets, in the context d; s is what the ways to its targets share
pub record Goes (f : Code) (enterer : ℕ → Option ℕ) (b : ℕ) (x : Block) (s : Context) (targets : List ℕ) (t : ℕ) (d : Context) : Type 0 where
  pub named : has targets t ≡ true
  pub context : d ≡ arm (opened x) b t s
  pub enters : may_enter f enterer b x.end d t ≡ true

-- it leads there from the context c
pub record GoesTarget (f : Code) (enterer : ℕ → Option ℕ) (b : ℕ) (x : Block) (c : Context) (t : ℕ) (d : Context) : Type 0 where
  pub named : has (end_targets x.end) t ≡ true
  pub context : d ≡ behind (opened x) b t c
  pub enters : may_enter f enterer b x.end d t ≡ true

-- t is its continue target
pub record GoesNext (f : Code) (b : ℕ) (x : Block) (c : Context) (t : ℕ) (d : Context) : Type 0 where
  pub next : next_of (opened x) ≡ Some t
  pub role : is_role f b t ≡ true
  pub context : d ≡ next_context (opened x) b c

-- t is its merge block
pub record GoesMerge (f : Code) (b : ℕ) (x : Block) (c : Context) (t : ℕ) (d : Context) : Type 0 where
  pub merge : merge_of (opened x) ≡ Some t
  pub role : is_role f b t ≡ true
  pub context : d ≡ c

pub data GoesOn (f : Code) (enterer : ℕ → Option ℕ) (b : ℕ) (x : Block) (c : Context) (t : ℕ) (d : Context) : Type 0 where
  ToTarget : GoesTarget f enterer b x c t d → GoesOn f enterer b x c t d
  ToNext : GoesNext f b x c t d → GoesOn f enterer b x c t d
  ToMerge : GoesMerge f b x c t d → GoesOn f enterer b x c t d
