-- The labels that stay, by chains of blocks of which each is joined with the one before.
use Rattle.std.specs.Prelude.{◌≡◌, ◌⊎◌, ℕ, ◌<◌, ◌==◌, true, cond, Option, Some, None, slice_get}
use Rattle.std.specs.BTreeMap.{BTreeMap, get}
use Rattle.std.specs.Ordering.{nat_cmp}
use Rattle.spv_blocks.specs.Blocks.{Code, Block, End, Branch, BranchIf, Switch, Return, Unreachable, Open, block, of_block}
use Rattle.spv_normal.specs.Order.{joins}

-- the block l is h, or is joined with one before it, up to h
pub data Chain (f : Code) (h : ℕ) : ℕ → Type 0 where
  Alone : Chain f h h
  Onward : (l t : ℕ) → Chain f h l → joins f l t ≡ true → Chain f h t

-- a block that is joined with none before it
abbrev pub IsHead : Code → ℕ → Type 0
IsHead f h = (l : ℕ) → joins f l h ≡ true → ⊥

-- t is joined with a block of the chain of h
pub record IsBehind (f : Code) (h t : ℕ) : Type 0 where
  pub before : ℕ
  pub chain : Chain f h before
  pub joined : joins f before t ≡ true

-- a table has h for a label, and is as it was for the others
pub record Puts (old new : BTreeMap ℕ ℕ) (label h : ℕ) : Type 0 where
  pub at : (l : ℕ) → get nat_cmp new l ≡ cond (label == l) (Some h) (get nat_cmp old l)

-- a table has h for all that is behind it, and is as it was for the others
pub record Follows (f : Code) (h : ℕ) (old new : BTreeMap ℕ ℕ) : Type 0 where
  pub on : (l t : ℕ) → Chain f h l → joins f l t ≡ true → get nat_cmp new t ≡ Some h
  pub off : (t : ℕ) → (get nat_cmp new t ≡ get nat_cmp old t) ⊎ ((get nat_cmp new t ≡ Some h) × IsBehind f h t)

-- a table has the heads among the first k blocks for what is behind them, and nothing else
pub record AreFollowed (f : Code) (k : ℕ) (stays : BTreeMap ℕ ℕ) : Type 0 where
  pub sound : (t h : ℕ) → get nat_cmp stays t ≡ Some h → IsHead f h × IsBehind f h t
  pub whole : (j : ℕ) (b : Block) (l t : ℕ) → j < k → slice_get f j ≡ Some b → IsHead f b.label → Chain f b.label l → joins f l t ≡ true → get nat_cmp stays t ≡ Some b.label

-- the target of a block that ends with OpBranch
abbrev pub branch_target : End → Option ℕ
branch_target (Branch t) = Some t
branch_target (BranchIf a b) = None
branch_target (Switch d cases) = None
branch_target Return = None
branch_target Unreachable = None
branch_target Open = None

abbrev pub branch_in : Code → (label : ℕ) → Option ℕ
branch_in f l = of_block (λ b. branch_target b.end) None (block f l)
