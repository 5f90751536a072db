-- Where branches lead.
use Rattle.std.specs.Prelude.{◌≡◌, ℕ, Bool, true, false}
use Rattle.spv_blocks.specs.Blocks.{Code, branches, construct}
use Rattle.spv_bodies.specs.Listing.{split_line}
use Rattle.spv_normal.specs.Order.{is_loop}
use Rattle.spv_spelling.specs.Spelling.{Goes, SpellsExit}
use Rattle.spv_spelling.specs.Text.{Take, phis, text}
use Rattle.spv_tree.specs.declared.body.Entry.TheVariants as entry
use Rattle.spv_tree.specs.declared.body.Exit.{Exit}
use Rattle.spv_tree.specs.declared.body.Next.{Next}
use Rattle.spv_tree.specs.declared.body.Next.TheVariants as next
use Rattle.spv_tree.specs.Tree.{exit_of}
use Rattle.spv_sources.specs.declared.close.Fork.{Fork}
use Rattle.spv_parse.specs.declared.scene.Scene.{Scene}
use Rattle.spv_parse.specs.declared.state.State.{State}
use Rattle.spv_parse.specs.declared.state.State.TheVariants as state
use Rattle.spv_parse.specs.declared.state.Way.{Way}
use Rattle.spv_parse.specs.declared.state.Way.TheVariants as way
use Rattle.spv_parse.specs.declared.state.Parting.{Parting}
use Rattle.spv_parse.specs.Scene.{insts_of, staying, code_of, toward, IsNext}

-- the branch of the block l to t as an exit
pub record IsExit (s : Scene) (l t : ℕ) (exit : Exit) : Type 0 where
  pub same : exit.target ≡ t
  pub spells : SpellsExit (insts_of s) (staying s) l (toward s l t) (exit_of exit)

-- the block l enters t
pub record IsEntered (s : Scene) (l left t : ℕ) : Type 0 where
  pub goes : Goes (insts_of s) (staying s) l (toward s l t) t
  pub next : IsNext s left t (toward s l t)

abbrev pub opens_loop : Scene → ℕ → Bool
opens_loop s l = is_loop (construct (code_of s) l)

abbrev pub IsWay : Scene → (l left t : ℕ) → Way → Type 0
IsWay s l left t (way.Exit exit) = IsExit s l t exit
IsWay s l left t (way.Loop values) = IsEntered s l left t × (opens_loop s t ≡ true) × Take l (phis (text (insts_of s) t)) values
IsWay s l left t way.Block = IsEntered s l left t × (opens_loop s t ≡ false)

-- where a sequence goes on behind a conditional exit
abbrev pub next_of_way : Way → (other : ℕ) → Next
next_of_way (way.Exit exit) other = next.Branch
next_of_way (way.Loop values) other = next.Branch
next_of_way way.Block other = next.Block other

-- the OpBranchConditional of the block l
pub record IsParting (s : Scene) (l : ℕ) (fork : Fork) (p : Parting) : Type 0 where
  pub target : ℕ
  pub exits : IsExit s l target p.exit
  pub line : split_line fork.condition true fork.first fork.second ≡ split_line fork.condition p.on p.exit.target p.other
  pub branch : branches (code_of s) l p.other ≡ true

-- what a merge block or continue target begins
abbrev pub IsPart : Code → (label : ℕ) → State → Type 0
IsPart f label (state.Behind l) = (l ≡ label) × (is_loop (construct f label) ≡ false)
IsPart f label (state.Loop h e) = (h ≡ label) × (e ≡ entry.InPlace) × (is_loop (construct f label) ≡ true)
