-- What is so of each walked block of a function in which no rule on structured control flow is broken.
use Rattle.std.specs.Prelude.{◌≡◌, ◌≢◌, ◌⊎◌, ℕ, Bool, true, false, [], Option, Some}
use Rattle.spv_blocks.specs.Blocks.{Code, Block, Open, block, branches, construct, merge_of, next_of, is_role, stops}
use Rattle.spv_walk.specs.Contexts.{Context, behind, is_exit}
use Rattle.spv_walk.specs.Faults.{merge_faults, end_rules}
use Rattle.spv_walk.specs.Found.{FaultTables}
use Rattle.spv_walk.specs.Phis.{phi_faults}
use Rattle.spv_walk.specs.Rules.{Broken}
use Rattle.spv_walk.specs.Walk.{Enters, Walk, OneBackEdge, tries}
use Rattle.spv_walk.specs.Walked.{InPlaces}

-- Nothing is broken: each block is walked, a target that is tried is entered, and each continue part ends in one back edge.
pub record IsClean (is_pointer : ℕ → Bool) (f : Code) : Type 0 where
  pub unbroken : (rule at : ℕ) → Broken is_pointer f rule at → ⊥
  pub walked : (l : ℕ) (b : Block) → block f l ≡ Some b → (c : Context) × Walk f l c
  pub entered : (l t : ℕ) (c : Context) → Walk f l c → tries f l c t ≡ true → stops f t ≡ false → Enters f l t
  pub turned : (l n : ℕ) (c : Context) → Walk f l c → next_of (construct f l) ≡ Some n → OneBackEdge f l

-- which types are pointers matters to OpPhi alone: where nothing is broken, nothing is if there are none
abbrev pub no_pointers : ℕ → Bool
no_pointers type = false

abbrev pub CleanWithoutPointers : Type 0
CleanWithoutPointers = (is_pointer : ℕ → Bool) (f : Code) → IsClean is_pointer f → IsClean no_pointers f

-- tables tell it
abbrev pub CleanByTables : Type 0
CleanByTables =
    (is_pointer : ℕ → Bool) (f : Code) (enterer : ℕ → Option ℕ) (ends : ℕ → Bool) (place : ℕ → Option Context) → FaultTables f enterer ends (InPlaces place)
    → ((rule at : ℕ) → Broken is_pointer f rule at → ⊥) → IsClean is_pointer f

-- the block l enters t, in the context d behind its merge instruction
pub record EntersIn (f : Code) (l : ℕ) (c : Context) (b : Block) (t : ℕ) : Type 0 where
  pub enters : Enters f l t
  pub stays : is_exit (behind (construct f l) l t c) b.end t ≡ false
  pub tried : tries f l c t ≡ true

-- a walked block in its context
pub record IsSettled (is_pointer : ℕ → Bool) (f : Code) (l : ℕ) (c : Context) (b : Block) : Type 0 where
  pub runs : stops f l ≡ false
  pub ends : b.end ≢ Open
  -- each target is an exit or is entered
  pub leads : (t : ℕ) → branches f l t ≡ true → (is_exit (behind (construct f l) l t c) b.end t ≡ true) ⊎ EntersIn f l c b t
  pub merge : (m : ℕ) → merge_of (construct f l) ≡ Some m → is_role f l m ≡ true
  pub next : (n : ℕ) → next_of (construct f l) ≡ Some n → is_role f l n ≡ true
  -- nothing is broken at its OpPhi, its merge instructions and its terminator
  pub phis : phi_faults is_pointer f l b.body ≡ []
  pub merges : merge_faults f l b.end b.body ≡ []
  pub rules : end_rules (construct f l) (behind (construct f l) l l c) b.end ≡ []

abbrev pub CleanIsSettled : Type 0
CleanIsSettled =
    (is_pointer : ℕ → Bool) (f : Code) → IsClean is_pointer f → (l : ℕ) (c : Context) (b : Block) → Walk f l c → block f l ≡ Some b → IsSettled is_pointer f l c b
