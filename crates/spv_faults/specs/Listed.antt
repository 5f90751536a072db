-- The broken rules of the blocks in a table of contexts, as one list in the order of the blocks.
use Rattle.std.specs.Prelude.{◌≡◌, ℕ, List, [], ◌∷◌, ◌++◌, Option, Some, None}
use Rattle.std.specs.List.{Contains}
use Rattle.std.specs.Option.{is_some}
use Rattle.spv_base.specs.declared.fault.Refusal.{Refusal}
use Rattle.spv_module.specs.First.{here, unless, first}
use Rattle.spv_blocks.specs.Blocks.{Code, Block, block}
use Rattle.spv_walk.specs.Contexts.{Context}
use Rattle.spv_walk.specs.Found.{Missing}
use Rattle.spv_walk.specs.Numbering.{HasOwnLabels}
use Rattle.spv_walk.specs.Rules.{IsFirst}
use Rattle.spv_walk.specs.Walked.{InPlaces}

-- what a block with a label breaks in a context
abbrev pub Faults : Type 0
Faults = ℕ → Context → Block → List Refusal

abbrev pub of_context : (Context → List Refusal) → Option Context → List Refusal
of_context faults None = []
of_context faults (Some c) = faults c

-- of each block that has a context
abbrev pub walked_faults : Faults → (place : ℕ → Option Context) → Code → List Refusal
walked_faults faults place [] = []
walked_faults faults place (b ∷ bs) = of_context (λ c. faults b.label c b) (place b.label) ++ walked_faults faults place bs

-- 402 BadTarget at each block that has none
abbrev pub missing_faults : (place : ℕ → Option Context) → Code → List Refusal
missing_faults place [] = []
missing_faults place (b ∷ bs) = here b.at (unless (is_some (place b.label)) 402) ++ missing_faults place bs

-- the block of a label breaks a rule in its context
pub data IsFaultAt (faults : Faults) (f : Code) (place : ℕ → Option Context) : (rule at : ℕ) → Type 0 where
  FaultAt : (l : ℕ) (b : Block) (c : Context) (r : Refusal) → place l ≡ Some c → block f l ≡ Some b → Contains (faults l c b) r → IsFaultAt faults f place r.rule r.at

-- where no two blocks have one label, the lists of blocks are those of labels
abbrev pub FirstOfWalked : Type 0
FirstOfWalked = (faults : Faults) (f : Code) (place : ℕ → Option Context) → HasOwnLabels f → IsFirst (IsFaultAt faults f place) (first (walked_faults faults place f))

abbrev pub FirstOfMissing : Type 0
FirstOfMissing = (f : Code) (place : ℕ → Option Context) → HasOwnLabels f → IsFirst (Missing f (InPlaces place)) (first (missing_faults place f))
