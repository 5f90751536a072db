-- 401 NoTerminator: the blocks that are open.
use Rattle.std.specs.Prelude.{◌≡◌, ℕ, Bool, true, false, not, List, [], ◌∷◌, ◌++◌, Some}
use Rattle.spv_base.specs.declared.fault.Refusal.{Refusal}
use Rattle.spv_module.specs.First.{here, unless}
use Rattle.spv_blocks.specs.Blocks.{Code, Block, End, Branch, BranchIf, Switch, Return, Unreachable, Open, block}

abbrev pub is_open : End → Bool
is_open (Branch l) = false
is_open (BranchIf a b) = false
is_open (Switch d ps) = false
is_open Return = false
is_open Unreachable = false
is_open Open = true

-- at each open block, where the next one begins or the function ends
abbrev pub open_faults : Code → List Refusal
open_faults [] = []
open_faults (b ∷ bs) = here b.end_at (unless (not (is_open b.end)) 401) ++ open_faults bs

-- the block of a label is open
pub data IsOpenAt (f : Code) : (rule at : ℕ) → Type 0 where
  OpenAt : (l : ℕ) (b : Block) → block f l ≡ Some b → b.end ≡ Open → IsOpenAt f 401 b.end_at
