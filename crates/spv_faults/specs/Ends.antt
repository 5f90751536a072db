-- What is told of the context of a terminator.
use Rattle.std.specs.Prelude.{◌≡◌, Bool, Option}
use Rattle.spv_blocks.specs.Blocks.{Construct, End, Branch, BranchIf, Switch, Return, Unreachable, Open}
use Rattle.spv_walk.specs.Contexts.{Context}
use Rattle.spv_walk.specs.Faults.{has_exit}

-- of a conditional branch, whether one of its targets is an exit or the block has a construct; of other terminators nothing
abbrev pub TellsExit : (told : Bool) → Option Construct → Context → End → Type 0
TellsExit told k c (Branch l) = Unit {0}
TellsExit told k c (BranchIf a b) = told ≡ has_exit k c a b
TellsExit told k c (Switch d ps) = Unit {0}
TellsExit told k c Return = Unit {0}
TellsExit told k c Unreachable = Unit {0}
TellsExit told k c Open = Unit {0}
