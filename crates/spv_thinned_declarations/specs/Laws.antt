-- A module that breaks no rule on ids, types, constants, decorations and global variables breaks none without some of its instructions: a law, as a statement.
use Rattle.std.specs.Prelude.{◌≡◌, ℕ, Bool, List, None}
use Rattle.spv_module.specs.First.{first}
use Rattle.spv_module.specs.Instruction.{Instruction}
use Rattle.spv_declarations.specs.Broken.{group_3}
use Rattle.spv_declarations.specs.Laws.{IsUnbroken}
use Rattle.spv_thinned.specs.Thinned.{IsThinned}

abbrev pub ThinnedIsDeclared : Type 0
ThinnedIsDeclared =
    (gone : ℕ → Bool) (keep : Instruction → Bool) (before after : List Instruction) → IsUnbroken before → IsThinned gone keep before after
    → first (group_3 after) ≡ None
