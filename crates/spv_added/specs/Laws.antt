-- What a module is to whose declarations an instruction is added: laws, as statements.
use Rattle.std.specs.Prelude.{◌≡◌, ◌==◌, ℕ, false, List, None}
use Rattle.spv_module.specs.First.{first}
use Rattle.spv_module.specs.Instruction.{Instruction}
use Rattle.spv_module.specs.Layout.{group_2}
use Rattle.spv_declarations.specs.Broken.{group_3}
use Rattle.spv_declarations.specs.Laws.{IsUnbroken}
use Rattle.spv_alike_uses.specs.Alike.{AreAlikeBut}
use Rattle.spv_entries.specs.Bindings.{is_buffer}
use Rattle.spv_norm_entries.specs.Laws.{AllEntered}
use Rattle.spv_added.specs.Added.{IsAdded}

-- all other ids stand for the same
abbrev pub AddedIsAlike : Type 0
AddedIsAlike =
    (r : ℕ) (new : Instruction) (front rest before after : List Instruction) → IsUnbroken before → IsAdded r new front rest before after
    → AreAlikeBut (λ id. id == r) before after

-- it breaks no rule on declarations (301 to 309), if it broke none on layout either: no type stands behind the new one
abbrev pub AddedIsDeclared : Type 0
AddedIsDeclared =
    (r : ℕ) (new : Instruction) (front rest before after : List Instruction) → IsUnbroken before → ((end : ℕ) → first (group_2 end before) ≡ None)
    → IsAdded r new front rest before after → first (group_3 after) ≡ None

-- Or on calls, interfaces, bindings and entry points (601 to 606). Nothing decorates the new id, so a Uniform or StorageBuffer variable would have no binding.
abbrev pub AddedIsEntered : Type 0
AddedIsEntered =
    (r : ℕ) (new : Instruction) (front rest before after : List Instruction) → IsUnbroken before → IsAdded r new front rest before after → is_buffer new ≡ false
    → AllEntered before → AllEntered after

-- or on layout (201 to 205)
abbrev pub AddedIsLaidOut : Type 0
AddedIsLaidOut =
    (end : ℕ) (r : ℕ) (new : Instruction) (front rest before after : List Instruction) → IsAdded r new front rest before after
    → first (group_2 end before) ≡ None → first (group_2 end after) ≡ None
