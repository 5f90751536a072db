-- A module that is built, to whose declarations an instruction is added: a law, as a statement.
use Rattle.std.specs.Prelude.{◌≡◌, ℕ, false, List}
use Rattle.spv_module.specs.Instruction.{Instruction}
use Rattle.spv_bodies.specs.Bodies.{Function}
use Rattle.spv_entries.specs.Bindings.{is_buffer}
use Rattle.spv_spelling.specs.Whole.{AreInstructions}
use Rattle.spv_added.specs.Added.{IsAdded}
use Rattle.spv_built.specs.Built.{AreBuilt}

-- it is built of the same functions
abbrev pub AddedIsBuilt : Type 0
AddedIsBuilt =
    (r : ℕ) (new : Instruction) (front rest before after : List Instruction) (fs : List Function) → AreInstructions before → AreBuilt before fs
    → IsAdded r new front rest before after → is_buffer new ≡ false → AreBuilt after fs
