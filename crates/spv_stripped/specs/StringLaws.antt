-- In a module of the profile in normal form only OpSource, OpLine, OpName and OpMemberName use strings: a law, as a statement.
use Rattle.std.specs.Prelude.{◌≡◌, ℕ, false, ◌==◌, List, slice_get, Some}
use Rattle.std.specs.List.{AllByRecursion}
use Rattle.spv_opcodes.specs.declared.op.TheConstants as op
use Rattle.spv_module.specs.Code.{Code}
use Rattle.spv_module.specs.Instruction.{Instruction, opcode}
use Rattle.spv_ids.specs.Ids.{kind, used_ids}
use Rattle.spv_typing.specs.Kinds.{is_one_of}
use Rattle.spv_tree.specs.declared.body.Body.{Body}
use Rattle.spv_alike.specs.Uses.{namings}
use Rattle.spv_control.specs.Control.{AreParsed}
use Rattle.spv_profile.specs.Profile.{IsModule}

-- In a module of the profile in normal form no instruction but OpSource, OpLine, OpName and OpMemberName uses a string: neither as a value nor as a label.
abbrev pub ModuleUsesNoStrings : Type 0
ModuleUsesNoStrings =
    (code : Code) (bodies : List Body) → IsModule code → AreParsed code.insts bodies
    → (k : ℕ) (i : Instruction) → slice_get code.insts k ≡ Some i → is_one_of namings (opcode i) ≡ false
    → AllByRecursion (λ id. (kind code.insts id == op.STRING) ≡ false) (used_ids i)
