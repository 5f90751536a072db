-- Where the rules find nothing, labels and strings are no values: laws, as statements.
use Rattle.std.specs.Prelude.{◌≡◌, ◌≢◌, ℕ, false, List, slice_get, Some, None}
use Rattle.std.specs.List.{Contains}
use Rattle.spv_opcodes.specs.declared.op.TheConstants as op
use Rattle.spv_module.specs.First.{first}
use Rattle.spv_module.specs.Instruction.{Instruction, IsInstruction, opcode, roles}
use Rattle.spv_module.specs.Layout.{group_2}
use Rattle.spv_ids.specs.Ids.{kind}
use Rattle.spv_typing.specs.Kinds.{is_one_of}
use Rattle.spv_declarations.specs.Broken.{group_3}
use Rattle.spv_body_rules.specs.Broken.{body_rules}
use Rattle.spv_entries.specs.Broken.{entry_rules}
use Rattle.spv_calls.specs.Interfaces.{InterfaceFits}
use Rattle.spv_alike.specs.Uses.{UsesNoLabels, namings, value_uses}

-- the rules on layout, declarations, bodies (503 aside), entry points and interfaces find nothing
pub record FindNothing (insts : List Instruction) : Type 0 where
  pub end : ℕ
  pub instructions : (k : ℕ) (i : Instruction) → slice_get insts k ≡ Some i → IsInstruction i.words (roles i)
  pub laid_out : first (group_2 end insts) ≡ None
  pub declared : first (group_3 insts) ≡ None
  pub fit : (k : ℕ) (i : Instruction) → slice_get insts k ≡ Some i → (rule : ℕ) → Contains (body_rules insts k i) rule → ⊥
  pub interface : (k : ℕ) (i : Instruction) → slice_get insts k ≡ Some i → InterfaceFits insts i
  pub entered : (k : ℕ) (i : Instruction) → slice_get insts k ≡ Some i → (rule : ℕ) → Contains (entry_rules insts k i) rule → ⊥

abbrev pub LabelsAreNoValues : Type 0
LabelsAreNoValues = (insts : List Instruction) → FindNothing insts → UsesNoLabels insts

-- no instruction but these uses a string
pub record UsesNoStrings (insts : List Instruction) : Type 0 where
  pub at : (k : ℕ) (i : Instruction) → slice_get insts k ≡ Some i → is_one_of namings (opcode i) ≡ false → (id : ℕ) → Contains (value_uses i) id
      → kind insts id ≢ op.STRING

abbrev pub StringsAreNoValues : Type 0
StringsAreNoValues = (insts : List Instruction) → FindNothing insts → UsesNoStrings insts
