-- A module of four declarations breaks no rule of the third group.
use Rattle.std.proofs.Common.{◌≡◌, ℕ, zero, suc, List, [], ◌∷◌, refl, subst, arith}
use Rattle.spv_opcodes.specs.declared.op.TheConstants as op
use Rattle.spv_grammar.specs.Operands.{roles_of}
use Rattle.spv_grammar.specs.Table.{row_of}
use Rattle.spv_module.specs.Instruction.{Instruction, IsInstruction, roles, instruction_rules}
use Rattle.spv_meaning.specs.Statements.{statements_in}
use Rattle.spv_typing.specs.Types.{type_fits}
use Rattle.spv_typing.specs.Operations.{spec_op_fits}
use Rattle.spv_decorations.specs.Targets.{decoration_fits}
use Rattle.spv_decorations.specs.Globals.{global_fits}
use Rattle.spv_declarations.specs.Broken.{rules_at, group_3_from}
use Rattle.spv_declarations.specs.Sound.{AreInstructions}
use Rattle.spv_declarations.specs.Laws.{IsUnbroken}
use Rattle.spv_declarations.specs.Facts.{words, placed, scalars}

abbrev IsWhole : Instruction → Type 0
IsWhole i = IsInstruction i.words (roles i)

whole_none : AreInstructions []
whole_none k i at = cc

-- one in front of others
whole_more : (x : Instruction) (xs : List Instruction) → IsWhole x → AreInstructions xs → AreInstructions (x ∷ xs)
whole_more x xs own others zero i at =
    let same : x ≡ i = cc in
    subst IsWhole same own
whole_more x xs own others (suc k) i at = others k i at

abbrev int : List ℕ
int = words op.TYPE_INT (1 ∷ 32 ∷ 0 ∷ [])

abbrev bool : List ℕ
bool = words op.TYPE_BOOL (2 ∷ [])

abbrev two : List ℕ
two = words op.CONSTANT (1 ∷ 3 ∷ 2 ∷ [])

abbrev yes_constant : List ℕ
yes_constant = words op.CONSTANT_TRUE (2 ∷ 4 ∷ [])

abbrev at_place : ℕ → List ℕ → Instruction
at_place place ws = record { offset = place; words = ws }

int_whole : IsWhole (at_place 5 int)
unfolding roles_of row_of instruction_rules
int_whole = record { some = omega arith; counted = refl; parted = refl; long = refl; unbroken = refl }

bool_whole : IsWhole (at_place 9 bool)
unfolding roles_of row_of instruction_rules
bool_whole = record { some = omega arith; counted = refl; parted = refl; long = refl; unbroken = refl }

two_whole : IsWhole (at_place 11 two)
unfolding roles_of row_of instruction_rules
two_whole = record { some = omega arith; counted = refl; parted = refl; long = refl; unbroken = refl }

true_whole : IsWhole (at_place 15 yes_constant)
unfolding roles_of row_of instruction_rules
true_whole = record { some = omega arith; counted = refl; parted = refl; long = refl; unbroken = refl }

scalars_whole : AreInstructions (placed 5 scalars)
scalars_whole =
    whole_more (at_place 5 int) (placed 9 (bool ∷ two ∷ yes_constant ∷ [])) int_whole
    (whole_more (at_place 9 bool) (placed 11 (two ∷ yes_constant ∷ [])) bool_whole
    (whole_more (at_place 11 two) (placed 15 (yes_constant ∷ [])) two_whole
    (whole_more (at_place 15 yes_constant) [] true_whole whole_none)))

pub scalars_unbroken : IsUnbroken (placed 5 scalars)
unfolding rules_at group_3_from statements_in row_of roles_of type_fits spec_op_fits decoration_fits global_fits
scalars_unbroken = record { whole = scalars_whole; unrefused = refl }
