-- What arithmetic takes and gives, by the opcode. Int(c) is an integer, where c is 1, or a vector of c integers, and Bool(c) likewise; c is how many
-- components the first operand has.
use Rattle.std.specs.Map.{lookup}
use Rattle.std.specs.Prelude.{ℕ, nat_eq, List, [], ◌∷◌, Option}
use Rattle.spv_opcodes.specs.declared.op.TheConstants as op
pub use Rattle.spv_arithmetic.specs.declared.forms.Form.{Form}
pub use Rattle.spv_arithmetic.specs.declared.forms.Form.TheVariants.{Ints, Bools, Compares, Reduces, Pairs, FieldInserts, FieldExtracts}
pub use Rattle.spv_arithmetic.specs.declared.forms.Form.TheVariants.{Selects, Extended, Converts, Branches, Switches}

abbrev pub forms : List (ℕ × Form)
forms =
    (op.S_NEGATE, Ints 1) ∷ (op.NOT, Ints 1) ∷ (op.BIT_REVERSE, Ints 1) ∷ (op.BIT_COUNT, Ints 1) ∷ (op.BITCAST, Ints 1)
    ∷ (op.I_ADD, Ints 2) ∷ (op.I_SUB, Ints 2) ∷ (op.I_MUL, Ints 2)
    ∷ (op.U_DIV, Ints 2) ∷ (op.S_DIV, Ints 2) ∷ (op.U_MOD, Ints 2) ∷ (op.S_REM, Ints 2) ∷ (op.S_MOD, Ints 2)
    ∷ (op.SHIFT_RIGHT_LOGICAL, Ints 2) ∷ (op.SHIFT_RIGHT_ARITHMETIC, Ints 2) ∷ (op.SHIFT_LEFT_LOGICAL, Ints 2)
    ∷ (op.BITWISE_OR, Ints 2) ∷ (op.BITWISE_XOR, Ints 2) ∷ (op.BITWISE_AND, Ints 2)
    ∷ (op.LOGICAL_NOT, Bools 1)
    ∷ (op.LOGICAL_EQUAL, Bools 2) ∷ (op.LOGICAL_NOT_EQUAL, Bools 2) ∷ (op.LOGICAL_OR, Bools 2) ∷ (op.LOGICAL_AND, Bools 2)
    ∷ (op.I_EQUAL, Compares) ∷ (op.I_NOT_EQUAL, Compares)
    ∷ (op.U_GREATER_THAN, Compares) ∷ (op.S_GREATER_THAN, Compares) ∷ (op.U_GREATER_THAN_EQUAL, Compares) ∷ (op.S_GREATER_THAN_EQUAL, Compares)
    ∷ (op.U_LESS_THAN, Compares) ∷ (op.S_LESS_THAN, Compares) ∷ (op.U_LESS_THAN_EQUAL, Compares) ∷ (op.S_LESS_THAN_EQUAL, Compares)
    ∷ (op.ANY, Reduces) ∷ (op.ALL, Reduces)
    ∷ (op.I_ADD_CARRY, Pairs) ∷ (op.I_SUB_BORROW, Pairs) ∷ (op.U_MUL_EXTENDED, Pairs) ∷ (op.S_MUL_EXTENDED, Pairs)
    ∷ (op.BIT_FIELD_INSERT, FieldInserts) ∷ (op.BIT_FIELD_S_EXTRACT, FieldExtracts) ∷ (op.BIT_FIELD_U_EXTRACT, FieldExtracts)
    ∷ (op.SELECT, Selects) ∷ (op.EXT_INST, Extended)
    ∷ (op.U_CONVERT, Converts) ∷ (op.S_CONVERT, Converts)
    ∷ (op.BRANCH_CONDITIONAL, Branches) ∷ (op.SWITCH, Switches) ∷ []

-- none for an instruction that is no arithmetic
abbrev pub form_of : (opcode : ℕ) → Option Form
form_of opcode = lookup (nat_eq opcode) forms

-- the word that the operands begin at: a terminator has no result
abbrev pub first_operand : Form → ℕ
first_operand Branches = 1
first_operand Switches = 1
first_operand form = 3
