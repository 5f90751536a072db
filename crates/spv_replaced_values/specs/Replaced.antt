-- Instructions in which other values stand where values were used.
use Rattle.std.specs.Prelude.{◌≡◌, ℕ, Bool, true, false, cond, ◌==◌, ◌&&◌, ◌||◌, not, List, [], ◌∷◌}
use Rattle.spv_opcodes.specs.declared.op.TheConstants as op
use Rattle.spv_grammar.specs.declared.kind.Role.{Role}
use Rattle.spv_grammar.specs.Roles.{is_used_id}
use Rattle.spv_module.specs.Instruction.{Instruction, IsInstruction, opcode, roles}
use Rattle.spv_ids.specs.Ids.{kind}
use Rattle.spv_typing.specs.Kinds.{is_constant, is_one_of}
use Rattle.spv_values.specs.Values.{is_pointer_value}
use Rattle.spv_arithmetic.specs.Operands.{have_one_type}
use Rattle.spv_typed_trees.specs.Typed.{as_instruction}

-- Of a value that is used, the rules on instructions of functions read the type; besides, they read the words of a constant, as those of a scope, an index
-- into a struct or an initialiser, and whether a pointer is a variable or a parameter, as an argument of a call is.
abbrev pub is_read : List Instruction → (id : ℕ) → Bool
is_read insts id = is_constant insts id || (is_pointer_value insts id && is_one_of (op.VARIABLE ∷ op.FUNCTION_PARAMETER ∷ []) (kind insts id))

-- Where an id is used another one may stand: itself, or a value of the type of a value of which the type alone is read. The value that then stands there may
-- be a constant, and may be a variable.
abbrev pub stands_in : List Instruction → (id other : ℕ) → Bool
stands_in insts id other = other == id || (not (is_read insts id) && have_one_type insts id other)

-- a word by its part: ids that are used are replaced, and all other words stay
abbrev pub may_stand : List Instruction → Role → (word other : ℕ) → Bool
may_stand insts role word other = cond (is_used_id role) (stands_in insts word other) (other == word)

-- as many other words, each of which may stand where a word with its part does
abbrev pub ReplacesWords : List Instruction → List Role → (words others : List ℕ) → Type 0
ReplacesWords insts [] [] [] = Unit {0}
ReplacesWords insts (role ∷ roles) (word ∷ words) (other ∷ others) = (may_stand insts role word other ≡ true) × ReplacesWords insts roles words others
ReplacesWords insts roles words others = ⊥

-- the words of an instruction, which is no OpFunction, and those in which other values stand
pub record ReplacesValues (insts : List Instruction) (words others : List ℕ) : Type 0 where
  pub whole : IsInstruction words (roles (as_instruction words))
  pub inside : (opcode (as_instruction words) == op.FUNCTION) ≡ false
  pub replaced : ReplacesWords insts (roles (as_instruction words)) words others
