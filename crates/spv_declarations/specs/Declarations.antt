-- What the declarations in front of an instruction have declared, with the constants' own words: the meanings of ids, and which constants are Specialised.
use Rattle.std.specs.Prelude.{ℕ, Bool, false, cond, ◌&&◌, ◌||◌, not, List, [], ◌∷◌, ◌++◌, take, slice_index, Option, None, is_some}
use Rattle.std.specs.List.{list_any}
use Rattle.spv_opcodes.specs.declared.op.TheConstants as op
use Rattle.spv_opcodes.specs.declared.decoration.TheConstants as decoration
use Rattle.spv_grammar.specs.Roles.{is_used_id}
use Rattle.spv_module.specs.Code.{is_function}
use Rattle.spv_module.specs.Instruction.{Instruction, opcode}
use Rattle.spv_meaning.specs.Statements.{Statement, said, statements_in, words_of}
use Rattle.spv_meaning.specs.Constants.{Table, Meaning, defined, with_entry, decorated}
use Rattle.spv_ids.specs.Ids.{words_with}
use Rattle.spv_typing.specs.Kinds.{is_one_of}

-- what all instructions of a module say
abbrev pub says : List Instruction → List Statement
says insts = statements_in (words_of insts)

-- what the id that an instruction defines stands for, by the meanings of those before it
abbrev pub entry_of : (all : List Statement) → Table → List Statement → Option (ℕ × Meaning)
entry_of all table [] = None
entry_of all table (statement ∷ rest) = defined all [] table statement

abbrev pub entry : (all : List Statement) → Table → Instruction → Option (ℕ × Meaning)
entry all table i = entry_of all table (said i.words [])

-- A constant is Specialised where it has a SpecId, or where it is an OpSpecConstantComposite or OpSpecConstantOp with an operand that is. Every other one is Known.
abbrev pub is_specialised : (all : List Statement) → (specialised : List ℕ) → Instruction → Bool
is_specialised all specialised i =
    cond (is_one_of (op.SPEC_CONSTANT_TRUE ∷ op.SPEC_CONSTANT_FALSE ∷ op.SPEC_CONSTANT ∷ []) (opcode i))
    (is_some (decorated all (slice_index i.words 2) decoration.SPEC_ID))
    (is_one_of (op.SPEC_CONSTANT_COMPOSITE ∷ op.SPEC_CONSTANT_OP ∷ []) (opcode i) && list_any (is_one_of specialised) (words_with is_used_id i))

-- whether a function has begun; the meanings of ids; the ids of the Specialised constants
pub record Declared : Type 0 where
  pub begun : Bool
  pub table : Table
  pub specialised : List ℕ

abbrev pub nothing_declared : Declared
nothing_declared = record { begun = false; table = []; specialised = [] }

-- behind one instruction more; functions declare nothing
abbrev pub declare : (all : List Statement) → Declared → Instruction → Declared
declare all d i = record {
  begun = d.begun || is_function i;
  table = cond d.begun d.table (with_entry d.table (entry all d.table i));
  specialised = cond (not d.begun && is_specialised all d.specialised i) (d.specialised ++ slice_index i.words 2 ∷ []) d.specialised;
}

-- behind some instructions
abbrev pub declare_all : (all : List Statement) → Declared → List Instruction → Declared
declare_all all d [] = d
declare_all all d (i ∷ is) = declare_all all (declare all d i) is

-- in front of the k-th instruction of a module
abbrev pub declared_before : List Instruction → (k : ℕ) → Declared
declared_before insts k = declare_all (says insts) nothing_declared (take k insts)
