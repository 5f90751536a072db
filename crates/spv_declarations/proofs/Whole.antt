-- What the declarations of a whole module declare is the table of the module, and functions declare nothing more.
use Rattle.std.proofs.Common.{rules, ◌≡◌, ℕ, zero, suc, Bool, true, false, cond, ◌==◌, List, [], ◌∷◌, ◌++◌, length, take, drop, refl, sym, ap, ◌∙◌}
use Rattle.std.specs.Prelude.{nat_eq}
use Rattle.std.specs.Map.{lookup}
use Rattle.std.proofs.lemmas.Bool.{eqb-true}
use Rattle.spv_opcodes.specs.declared.op.TheConstants as op
use Rattle.spv_module.specs.Code.{is_function}
use Rattle.spv_module.specs.Instruction.{Instruction, opcode}
use Rattle.spv_meaning.specs.Statements as says
use Rattle.spv_meaning.specs.Statements.{Statement, Rows, said, by_row, rows, module_rows, type_rows, constant_rows, flow_rows, memory_rows, operation_rows, of_constants, spec_constant_op, is_silent_opcode, statements_in, words_of}
use Rattle.spv_meaning.specs.Constants.{Table, defined, with_entry, table_from, table_of}
use Rattle.spv_declarations.specs.Declarations.{Declared, nothing_declared, declare, declare_all, declared_before, says}
use Rattle.spv_declarations.proofs.Defining.{AllRows, rows-append, row_holds, entry-by}

-- ---- which rows say that a function begins

abbrev begins_function : Statement → Bool
begins_function (says.Function r) = true
begins_function other = false

-- only that of OpFunction
abbrev BeginsNone : ℕ → (List ℕ → Statement) → Type 0
BeginsNone o row = (o == op.FUNCTION) ≡ false → (ws : List ℕ) → begins_function (row ws) ≡ false

mode_begins_none : (b : Bool) (function : ℕ) (literals : List ℕ) → begins_function (cond b (says.LocalSize function literals) says.Unknown) ≡ false
mode_begins_none true function literals = refl
mode_begins_none false function literals = refl

mode_by_ids_begins_none : (b : Bool) (function : ℕ) (literals : List ℕ) → begins_function (cond b (says.LocalSizeId function literals) says.Unknown) ≡ false
mode_by_ids_begins_none true function literals = refl
mode_by_ids_begins_none false function literals = refl

module_begins_none : AllRows BeginsNone module_rows
module_begins_none = search (rules, mode_begins_none, mode_by_ids_begins_none)

types_begin_none : AllRows BeginsNone type_rows
types_begin_none = search rules

constants_begin_none : AllRows BeginsNone constant_rows
constants_begin_none = search rules

of_constants_begins_none : (st : Statement) → begins_function (of_constants st) ≡ false
of_constants_begins_none (says.Operation computation t r operands) = refl
of_constants_begins_none other = refl

flow_begins_none : AllRows BeginsNone flow_rows
flow_begins_none = search rules

memory_begins_none : AllRows BeginsNone memory_rows
memory_begins_none = search rules

operations_begin_none : AllRows BeginsNone operation_rows
operations_begin_none = search rules

rows_begin_none : AllRows BeginsNone rows
rows_begin_none =
    rows-append BeginsNone module_rows
    (type_rows ++ (constant_rows ++ ((op.SPEC_CONSTANT_OP, spec_constant_op) ∷ (flow_rows ++ (memory_rows ++ operation_rows))))) module_begins_none
    (rows-append BeginsNone type_rows (constant_rows ++ ((op.SPEC_CONSTANT_OP, spec_constant_op) ∷ (flow_rows ++ (memory_rows ++ operation_rows)))) types_begin_none
    (rows-append BeginsNone constant_rows ((op.SPEC_CONSTANT_OP, spec_constant_op) ∷ (flow_rows ++ (memory_rows ++ operation_rows))) constants_begin_none (
      λ h ws. of_constants_begins_none _,
      rows-append BeginsNone flow_rows (memory_rows ++ operation_rows) flow_begins_none
          (rows-append BeginsNone memory_rows operation_rows memory_begins_none operations_begin_none),
    )))

begins_none : (o : ℕ) (ws : List ℕ) → (o == op.FUNCTION) ≡ false → begins_function (by_row (lookup (nat_eq o) rows) ws) ≡ false
begins_none o ws h = row_holds BeginsNone o rows (λ h ws. refl) rows_begin_none h ws

-- ---- one statement more

goes_on : (all : List Statement) (table : Table) (st : Statement) (rest : List Statement) → begins_function st ≡ false →
    table_from all [] table (st ∷ rest) ≡ table_from all [] (with_entry table (defined all [] table st)) rest
goes_on all table (says.Function r) rest h = cc
goes_on all table other rest h = refl

function_ends : (all : List Statement) (table : Table) (ws : List ℕ) (rest : List Statement) (o : ℕ) → o ≡ op.FUNCTION →
    table_from all [] table (by_row (lookup (nat_eq o) rows) ws ∷ rest) ≡ table
function_ends all table ws rest o is =
    ap (λ (n : ℕ). table_from all [] table (by_row (lookup (nat_eq n) rows) ws ∷ rest)) is

-- ---- functions declare nothing more

begun_declares_none : (all : List Statement) (d : Declared) (i : Instruction) → d.begun ≡ true → declare all d i ≡ d
begun_declares_none all d i begun = by_begun d.begun d.table d.specialised begun
  where
    by_begun : (b : Bool) (table : Table) (specialised : List ℕ) → b ≡ true →
        declare all (record { begun = b; table = table; specialised = specialised }) i ≡ record { begun = b; table = table; specialised = specialised }
    by_begun true table specialised h = refl
    by_begun false table specialised h = cc

-- induction on the instructions
begun_declares_nothing : (all : List Statement) (d : Declared) (is : List Instruction) → d.begun ≡ true → declare_all all d is ≡ d
begun_declares_nothing all d [] begun = refl
begun_declares_nothing all d (i ∷ is) begun =
    ap (λ (e : Declared). declare_all all e is) (begun_declares_none all d i begun) ∙ begun_declares_nothing all d is begun

-- all instructions are the first k and those behind them; induction on k
declare_all-split : (all : List Statement) (d : Declared) (k : ℕ) (is : List Instruction) →
    declare_all all d is ≡ declare_all all (declare_all all d (take k is)) (drop k is)
declare_all-split all d zero is = refl
declare_all-split all d (suc k) [] = refl
declare_all-split all d (suc k) (i ∷ is) = declare_all-split all (declare all d i) k is

pub take_all : (is : List Instruction) → take (length is) is ≡ is
take_all [] = refl
take_all (i ∷ is) = ap (λ (xs : List Instruction). i ∷ xs) (take_all is)

-- where a function has begun, all is declared that the module declares
pub declared-begun : (insts : List Instruction) (k : ℕ) → (declared_before insts k).begun ≡ true →
    declared_before insts k ≡ declared_before insts (length insts)
declared-begun insts k begun =
    sym (
    ap (λ (is : List Instruction). declare_all (says insts) nothing_declared is) (take_all insts)
    ∙ declare_all-split (says insts) nothing_declared k insts
    ∙ begun_declares_nothing (says insts) (declared_before insts k) (drop k insts) begun
    )

-- ---- all statements

abbrev statement_of : Instruction → Statement
statement_of i = by_row (lookup (nat_eq (opcode i)) rows) (drop 1 i.words)

said_silent : (i : Instruction) (rest : List Statement) → is_silent_opcode (opcode i) ≡ true → said i.words rest ≡ rest
said_silent i rest h = rw h refl

said_loud : (i : Instruction) (rest : List Statement) → is_silent_opcode (opcode i) ≡ false → said i.words rest ≡ statement_of i ∷ rest
said_loud i rest h = rw h refl

declares_at : (all : List Statement) (d : Declared) (i : Instruction) (is : List Instruction) (silent function : Bool) →
    is_silent_opcode (opcode i) ≡ silent → is_function i ≡ function → d.begun ≡ false →
    ((e : Declared) → e.begun ≡ false → (declare_all all e is).table ≡ table_from all [] e.table (statements_in (words_of is))) →
    (declare_all all (declare all d i) is).table ≡ table_from all [] d.table (said i.words (statements_in (words_of is)))
declares_at all d i is true true says_none begins outside others =
    let loud : is_silent_opcode (opcode i) ≡ false = ap is_silent_opcode (eqb-true (opcode i) op.FUNCTION begins) in
    cc
declares_at all d i is true false says_none begins outside others =
    let rest = statements_in (words_of is) in
    others (declare all d i) (rw (outside, begins) refl)
    ∙ ap (λ (t : Table). table_from all [] t rest) (rw (outside, says_none) refl)
    ∙ ap (λ (ss : List Statement). table_from all [] d.table ss) (sym (said_silent i rest says_none))
declares_at all d i is false true says_one begins outside others =
    let rest = statements_in (words_of is) in
    let is_opcode = eqb-true (opcode i) op.FUNCTION begins in
    ap (λ (e : Declared). e.table) (begun_declares_nothing all (declare all d i) is (rw (outside, begins) refl))
    ∙ rw (outside, entry-by all d.table i op.FUNCTION is_opcode refl) refl
    ∙ sym (function_ends all d.table (drop 1 i.words) rest (opcode i) is_opcode)
    ∙ ap (λ (ss : List Statement). table_from all [] d.table ss) (sym (said_loud i rest says_one))
declares_at all d i is false false says_one begins outside others =
    let rest = statements_in (words_of is) in
    others (declare all d i) (rw (outside, begins) refl)
    ∙ ap (λ (t : Table). table_from all [] t rest) (rw (outside, says_one) refl)
    ∙ sym (goes_on all d.table (statement_of i) rest (begins_none (opcode i) (drop 1 i.words) begins))
    ∙ ap (λ (ss : List Statement). table_from all [] d.table ss) (sym (said_loud i rest says_one))

-- induction on the instructions
declares_all : (all : List Statement) (is : List Instruction) (d : Declared) → d.begun ≡ false →
    (declare_all all d is).table ≡ table_from all [] d.table (statements_in (words_of is))
unfolding statements_in
declares_all all [] d outside = refl
declares_all all (i ∷ is) d outside =
    declares_at all d i is (is_silent_opcode (opcode i)) (is_function i) refl refl outside (λ e h. declares_all all is e h)

-- the table of the module
pub declared-whole : (insts : List Instruction) → (declared_before insts (length insts)).table ≡ table_of (says insts) []
declared-whole insts =
    ap (λ (is : List Instruction). (declare_all (says insts) nothing_declared is).table) (take_all insts)
    ∙ declares_all (says insts) insts nothing_declared refl

-- so it is where a function has begun
pub table-begun : (insts : List Instruction) (k : ℕ) → (declared_before insts k).begun ≡ true → (declared_before insts k).table ≡ table_of (says insts) []
table-begun insts k begun = ap (λ (d : Declared). d.table) (declared-begun insts k begun) ∙ declared-whole insts
