-- Which instructions give an id a meaning, and what meanings: row by row of what instructions say.
use Rattle.std.proofs.Common.{rules, ◌≡◌, ℕ, ◌⊎◌, inl, inr, Bool, true, false, cond, ◌==◌, ◌||◌, List, [], ◌∷◌, ◌++◌, take, drop, Option, Some, None, refl, sym, ap, subst, ◌∙◌}
use Rattle.std.specs.Prelude.{nat_eq}
use Rattle.std.specs.Option.{option_map}
use Rattle.std.specs.List.{slice_index}
use Rattle.std.specs.Map.{lookup}
use Rattle.std.proofs.lemmas.Bool.{eqb-true}
use Rattle.spv_opcodes.specs.declared.op.TheConstants as op
use Rattle.spv_grammar.specs.Table.{row_of}
use Rattle.spv_grammar.specs.Roles.{is_defined_id}
use Rattle.spv_module.specs.Instruction.{Instruction, IsInstruction, opcode, roles, word_with}
use Rattle.spv_meaning.specs.Statements as says
use Rattle.spv_meaning.specs.Statements.{Statement, Rows, said, by_row, rows, module_rows, type_rows, constant_rows, flow_rows, memory_rows, operation_rows, atomic, evaluated, operation_on_all, of_constants, spec_constant_op, is_silent_opcode, mode, mode_by_ids}
use Rattle.spv_meaning.specs.Types as types
use Rattle.spv_meaning.specs.Constants.{Table, Meaning, IsType, IsPointer, IsConstant, IsVariable, defined, initial}
use Rattle.spv_typing.specs.Kinds.{is_one_of, data_types, constants}
use Rattle.spv_declarations.specs.Declarations.{entry, entry_of}
use Rattle.spv_declarations.proofs.Parts.{first_plain, first_typed, row_test, defined-plain, defined-typed}

-- ---- properties of rows

abbrev pub AllRows : (ℕ → (List ℕ → Statement) → Type 0) → Rows → Type 0
AllRows P [] = Unit {0}
AllRows P (row ∷ rest) = P row.0 row.1 × AllRows P rest

pub rows-append : (P : ℕ → (List ℕ → Statement) → Type 0) (xs ys : Rows) → AllRows P xs → AllRows P ys → AllRows P (xs ++ ys)
rows-append P [] ys h k = k
rows-append P (row ∷ rest) ys h k = (h.0, rows-append P rest ys h.1 k)

found_row : (P : ℕ → (List ℕ → Statement) → Type 0) (o : ℕ) (row : ℕ × (List ℕ → Statement)) (others : Option (List ℕ → Statement)) (b : Bool) →
    (nat_eq o row.0) ≡ b → P row.0 row.1 → P o (by_row others) →
    P o (by_row (cond b (Some row.1) others))
found_row P o row others true e h k = subst (λ (n : ℕ). P n row.1) (sym (eqb-true o row.0 e)) h
found_row P o row others false e h k = k

-- what holds of each row holds of the one that is found, if it holds where none is
pub row_holds : (P : ℕ → (List ℕ → Statement) → Type 0) (o : ℕ) (rest : Rows) → P o (by_row None) → AllRows P rest →
    P o (by_row (lookup (nat_eq o) rest))
row_holds P o [] none h = none
row_holds P o (row ∷ rest) none h = found_row P o row (lookup (nat_eq o) rest) (nat_eq o row.0) refl h.0 (row_holds P o rest none h.1)

-- ---- what a row makes of the result

-- meanings that an instruction of an opcode may give
abbrev pub suits_meaning : ℕ → Meaning → Bool
suits_meaning o (IsType t) = is_one_of data_types o || o == op.TYPE_RUNTIME_ARRAY
suits_meaning o (IsConstant t words) = is_one_of constants o || o == op.UNDEF
suits_meaning o (IsPointer class target) = o == op.TYPE_POINTER
suits_meaning o (IsVariable class target words) = o == op.VARIABLE

-- an id that gets a meaning is the result, plain or typed, of the instruction
pub record Gives (o : ℕ) (ws : List ℕ) (r : ℕ) (m : Meaning) : Type 0 where
  pub suits : suits_meaning o m ≡ true
  pub result : ((r ≡ slice_index ws 0) × (row_test first_plain (row_of o) ≡ true)) ⊎ ((r ≡ slice_index ws 1) × (row_test first_typed (row_of o) ≡ true))

abbrev pub GivesIts : ℕ → (List ℕ → Statement) → Type 0
GivesIts o row =
    (ws : List ℕ) (all : List Statement) (table : Table) (r : ℕ) (m : Meaning) → defined all [] table (row ws) ≡ Some (r, m) → Gives o ws r m

abbrev stands : ℕ → Meaning → Option (ℕ × Meaning)
stands r m = Some (r, m)

abbrev entry_in : Option (ℕ × Meaning) → ℕ × Meaning
entry_in None = (0, IsConstant types.Void [])
entry_in (Some e) = e

plain : (o : ℕ) (ws : List ℕ) (m : Meaning) (r : ℕ) (n : Meaning) → suits_meaning o m ≡ true → row_test first_plain (row_of o) ≡ true →
    stands (slice_index ws 0) m ≡ stands r n → Gives o ws r n
plain o ws m r n suits first e =
    let same = ap entry_in e in
    record { suits = subst (λ (p : ℕ × Meaning). suits_meaning o p.1 ≡ true) same suits; result = inl (sym (ap (λ (p : ℕ × Meaning). p.0) same), first) }

typed : (o : ℕ) (ws : List ℕ) (m : Meaning) (r : ℕ) (n : Meaning) → suits_meaning o m ≡ true → row_test first_typed (row_of o) ≡ true →
    stands (slice_index ws 1) m ≡ stands r n → Gives o ws r n
typed o ws m r n suits first e =
    let same = ap entry_in e in
    record { suits = subst (λ (p : ℕ × Meaning). suits_meaning o p.1 ≡ true) same suits; result = inr (sym (ap (λ (p : ℕ × Meaning). p.0) same), first) }

pub types_give : AllRows GivesIts type_rows
unfolding row_of
types_give = search (rules, plain)

variable_gives : (target : types.DataType) (local : Bool) (ws : List ℕ) (table : Table) (r : ℕ) (m : Meaning) →
    option_map (λ m. (slice_index ws 1, m)) (cond local None (Some (IsVariable (slice_index ws 2) target (initial table target (drop 3 ws))))) ≡ stands r m → Gives op.VARIABLE ws r m
unfolding row_of
variable_gives target true ws table r m e = cc
variable_gives target false ws table r m e =
    typed op.VARIABLE ws (IsVariable (slice_index ws 2) target (initial table target (drop 3 ws))) r m refl refl e

pub constants_give : AllRows GivesIts constant_rows
unfolding row_of
constants_give = search (rules, typed, variable_gives)

-- a row that gives no id a meaning
abbrev IsSilent : ℕ → (List ℕ → Statement) → Type 0
IsSilent o row = (ws : List ℕ) (all : List Statement) (table : Table) → defined all [] table (row ws) ≡ None

none_stands : (o : ℕ) (ws : List ℕ) (found : Option (ℕ × Meaning)) (r : ℕ) (m : Meaning) → found ≡ None → found ≡ stands r m → Gives o ws r m
none_stands o ws found r m e f = cc

silent_give : (given : Rows) → AllRows IsSilent given → AllRows GivesIts given
silent_give [] h = tt
silent_give (row ∷ rest) h =
    (λ ws all table r m e. none_stands row.0 ws (defined all [] table (row.1 ws)) r m (h.0 ws all table) e, silent_give rest h.1)

mode_silent : (all : List Statement) (table : Table) (b : Bool) (function : ℕ) (literals : List ℕ) →
    defined all [] table (cond b (says.LocalSize function literals) says.Unknown) ≡ None
mode_silent all table true function literals = refl
mode_silent all table false function literals = refl

mode_by_ids_silent : (all : List Statement) (table : Table) (b : Bool) (function : ℕ) (literals : List ℕ) →
    defined all [] table (cond b (says.LocalSizeId function literals) says.Unknown) ≡ None
mode_by_ids_silent all table true function literals = refl
mode_by_ids_silent all table false function literals = refl

module_silent : AllRows IsSilent module_rows
module_silent = search (rules, mode_silent, mode_by_ids_silent)

flow_silent : AllRows IsSilent flow_rows
flow_silent = search rules

memory_silent : AllRows IsSilent memory_rows
memory_silent = search rules

-- ---- operations

-- an operation has its result's type and its result in front
abbrev pub StandsBehind : List ℕ → Statement → Type 0
StandsBehind ws (says.Operation computation t r operands) = (t ≡ slice_index ws 0) × (r ≡ slice_index ws 1)
StandsBehind ws other = Unit {0}

abbrev pub Operates : ℕ → (List ℕ → Statement) → Type 0
Operates o row = (ws : List ℕ) → StandsBehind ws (row ws)

pub operations_operate : AllRows Operates operation_rows
operations_operate = search rules

operations_silent : AllRows IsSilent operation_rows
operations_silent = search rules

-- the words without the inner opcode
second_of : (ws : List ℕ) → slice_index (take 2 ws ++ drop 3 ws) 1 ≡ slice_index ws 1
second_of [] = refl
second_of (x ∷ []) = refl
second_of (x ∷ y ∷ ws) = refl

of_constants_gives : (ws inner : List ℕ) (st : Statement) → slice_index inner 1 ≡ slice_index ws 1 → StandsBehind inner st →
    (all : List Statement) (table : Table) (r : ℕ) (m : Meaning) →
    defined all [] table (of_constants st) ≡ stands r m → Gives op.SPEC_CONSTANT_OP ws r m
unfolding row_of
of_constants_gives ws inner (says.Operation computation t q operands) second behind all table r m e =
    let same = ap entry_in e in
    record {
      suits = subst (λ (p : ℕ × Meaning). suits_meaning op.SPEC_CONSTANT_OP p.1 ≡ true) same refl;
      result = inr (sym (ap (λ (p : ℕ × Meaning). p.0) same) ∙ (behind.1 ∙ second), refl);
    }
of_constants_gives ws inner other second behind all table r m e = cc

spec_op_gives : GivesIts op.SPEC_CONSTANT_OP spec_constant_op
spec_op_gives ws all table r m e =
    let inner = take 2 ws ++ drop 3 ws in
    of_constants_gives ws inner (by_row (lookup (nat_eq (slice_index ws 2)) operation_rows) inner) (second_of ws)
    (row_holds Operates (slice_index ws 2) operation_rows (λ ws. tt) operations_operate inner) all table r m e

pub rows_give : AllRows GivesIts rows
rows_give =
    rows-append GivesIts module_rows
    (type_rows ++ (constant_rows ++ ((op.SPEC_CONSTANT_OP, spec_constant_op) ∷ (flow_rows ++ (memory_rows ++ operation_rows)))))
    (silent_give module_rows module_silent)
    (rows-append GivesIts type_rows (constant_rows ++ ((op.SPEC_CONSTANT_OP, spec_constant_op) ∷ (flow_rows ++ (memory_rows ++ operation_rows)))) types_give
    (rows-append GivesIts constant_rows ((op.SPEC_CONSTANT_OP, spec_constant_op) ∷ (flow_rows ++ (memory_rows ++ operation_rows))) constants_give (
      spec_op_gives,
      rows-append GivesIts flow_rows (memory_rows ++ operation_rows) (silent_give flow_rows flow_silent)
          (rows-append GivesIts memory_rows operation_rows (silent_give memory_rows memory_silent) (silent_give operation_rows operations_silent)),
    )))

-- ---- an instruction

pub record GivesMeaning (i : Instruction) (r : ℕ) (m : Meaning) : Type 0 where
  pub suits : suits_meaning (opcode i) m ≡ true
  pub result : word_with is_defined_id i ≡ Some r
  pub loud : is_silent_opcode (opcode i) ≡ false

gives_at : (o : ℕ) (ws : List ℕ) (silent : Bool) (all : List Statement) (table : Table) (r : ℕ) (m : Meaning) →
    entry_of all table (cond silent [] (by_row (lookup (nat_eq o) rows) ws ∷ [])) ≡ stands r m → Gives o ws r m × (silent ≡ false)
gives_at o ws true all table r m e = cc
gives_at o ws false all table r m e =
    (row_holds GivesIts o rows (λ ws all table r m e. none_stands o ws None r m refl e) rows_give ws all table r m e, refl)

result_of : (i : Instruction) (r : ℕ) → IsInstruction i.words (roles i) →
    ((r ≡ slice_index (drop 1 i.words) 0) × (row_test first_plain (row_of (opcode i)) ≡ true)) ⊎ ((r ≡ slice_index (drop 1 i.words) 1) × (row_test first_typed (row_of (opcode i)) ≡ true)) →
    word_with is_defined_id i ≡ Some r
result_of i r whole (inl h) = defined-plain i whole h.1 ∙ ap Some (sym h.0)
result_of i r whole (inr h) = defined-typed i whole h.1 ∙ ap Some (sym h.0)

-- what gets a meaning is what the instruction defines
pub entry-gives : (all : List Statement) (table : Table) (i : Instruction) (r : ℕ) (m : Meaning) → IsInstruction i.words (roles i) →
    entry all table i ≡ Some (r, m) → GivesMeaning i r m
entry-gives all table i r m whole e =
    let given = gives_at (opcode i) (drop 1 i.words) (is_silent_opcode (opcode i)) all table r m e in
    record { suits = given.0.suits; result = result_of i r whole given.0.result; loud = given.1 }

entry_loud : (all : List Statement) (table : Table) (st : Statement) (silent : Bool) → silent ≡ false →
    entry_of all table (cond silent [] (st ∷ [])) ≡ defined all [] table st
entry_loud all table st true h = cc
entry_loud all table st false h = refl

-- the meaning, by the row of the opcode
pub entry-by : (all : List Statement) (table : Table) (i : Instruction) (o : ℕ) → opcode i ≡ o → is_silent_opcode o ≡ false →
    entry all table i ≡ defined all [] table (by_row (lookup (nat_eq o) rows) (drop 1 i.words))
entry-by all table i o is_o loud =
    entry_loud all table (by_row (lookup (nat_eq (opcode i)) rows) (drop 1 i.words)) (is_silent_opcode (opcode i)) (ap is_silent_opcode is_o ∙ loud)
    ∙ ap (λ (n : ℕ). defined all [] table (by_row (lookup (nat_eq n) rows) (drop 1 i.words))) is_o
