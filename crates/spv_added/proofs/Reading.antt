-- What an instruction says outside functions is read of the ids that it uses: where tables agree on these, it stands for the same.
use Rattle.std.proofs.Common.{rules, ◌≡◌, ℕ, suc, Bool, true, false, cond, nat_eq, not, ◌==◌, ◌&&◌, List, [], ◌∷◌, ◌++◌, drop, map, Some, None, refl, sym, ap, ap₂, subst, ◌∙◌}
use Rattle.std.specs.Map.{lookup}
use Rattle.std.specs.List.{AllByRecursion, list_all, slice_index}
use Rattle.std.specs.Option.{is_some, option_map}
use Rattle.std.proofs.lemmas.Bool.{and_parts}
use Rattle.spv_opcodes.specs.declared.op.TheConstants as op
use Rattle.spv_opcodes.specs.declared.decoration.TheConstants as decoration
use Rattle.spv_opcodes.specs.declared.storage_class.TheConstants as storage_class
use Rattle.spv_grammar.specs.Table.{row_of}
use Rattle.spv_module.specs.Instruction.{Instruction, IsInstruction, opcode, roles}
use Rattle.spv_meaning.specs.Computations.{computed}
use Rattle.spv_meaning.specs.Constants.{IsConstant, IsPointer, IsType, IsVariable, Table, composed, defined, decorated, first_literal, given, length_at, length_in, meaning, member_decorated, members_of, pointer_in, type_at, type_in, typed_at, typed_in, variable, words_in, zeros}
use Rattle.spv_meaning.specs.Statements as states
use Rattle.spv_meaning.specs.Statements.{Statement, by_row, constant_rows, flow_rows, is_silent_opcode, memory_rows, module_rows, of_constants, operation_rows, rows, said, spec_constant_op, type_rows}
use Rattle.spv_meaning.specs.Types.{Array, Member, RuntimeArray, Struct, Vector}
use Rattle.spv_ids.specs.Ids.{used_ids}
use Rattle.spv_declarations.specs.Declarations.{entry, entry_of, says}
use Rattle.spv_declarations.proofs.Defining.{AllRows, rows-append, row_holds}
use Rattle.spv_declarations.proofs.Operations.{FitsForm, operands-known, operands_for, said-operation}
use Rattle.spv_declarations.proofs.Parts.{first_typed, row_test, typed-words}
use Rattle.spv_declarations.proofs.Sites.{drop-on, index-on}
use Rattle.spv_alike_uses.proofs.Used.{end_uses, used_word, used_words, word_uses}
use Rattle.spv_added.proofs.Walk.{Adding, FactOf, In}
use Rattle.spv_added.proofs.Places.{first_type}
use Rattle.spv_added.proofs.Said.{same_decorations, same_members}

-- ---- the ids whose meanings a statement is read of

abbrev reads : Statement → List ℕ
reads (states.TypeVector r component count) = component ∷ []
reads (states.TypeArray r element length) = element ∷ length ∷ []
reads (states.TypeRuntimeArray r element) = element ∷ []
reads (states.TypeStruct r members) = members
reads (states.TypePointer r class target) = target ∷ []
reads (states.Constant t r words) = t ∷ []
reads (states.ConstantComposite t r parts) = t ∷ parts
reads (states.ConstantNull t r) = t ∷ []
reads (states.Undef t r) = t ∷ []
reads (states.SpecConstant t r words) = t ∷ []
reads (states.SpecConstantOp computation t r operands) = t ∷ operands
reads (states.Variable t r class initialiser) = t ∷ initialiser
reads other = []

-- ---- tables that agree on these

module _ (P : ℕ → Type 0) (u v : Table) (same : (id : ℕ) → P id → meaning v id ≡ meaning u id) (all : List Statement) where
  -- by induction on the members
  members_agree : (id n : ℕ) (ts : List ℕ) → AllByRecursion P ts → members_of all v id n ts ≡ members_of all u id n ts
  members_agree id n [] h = refl
  members_agree id n (t ∷ ts) h =
      ap₂ (λ o m. Member (first_literal (member_decorated all id n decoration.OFFSET)) (is_some (member_decorated all id n decoration.VOLATILE)) (type_in o) m)
      (same t h.0) (members_agree id (suc n) ts h.1)

  -- and on constituents and operands
  composed_agree : (ids : List ℕ) → AllByRecursion P ids → composed v ids ≡ composed u ids
  composed_agree [] h = refl
  composed_agree (id ∷ ids) h = ap₂ (λ o ws. words_in o ++ ws) (same id h.0) (composed_agree ids h.1)

  typed_agree : (ids : List ℕ) → AllByRecursion P ids → map (typed_at v) ids ≡ map (typed_at u) ids
  typed_agree [] h = refl
  typed_agree (id ∷ ids) h = ap₂ (λ o ts. typed_in o ∷ ts) (same id h.0) (typed_agree ids h.1)

  variable_agree : (t r class : ℕ) (ids : List ℕ) → P t → AllByRecursion P ids
      → defined all [] v (states.Variable t r class ids) ≡ defined all [] u (states.Variable t r class ids)
  variable_agree t r class [] p h =
      ap (λ o. option_map (λ m. (r, m)) (variable v class (pointer_in o).1 [])) (same t p)
  variable_agree t r class (id ∷ ids) p h =
      ap₂ (λ o q. option_map (λ m. (r, m)) (cond (class == storage_class.FUNCTION) None (Some (IsVariable class (pointer_in o).1 (words_in q)))))
      (same t p) (same id h.0)

  pub defined_agrees : (st : Statement) → AllByRecursion P (reads st) → defined all [] v st ≡ defined all [] u st
  defined_agrees (states.TypeVector r component count) h = ap (λ o. Some (r, IsType (Vector count (type_in o)))) (same component h.0)
  defined_agrees (states.TypeArray r element length) h =
      ap₂ (λ o l. Some (r, IsType (Array (first_literal (decorated all r decoration.ARRAY_STRIDE)) (length_in l) (type_in o))))
      (same element h.0) (same length h.1.0)
  defined_agrees (states.TypeRuntimeArray r element) h =
      ap (λ o. Some (r, IsType (RuntimeArray (first_literal (decorated all r decoration.ARRAY_STRIDE)) (type_in o)))) (same element h.0)
  defined_agrees (states.TypeStruct r members) h = ap (λ m. Some (r, IsType (Struct m))) (members_agree r 0 members h)
  defined_agrees (states.TypePointer r class target) h = ap (λ o. Some (r, IsPointer class (type_in o))) (same target h.0)
  defined_agrees (states.Constant t r words) h = ap (λ o. Some (r, IsConstant (type_in o) words)) (same t h.0)
  defined_agrees (states.ConstantComposite t r parts) h =
      ap₂ (λ o ws. Some (r, IsConstant (type_in o) ws)) (same t h.0) (composed_agree parts h.1)
  defined_agrees (states.ConstantNull t r) h = ap (λ o. Some (r, IsConstant (type_in o) (zeros (type_in o)))) (same t h.0)
  defined_agrees (states.Undef t r) h = ap (λ o. Some (r, IsConstant (type_in o) (zeros (type_in o)))) (same t h.0)
  defined_agrees (states.SpecConstant t r words) h =
      ap (λ o. Some (r, IsConstant (type_in o) (given (decorated all r decoration.SPEC_ID) [] (type_in o) words))) (same t h.0)
  defined_agrees (states.SpecConstantOp computation t r operands) h =
      ap₂ (λ o ts. Some (r, IsConstant (type_in o) (computed computation (type_in o) ts))) (same t h.0) (typed_agree operands h.1)
  defined_agrees (states.Variable t r class initialiser) h = variable_agree t r class initialiser h.0 h.1
  defined_agrees other h = refl

-- ---- they are used

-- of an instruction of the opcode
abbrev ReadsUsed : ℕ → (List ℕ → Statement) → Type 0
ReadsUsed o row = (t : Adding) (i : Instruction) → FactOf t i → opcode i ≡ o → AllByRecursion (In t) (reads (row (drop 1 i.words)))

abbrev ReadsNothing : ℕ → (List ℕ → Statement) → Type 0
ReadsNothing o row = (ws : List ℕ) → reads (row ws) ≡ []

nothing_used : (rs : states.Rows) → AllRows ReadsNothing rs → AllRows ReadsUsed rs
nothing_used [] h = tt
nothing_used (row ∷ rest) h = (λ t i f e. subst (AllByRecursion (In t)) (sym (h.0 (drop 1 i.words))) tt, nothing_used rest h.1)

mode_reads : (b : Bool) (function : ℕ) (literals : List ℕ) → reads (cond b (states.LocalSize function literals) states.Unknown) ≡ []
mode_reads true function literals = refl
mode_reads false function literals = refl

mode_by_ids_reads : (b : Bool) (function : ℕ) (literals : List ℕ) → reads (cond b (states.LocalSizeId function literals) states.Unknown) ≡ []
mode_by_ids_reads true function literals = refl
mode_by_ids_reads false function literals = refl

module_reads : AllRows ReadsNothing module_rows
module_reads = search (rules, mode_reads, mode_by_ids_reads)

flow_reads : AllRows ReadsNothing flow_rows
flow_reads = search rules

memory_reads : AllRows ReadsNothing memory_rows
memory_reads = search rules

operations_read : AllRows ReadsNothing operation_rows
operations_read = search rules

module _ (o : ℕ) where
  abbrev OneWord : (k : ℕ) → Type 0
  OneWord k = (t : Adding) (i : Instruction) → FactOf t i → opcode i ≡ o → In t (slice_index (drop 1 i.words) k)

  one_word : (k : ℕ) → word_uses k o ≡ true → OneWord k
  one_word k h t i f e =
      subst (In t) (sym (index-on i.words k)) (used_word (In t) i f.whole f.free.used k (ap (word_uses k) e ∙ h))

  abbrev AllWords : (k : ℕ) → Type 0
  AllWords k = (t : Adding) (i : Instruction) → FactOf t i → opcode i ≡ o → AllByRecursion (In t) (drop k (drop 1 i.words))

  all_words : (k : ℕ) → end_uses k o ≡ true → AllWords k
  all_words k h t i f e =
      subst (AllByRecursion (In t)) (sym (drop-on i.words k)) (used_words (In t) i f.whole f.free.used k (ap (end_uses k) e ∙ h))

-- by computing
types_read : AllRows ReadsUsed type_rows
unfolding row_of
types_read = (
  λ t i f e. tt,
  (
    λ t i f e. tt,
    (
      λ t i f e. (one_word op.TYPE_VECTOR 1 refl t i f e, tt),
      (
        λ t i f e. (one_word op.TYPE_ARRAY 1 refl t i f e, (one_word op.TYPE_ARRAY 2 refl t i f e, tt)),
        (
          λ t i f e. (one_word op.TYPE_RUNTIME_ARRAY 1 refl t i f e, tt),
          (λ t i f e. all_words op.TYPE_STRUCT 1 refl t i f e, (λ t i f e. (one_word op.TYPE_POINTER 2 refl t i f e, tt), tt)),
        ),
      ),
    ),
  ),
)

constants_read : AllRows ReadsUsed constant_rows
unfolding row_of
constants_read = (
  λ t i f e. (one_word op.CONSTANT_TRUE 0 refl t i f e, tt),
  (
    λ t i f e. (one_word op.CONSTANT_FALSE 0 refl t i f e, tt),
    (
      λ t i f e. (one_word op.CONSTANT 0 refl t i f e, tt),
      (
        λ t i f e. (one_word op.CONSTANT_COMPOSITE 0 refl t i f e, all_words op.CONSTANT_COMPOSITE 2 refl t i f e),
        (
          λ t i f e. (one_word op.CONSTANT_NULL 0 refl t i f e, tt),
          (
            λ t i f e. (one_word op.SPEC_CONSTANT_TRUE 0 refl t i f e, tt),
            (
              λ t i f e. (one_word op.SPEC_CONSTANT_FALSE 0 refl t i f e, tt),
              (
                λ t i f e. (one_word op.SPEC_CONSTANT 0 refl t i f e, tt),
                (
                  λ t i f e. (one_word op.SPEC_CONSTANT_COMPOSITE 0 refl t i f e, all_words op.SPEC_CONSTANT_COMPOSITE 2 refl t i f e),
                  (
                    λ t i f e. (one_word op.UNDEF 0 refl t i f e, tt),
                    (λ t i f e. (one_word op.VARIABLE 0 refl t i f e, all_words op.VARIABLE 3 refl t i f e), tt),
                  ),
                ),
              ),
            ),
          ),
        ),
      ),
    ),
  ),
)

-- what an OpSpecConstantOp computes of
none_is : (r : ℕ) (ids : List ℕ) → AllByRecursion (λ id. (id == r) ≡ false) ids → list_all (λ id. not (id == r)) ids ≡ true
none_is r [] all = refl
none_is r (id ∷ ids) all = ap₂ (λ (a b : Bool). not a && b) all.0 (none_is r ids all.1)

not_true : (b : Bool) → not b ≡ true → b ≡ false
not_true true h = absurd (cc h)
not_true false h = refl

all_others : (r : ℕ) (ids : List ℕ) → list_all (λ id. not (id == r)) ids ≡ true → AllByRecursion (λ id. (id == r) ≡ false) ids
all_others r [] h = tt
all_others r (id ∷ ids) h =
    let parts = and_parts (not (id == r)) (list_all (λ id. not (id == r)) ids) h in
    (not_true (id == r) parts.0, all_others r ids parts.1)

operation_typed : row_test first_typed (row_of op.SPEC_CONSTANT_OP) ≡ true
unfolding row_of
operation_typed = refl

pub operation_type : (P : ℕ → Type 0) (i : Instruction) → IsInstruction i.words (roles i) → opcode i ≡ op.SPEC_CONSTANT_OP → AllByRecursion P (used_ids i)
    → P (slice_index i.words 1)
operation_type P i whole e all =
    first_type P i (typed-words i (opcode i) whole refl (ap (λ o. row_test first_typed (row_of o)) e ∙ operation_typed)) all

pub operands_others : (r : ℕ) (insts : List Instruction) (i : Instruction) → IsInstruction i.words (roles i) → opcode i ≡ op.SPEC_CONSTANT_OP
    → AllByRecursion (λ id. (id == r) ≡ false) (used_ids i) → (f : FitsForm insts i.words)
    → AllByRecursion (λ id. (id == r) ≡ false) (operands_for f.form (drop 4 i.words))
operands_others r insts i whole e all f =
    all_others r (operands_for f.form (drop 4 i.words))
    (operands-known (λ id. not (id == r)) insts i f.form whole e f.is f.fit (none_is r (used_ids i) all))

computed_read : ReadsUsed op.SPEC_CONSTANT_OP spec_constant_op
computed_read t i f e =
    let o = f.operation e in
    subst (λ st. AllByRecursion (In t) (reads st)) (sym (said-operation i o.form f.whole e o.is))
    (operation_type (In t) i f.whole e f.free.used, operands_others t.r t.before i f.whole e f.free.used o)

rows_read : AllRows ReadsUsed rows
rows_read =
    rows-append ReadsUsed module_rows
    (type_rows ++ (constant_rows ++ ((op.SPEC_CONSTANT_OP, spec_constant_op) ∷ (flow_rows ++ (memory_rows ++ operation_rows)))))
    (nothing_used module_rows module_reads)
    (rows-append ReadsUsed type_rows (constant_rows ++ ((op.SPEC_CONSTANT_OP, spec_constant_op) ∷ (flow_rows ++ (memory_rows ++ operation_rows)))) types_read
    (rows-append ReadsUsed constant_rows ((op.SPEC_CONSTANT_OP, spec_constant_op) ∷ (flow_rows ++ (memory_rows ++ operation_rows))) constants_read (
      computed_read,
      rows-append ReadsUsed flow_rows (memory_rows ++ operation_rows) (nothing_used flow_rows flow_reads)
          (rows-append ReadsUsed memory_rows operation_rows (nothing_used memory_rows memory_reads) (nothing_used operation_rows operations_read)),
    )))

abbrev st_of : (o : ℕ) → List ℕ → Statement
st_of o ws = by_row (lookup (nat_eq o) rows) ws

reads_used : (t : Adding) (i : Instruction) → FactOf t i → AllByRecursion (In t) (reads (st_of (opcode i) (drop 1 i.words)))
reads_used t i f = row_holds ReadsUsed (opcode i) rows (λ t i f e. tt) rows_read t i f refl

-- ---- an instruction stands for the same in both modules

module _ (t : Adding) where
  -- by induction on the members
  decorated_members : (table : Table) (id n : ℕ) (ts : List ℕ) → members_of (says t.after) table id n ts ≡ members_of (says t.before) table id n ts
  decorated_members table id n [] = refl
  decorated_members table id n (m ∷ ms) =
      ap₂ (λ o v. Member (first_literal o) (is_some v) (type_at table m) (members_of (says t.after) table id (suc n) ms))
      (same_members t id n decoration.OFFSET) (same_members t id n decoration.VOLATILE)
      ∙ ap (λ ms.
      Member (first_literal (member_decorated (says t.before) id n decoration.OFFSET)) (is_some (member_decorated (says t.before) id n decoration.VOLATILE))
      (type_at table m) ms)
      (decorated_members table id (suc n) ms)

  decorated_same : (table : Table) (st : Statement) → defined (says t.after) [] table st ≡ defined (says t.before) [] table st
  decorated_same table (states.TypeArray r e l) =
      ap (λ o. Some (r, IsType (Array (first_literal o) (length_at table l) (type_at table e)))) (same_decorations t r decoration.ARRAY_STRIDE)
  decorated_same table (states.TypeRuntimeArray r e) =
      ap (λ o. Some (r, IsType (RuntimeArray (first_literal o) (type_at table e)))) (same_decorations t r decoration.ARRAY_STRIDE)
  decorated_same table (states.TypeStruct r ms) = ap (λ m. Some (r, IsType (Struct m))) (decorated_members table r 0 ms)
  decorated_same table (states.SpecConstant u r ws) =
      ap (λ o. Some (r, IsConstant (type_at table u) (given o [] (type_at table u) ws))) (same_decorations t r decoration.SPEC_ID)
  decorated_same table st = refl

  pub same_entry : (u v : Table) → ((id : ℕ) → In t id → meaning v id ≡ meaning u id) → (i : Instruction) → FactOf t i
      → entry (says t.after) v i ≡ entry (says t.before) u i
  same_entry u v same i f = by (is_silent_opcode (opcode i))
    where
      st : Statement
      st = st_of (opcode i) (drop 1 i.words)

      by : (b : Bool) → entry_of (says t.after) v (cond b [] (st ∷ [])) ≡ entry_of (says t.before) u (cond b [] (st ∷ []))
      by true = refl
      by false = decorated_same v st ∙ defined_agrees (In t) u v same (says t.before) st (reads_used t i f)
