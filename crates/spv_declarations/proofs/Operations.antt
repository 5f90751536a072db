-- What OpSpecConstantOp says, by the form of the operation that it names.
use Rattle.std.proofs.Common.{rules, ◌≡◌, ℕ, zero, suc, Bool, true, false, cond, not, ◌==◌, ◌&&◌, ◌||◌, List, [], ◌∷◌, length, take, drop, map, Option, Some, None, Ok, Err, refl, sym, ap, subst, ◌∙◌, arith}
use Rattle.std.specs.Prelude.{nat_eq}
use Rattle.std.specs.List.{list_all, slice_index}
use Rattle.std.specs.Map.{lookup}
use Rattle.std.specs.Option.{option_map, is_some}
use Rattle.std.proofs.lemmas.Bool.{eqb-true, and_parts, and_from}
use Rattle.spv_grammar.specs.declared.kind.Role.{Role}
use Rattle.spv_grammar.specs.declared.kind.Role.TheVariants.{Opcode, TypeId, DefinedId, UsedId, Literal}
use Rattle.spv_grammar.specs.declared.kind.Kind.{Kind}
use Rattle.spv_grammar.specs.declared.kind.Kind.TheVariants.{Id}
use Rattle.spv_grammar.specs.Table.{Shape, row_of}
use Rattle.spv_grammar.specs.Operands.{operand_roles, operand_kinds, inner_shape, inner_roles, row_roles}
use Rattle.spv_opcodes.specs.declared.op.TheConstants as op
use Rattle.spv_module.specs.Instruction.{Instruction, IsInstruction, opcode, roles}
use Rattle.spv_meaning.specs.Computations as computes
use Rattle.spv_meaning.specs.Computations.{Computation, computed}
use Rattle.spv_meaning.specs.Statements.{Statement, SpecConstantOp, by_row, operation, operation_on_all, operation_rows, of_constants, spec_constant_op}
use Rattle.spv_meaning.specs.Constants.{Table, Meaning, IsConstant, type_at, typed_at, defined}
use Rattle.spv_typing.specs.declared.operations.Form.{Form}
use Rattle.spv_typing.specs.declared.operations.Form.TheVariants.{Ints, Bools, Compares, Selects, Shuffles, Extracts, Inserts}
use Rattle.spv_typing.specs.Operations.{condition_fits, is_vector_of, all_pick, components_of, literals_lead, spec_operations, operands_fit, form_fits, spec_op_fits, all_shaped, has_shape, shape, count_of}
use Rattle.spv_typing.specs.Kinds.{has_type, component, component_count, is_constant, is_vector, type_of}
use Rattle.spv_declarations.specs.Declarations.{entry}
use Rattle.spv_declarations.proofs.Parts.{operation-parts, one-front, used_in, row_test, fitted-some}
use Rattle.spv_declarations.proofs.Defining.{entry-by}

-- what an operation of a form says of values
abbrev row_for : Form → (o : ℕ) → List ℕ → Statement
row_for Shuffles o = operation 2 computes.Shuffles
row_for Extracts o = operation 1 computes.Extracts
row_for Inserts o = operation 2 computes.Inserts
row_for form o = operation_on_all (computes.Evaluates o)

-- what it computes, and the ids of which it computes that, by the words behind its opcode
abbrev pub computation_for : Form → (o : ℕ) → List ℕ → Computation
computation_for Shuffles o rest = computes.Shuffles (drop 2 rest)
computation_for Extracts o rest = computes.Extracts (drop 1 rest)
computation_for Inserts o rest = computes.Inserts (drop 2 rest)
computation_for form o rest = computes.Evaluates o

abbrev pub operands_for : Form → List ℕ → List ℕ
operands_for Shuffles rest = take 2 rest
operands_for Extracts rest = take 1 rest
operands_for Inserts rest = take 2 rest
operands_for form rest = rest

abbrev pub AllForms : (ℕ → Form → Type 0) → List (ℕ × Form) → Type 0
AllForms P [] = Unit {0}
AllForms P (f ∷ fs) = P f.0 f.1 × AllForms P fs

abbrev HasRow : ℕ → Form → Type 0
HasRow o form = lookup (nat_eq o) operation_rows ≡ Some (row_for form o)

-- by computing
have_rows : AllForms HasRow spec_operations
have_rows = search rules

found_form : (P : ℕ → Form → Type 0) (o : ℕ) (e : ℕ × Form) (others : Option Form) (b : Bool) (form : Form) → nat_eq o e.0 ≡ b → P e.0 e.1 →
    cond b (Some e.1) others ≡ Some form → (others ≡ Some form → P o form) → P o form
found_form P o e others true form same h is others_hold =
    let form_is : e.1 ≡ form = cc in
    subst (λ (f : Form). P o f) form_is (subst (λ (n : ℕ). P n e.1) (sym (eqb-true o e.0 same)) h)
found_form P o e others false form same h is others_hold = others_hold is

pub form_holds : (P : ℕ → Form → Type 0) (fs : List (ℕ × Form)) → AllForms P fs → (o : ℕ) (form : Form) → lookup (nat_eq o) fs ≡ Some form → P o form
form_holds P [] h o form is = cc
form_holds P (f ∷ fs) h o form is =
    found_form P o f (lookup (nat_eq o) fs) (nat_eq o f.0) form refl h.0 is (λ found. form_holds P fs h.1 o form found)

said_of_form : (form : Form) (o t r : ℕ) (rest : List ℕ) →
    of_constants (row_for form o (t ∷ r ∷ rest)) ≡ SpecConstantOp (computation_for form o rest) t r (operands_for form rest)
said_of_form (Ints n) o t r rest = refl
said_of_form (Bools n) o t r rest = refl
said_of_form Compares o t r rest = refl
said_of_form Selects o t r rest = refl
said_of_form Shuffles o t r rest = refl
said_of_form Extracts o t r rest = refl
said_of_form Inserts o t r rest = refl

-- ---- the rule

-- an OpSpecConstantOp names an operation of a form that its operands fit
pub record FitsForm (insts : List Instruction) (words : List ℕ) : Type 0 where
  pub form : Form
  pub is : lookup (nat_eq (slice_index words 3)) spec_operations ≡ Some form
  pub fit : operands_fit insts form (slice_index words 1) (drop 4 words) ≡ true

fits_form : (insts : List Instruction) (words : List ℕ) (found : Option Form) → lookup (nat_eq (slice_index words 3)) spec_operations ≡ found →
    form_fits insts found (slice_index words 1) (drop 4 words) ≡ true → FitsForm insts words
fits_form insts words None e h = cc
fits_form insts words (Some form) e h = record { form = form; is = e; fit = h }

abbrev operation_rule : List Instruction → (o : ℕ) → List ℕ → Bool
operation_rule insts o words =
    not (o == op.SPEC_CONSTANT_OP) || form_fits insts (lookup (nat_eq (slice_index words 3)) spec_operations) (slice_index words 1) (drop 4 words)

pub fitting-form : (insts : List Instruction) (i : Instruction) → opcode i ≡ op.SPEC_CONSTANT_OP → spec_op_fits insts i ≡ true →
    FitsForm insts i.words
unfolding spec_op_fits
fitting-form insts i is_o h =
    fits_form insts i.words (lookup (nat_eq (slice_index i.words 3)) spec_operations) refl
    (sym (ap (λ (n : ℕ). operation_rule insts n i.words) is_o) ∙ h)

-- ---- what it stands for

-- the meaning of a constant that an operation computes
abbrev pub operation_meaning : Table → Form → List ℕ → Meaning
operation_meaning table form words =
    let t = type_at table (slice_index words 1) in
    IsConstant t (computed (computation_for form (slice_index words 3) (drop 4 words)) t (map (typed_at table) (operands_for form (drop 4 words))))

said_operation : (words : List ℕ) (form : Form) (w t r o : ℕ) (rest : List ℕ) → words ≡ w ∷ t ∷ r ∷ o ∷ rest →
    lookup (nat_eq (slice_index words 3)) spec_operations ≡ Some form →
    spec_constant_op (drop 1 words) ≡ SpecConstantOp (computation_for form (slice_index words 3) (drop 4 words)) (slice_index words 1)
    (slice_index words 2) (operands_for form (drop 4 words))
said_operation words form w t r o rest e is =
    let has : HasRow (slice_index words 3) form = form_holds HasRow spec_operations have_rows (slice_index words 3) form is in
    let has_o : lookup (nat_eq o) operation_rows ≡ Some (row_for form o) = rw e at has in
    rw e (ap (λ (row : Option (List ℕ → Statement)). of_constants (by_row row (t ∷ r ∷ rest))) has_o ∙ said_of_form form o t r rest)

pub operation-entry : (all : List Statement) (table : Table) (i : Instruction) (form : Form) → IsInstruction i.words (roles i) →
    opcode i ≡ op.SPEC_CONSTANT_OP → lookup (nat_eq (slice_index i.words 3)) spec_operations ≡ Some form →
    entry all table i ≡ Some (slice_index i.words 2, operation_meaning table form i.words)
operation-entry all table i form whole is_o is =
    let parts = operation-parts i.words (roles i) is_o whole.parted in
    entry-by all table i op.SPEC_CONSTANT_OP is_o refl
    ∙ ap (λ (st : Statement). defined all [] table st)
    (said_operation i.words form parts.word parts.type parts.result parts.operation parts.rest parts.words_are is)

-- what it says, by its words
pub said-operation : (i : Instruction) (form : Form) → IsInstruction i.words (roles i) → opcode i ≡ op.SPEC_CONSTANT_OP →
    lookup (nat_eq (slice_index i.words 3)) spec_operations ≡ Some form →
    spec_constant_op (drop 1 i.words) ≡ SpecConstantOp (computation_for form (slice_index i.words 3) (drop 4 i.words)) (slice_index i.words 1)
    (slice_index i.words 2) (operands_for form (drop 4 i.words))
said-operation i form whole is_o is =
    let parts = operation-parts i.words (roles i) is_o whole.parted in
    said_operation i.words form parts.word parts.type parts.result parts.operation parts.rest parts.words_are is

-- ---- its operands

-- how many ids stand in front
abbrev leading_ids : List Kind → ℕ
leading_ids (Id ∷ kinds) = suc (leading_ids kinds)
leading_ids kinds = 0

-- of how many ids an operation of a form computes
abbrev operand_count : Form → ℕ
operand_count (Ints n) = n
operand_count (Bools n) = n
operand_count Compares = 2
operand_count Selects = 3
operand_count Shuffles = 2
operand_count Extracts = 1
operand_count Inserts = 2

front_known : (p : ℕ → Bool) (n : ℕ) (ws rest : List ℕ) (rs others : List Role) (w : ℕ) → ws ≡ w ∷ rest → rs ≡ UsedId ∷ others →
    list_all p (used_in rs ws) ≡ true →
    (list_all p (used_in others rest) ≡ true → list_all p (take n rest) ≡ true) → list_all p (take (suc n) ws) ≡ true
front_known p n ws rest rs others w words_are parts_are h others_known =
    let used = and_parts (p w) (list_all p (used_in others rest)) (rw (words_are, parts_are) at h) in
    rw words_are (and_from (p w) (list_all p (take n rest)) used.0 (others_known used.1))

-- the ids in front are among those that are named; induction on the operands
leading_known : (p : ℕ → Bool) (kinds : List Kind) (ws : List ℕ) (rs : List Role) → operand_roles kinds ws ≡ Some rs →
    list_all p (used_in rs ws) ≡ true → list_all p (take (leading_ids kinds) ws) ≡ true
leading_known p [] ws rs fit h = refl
leading_known p (Id ∷ kinds) ws rs fit h =
    let f = one-front UsedId kinds ws rs fit in
    front_known p (leading_ids kinds) ws f.rest rs f.others f.word f.words_are f.parts_are h (λ k. leading_known p kinds f.rest f.others f.fit k)
leading_known p (kind ∷ kinds) ws rs fit h = refl

abbrev HasOperands : ℕ → Form → Type 0
HasOperands o form = row_test (λ kinds. leading_ids (operand_kinds kinds) == operand_count form) (row_of o) ≡ true

-- by computing
have_operands : AllForms HasOperands spec_operations
unfolding row_of
have_operands = search rules

inner_known : (p : ℕ → Bool) (n : ℕ) (row : Option Shape) (ws : List ℕ) (rs : List Role) →
    row_test (λ kinds. leading_ids (operand_kinds kinds) == n) row ≡ true → row_roles (option_map inner_shape row) ws ≡ Ok rs →
    list_all p (used_in rs ws) ≡ true → list_all p (take n ws) ≡ true
inner_known p n None ws rs h fit known = cc
inner_known p n (Some shape) ws rs h fit known =
    subst (λ (m : ℕ). list_all p (take m ws) ≡ true) (eqb-true (leading_ids (operand_kinds shape.kinds)) n h)
    (leading_known p (operand_kinds shape.kinds) ws rs (fitted-some (operand_roles (operand_kinds shape.kinds) ws) rs fit) known)

inner_fits : (o : ℕ) (ws : List ℕ) (rs : List Role) (b : Bool) → (o == op.SPEC_CONSTANT_OP) ≡ b → inner_roles o ws ≡ Ok rs →
    row_roles (option_map inner_shape (row_of o)) ws ≡ Ok rs
inner_fits o ws rs true same h =
    let refused : inner_roles o ws ≡ Err 106 = rw same refl in
    cc
inner_fits o ws rs false same h =
    let fit : inner_roles o ws ≡ row_roles (option_map inner_shape (row_of o)) ws = rw same refl in
    sym fit ∙ h

take_all : (ids : List ℕ) (n : ℕ) → length ids ≡ n → take n ids ≡ ids
take_all [] zero e = refl
take_all [] (suc n) e = refl
take_all (x ∷ xs) zero e = cc
take_all (x ∷ xs) (suc n) e = ap (λ (ids : List ℕ). x ∷ ids) (take_all xs n (omega (arith, e)))

-- the operands are all ids in front
operands_are : (insts : List Instruction) (form : Form) (t : ℕ) (ids : List ℕ) → operands_fit insts form t ids ≡ true →
    operands_for form ids ≡ take (operand_count form) ids
operands_are insts (Ints n) t ids h = sym (take_all ids n (eqb-true (length ids) n (and_parts (length ids == n) _ h).0))
operands_are insts (Bools n) t ids h = sym (take_all ids n (eqb-true (length ids) n (and_parts (length ids == n) _ h).0))
operands_are insts Compares t ids h = sym (take_all ids 2 (eqb-true (length ids) 2 (and_parts (length ids == 2) _ h).0))
operands_are insts Selects t [] h = cc
operands_are insts Selects t (c ∷ []) h = cc
operands_are insts Selects t (c ∷ a ∷ []) h = cc
operands_are insts Selects t (c ∷ a ∷ b ∷ []) h = refl
operands_are insts Selects t (c ∷ a ∷ b ∷ d ∷ ids) h = cc
operands_are insts Shuffles t ids h = refl
operands_are insts Extracts t ids h = refl
operands_are insts Inserts t ids h = refl

used_behind : (p : ℕ → Bool) (w t r o : ℕ) (words rest : List ℕ) (rs others : List Role) → words ≡ w ∷ t ∷ r ∷ o ∷ rest →
    rs ≡ Opcode ∷ TypeId ∷ DefinedId ∷ Literal ∷ others → list_all p (used_in rs words) ≡ true →
    list_all p (used_in others rest) ≡ true
used_behind p w t r o words rest rs others words_are parts_are h =
    (and_parts (p t) (list_all p (used_in others rest)) (rw (words_are, parts_are) at h)).1

-- they are defined before it
pub operands-known : (p : ℕ → Bool) (insts : List Instruction) (i : Instruction) (form : Form) → IsInstruction i.words (roles i) →
    opcode i ≡ op.SPEC_CONSTANT_OP → lookup (nat_eq (slice_index i.words 3)) spec_operations ≡ Some form →
    operands_fit insts form (slice_index i.words 1) (drop 4 i.words) ≡ true → list_all p (used_in (roles i) i.words) ≡ true →
    list_all p (operands_for form (drop 4 i.words)) ≡ true
operands-known p insts i form whole is_o is fit known =
    let parts = operation-parts i.words (roles i) is_o whole.parted in
    let has : HasOperands (slice_index i.words 3) form = form_holds HasOperands spec_operations have_operands (slice_index i.words 3) form is in
    let has_o : HasOperands parts.operation form =
    subst (λ (o : ℕ). HasOperands o form) (ap (λ (ws : List ℕ). slice_index ws 3) parts.words_are) has in
    let inner = inner_fits parts.operation parts.rest parts.others (parts.operation == op.SPEC_CONSTANT_OP) refl parts.fit in
    let used =
    used_behind p parts.word parts.type parts.result parts.operation i.words parts.rest
    (roles i) parts.others parts.words_are parts.parts_are known in
    let front : list_all p (take (operand_count form) parts.rest) ≡ true =
    inner_known p (operand_count form) (row_of parts.operation) parts.rest parts.others has_o inner used in
    let rest_is : drop 4 i.words ≡ parts.rest = ap (λ (ws : List ℕ). drop 4 ws) parts.words_are in
    subst (λ (ids : List ℕ). list_all p ids ≡ true) (sym (operands_are insts form (slice_index i.words 1) (drop 4 i.words) fit))
    (subst (λ (ws : List ℕ). list_all p (take (operand_count form) ws) ≡ true) (sym rest_is) front)

-- ---- and constants

shaped_constants : (insts : List Instruction) (is_boolean : Bool) (count : ℕ) (ids : List ℕ) → all_shaped insts is_boolean count ids ≡ true →
    list_all (is_constant insts) ids ≡ true
shaped_constants insts is_boolean count [] h = refl
shaped_constants insts is_boolean count (id ∷ ids) h =
    let both =
    and_parts (is_constant insts id && has_shape is_boolean count (shape insts (type_of insts id))) (all_shaped insts is_boolean count ids) h in
    and_from (is_constant insts id) (list_all (is_constant insts) ids) (and_parts (is_constant insts id) _ both.0).0
    (shaped_constants insts is_boolean count ids both.1)

second_of : (a b : Bool) → (a && b) ≡ true → b ≡ true
second_of a b h = (and_parts a b h).1

two_known : (a b : Bool) → a ≡ true → b ≡ true → (a && (b && true)) ≡ true
two_known a b h k = rw (h, k) refl

three_known : (a b c : Bool) → a ≡ true → b ≡ true → c ≡ true → (a && (b && (c && true))) ≡ true
three_known a b c h k l = rw (h, k, l) refl

pub operands-constant : (insts : List Instruction) (form : Form) (t : ℕ) (ids : List ℕ) → operands_fit insts form t ids ≡ true → list_all (is_constant insts) (operands_for form ids) ≡ true
operands-constant insts (Ints n) t ids h = shaped_constants insts false (count_of (shape insts t)) ids (and_parts (has_shape false (count_of (shape insts t)) (shape insts t)) _ (and_parts (length ids == n) _ h).1).1
operands-constant insts (Bools n) t ids h = shaped_constants insts true (count_of (shape insts t)) ids (and_parts (has_shape true (count_of (shape insts t)) (shape insts t)) _ (and_parts (length ids == n) _ h).1).1
operands-constant insts Compares t ids h = shaped_constants insts false (count_of (shape insts t)) ids (and_parts (has_shape true (count_of (shape insts t)) (shape insts t)) _ (and_parts (length ids == 2) _ h).1).1
operands-constant insts Selects t [] h = cc
operands-constant insts Selects t (c ∷ []) h = cc
operands-constant insts Selects t (c ∷ a ∷ []) h = cc
operands-constant insts Selects t (c ∷ a ∷ b ∷ []) h =
    let rest = second_of (is_some (shape insts t)) (condition_fits insts (count_of (shape insts t)) c && (has_type insts t a && has_type insts t b)) h in
    let both = and_parts (condition_fits insts (count_of (shape insts t)) c) (has_type insts t a && has_type insts t b) rest in
    let values = and_parts (has_type insts t a) (has_type insts t b) both.1 in
    three_known (is_constant insts c) (is_constant insts a) (is_constant insts b)
    (and_parts (is_constant insts c) (has_shape true 1 (shape insts (type_of insts c)) || has_shape true (count_of (shape insts t)) (shape insts (type_of insts c))) both.0).0
    (and_parts (is_constant insts a) (type_of insts a == t) values.0).0
    (and_parts (is_constant insts b) (type_of insts b == t) values.1).0
operands-constant insts Selects t (c ∷ a ∷ b ∷ d ∷ ids) h = cc
operands-constant insts Shuffles t [] h = cc
operands-constant insts Shuffles t (a ∷ []) h = cc
operands-constant insts Shuffles t (a ∷ b ∷ literals) h =
    let x = component insts t in
    let last = length literals == component_count insts t && all_pick (components_of insts a b) literals in
    let vectors = second_of (is_vector insts t) (is_vector_of insts x a && (is_vector_of insts x b && last)) h in
    let first = and_parts (is_vector_of insts x a) (is_vector_of insts x b && last) vectors in
    let other = and_parts (is_vector_of insts x b) last first.1 in
    two_known (is_constant insts a) (is_constant insts b)
    (and_parts (is_constant insts a) (is_vector insts (type_of insts a) && component insts (type_of insts a) == x) first.0).0
    (and_parts (is_constant insts b) (is_vector insts (type_of insts b) && component insts (type_of insts b) == x) other.0).0
operands-constant insts Extracts t [] h = cc
operands-constant insts Extracts t (c ∷ literals) h =
    let both = second_of (is_some (shape insts t)) (is_constant insts c && literals_lead insts literals (type_of insts c) t) h in
    and_from (is_constant insts c) true (and_parts (is_constant insts c) (literals_lead insts literals (type_of insts c) t) both).0 refl
operands-constant insts Inserts t [] h = cc
operands-constant insts Inserts t (o ∷ []) h = cc
operands-constant insts Inserts t (o ∷ c ∷ literals) h =
    let rest = second_of (is_some (shape insts t)) (is_constant insts o && (has_type insts t c && literals_lead insts literals t (type_of insts o))) h in
    let both = and_parts (is_constant insts o) (has_type insts t c && literals_lead insts literals t (type_of insts o)) rest in
    let other = and_parts (has_type insts t c) (literals_lead insts literals t (type_of insts o)) both.1 in
    two_known (is_constant insts o) (is_constant insts c) both.0 (and_parts (is_constant insts c) (type_of insts c == t) other.0).0
