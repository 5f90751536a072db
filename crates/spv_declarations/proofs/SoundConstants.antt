-- A constant has the type that its instruction names, and the words of a value of it.
use Rattle.std.proofs.Common.{rules, ◌≡◌, ℕ, zero, suc, ◌<◌, ◌≤◌, Bool, true, false, cond, not, ◌==◌, ◌&&◌, ◌||◌, nat_le, List, [], ◌∷◌, length, drop, map, Option, Some, None, refl, sym, ap, subst, ◌∙◌, arith}
use Rattle.std.specs.Prelude.{nat_eq}
use Rattle.std.specs.List.{list_all, slice_get, slice_index}
use Rattle.std.specs.Map.{lookup}
use Rattle.std.proofs.lemmas.Bool.{eqb-true, and_parts}
use Rattle.spv_opcodes.specs.declared.op.TheConstants as op
use Rattle.spv_opcodes.specs.declared.decoration.TheConstants as decoration
use Rattle.spv_grammar.specs.declared.kind.Kind.TheVariants.{ResultType, ResultId, Ids}
use Rattle.spv_grammar.specs.Table.{row_of, in_section}
use Rattle.spv_module.specs.Instruction.{Instruction, roles}
use Rattle.spv_meaning.specs.Computations.{computed}
use Rattle.spv_meaning.specs.Constants.{Table, Meaning, IsType, IsConstant, meaning, type_in, type_at, words_in, words_at, typed_at, length_at, members_of, composed, zeros, given, decorated, defined}
use Rattle.spv_meaning.specs.Statements.{Statement}
use Rattle.spv_meaning.specs.Types.{DataType, Vector, Array, copies, booleans, member_booleans}
use Rattle.spv_ids.specs.Ids.{kind, is_defined_before}
use Rattle.spv_typing.specs.Kinds.{is_one_of, constants, is_bool, is_int, is_vector, is_array, is_struct, is_closed, is_spec, is_constant, is_outside, type_of, component, component_count, element, length_id, members, has_type}
use Rattle.spv_typing.specs.declared.operations.Form.{Form}
use Rattle.spv_typing.specs.Operations.{spec_operations, operands_fit}
use Rattle.spv_declarations.specs.Constants.{constant_fits, composite_fits, has_length, are_of}
use Rattle.spv_declarations.specs.Declarations.{Declared, declared_before, says}
use Rattle.spv_declarations.specs.Sound.{AreInstructions, Unbroken, IsBefore, table_before, IsSoundType}
use Rattle.spv_declarations.proofs.Parts.{first_typed, row_test, typed-words, TypedParts, typed-parts}
use Rattle.spv_declarations.proofs.Meanings.{defined_at, not_begun, meaning_in}
use Rattle.spv_declarations.proofs.Naming.{type-known, constituents-known}
use Rattle.spv_declarations.proofs.Sites.{Site, site, is_declared, opcode-is, word-is, index-on, drop-on}
use Rattle.spv_declarations.proofs.SoundTypes.{type_same, sound_type}
use Rattle.spv_declarations.proofs.Declares.{AllOf, one_of-holds}
use Rattle.spv_declarations.proofs.Operations.{computation_for, operands_for, fitting-form, said-operation, operands-known, operands-constant}
use Rattle.spv_declarations.proofs.Tables.{unbroken-less, stays-defined}
use Rattle.spv_declarations.proofs.Words.{AreWordsOf, words-append, words-zeros_of, one-word}

-- what a constant stands for: words of a value of its type
pub record Holds (P : ℕ → Type 0) (insts : List Instruction) (table : Table) (id : ℕ) : Type 0 where
  pub words : List ℕ
  pub stands : meaning table id ≡ Some (IsConstant (type_at table (type_of insts id)) words)
  pub suit : AreWordsOf P (booleans (type_at table (type_of insts id))) words

-- the same of constants before the k-th
abbrev pub AllHold : (ℕ → Type 0) → List Instruction → (k : ℕ) → List ℕ → Type 0
AllHold P insts k [] = Unit {0}
AllHold P insts k (id ∷ ids) = (is_defined_before insts k id ≡ true) × Holds P insts (table_before insts k) id × AllHold P insts k ids

-- what the operations of OpSpecConstantOp make of such constants suits the result's type
abbrev pub OperationsHold : (ℕ → Type 0) → List Instruction → Type 0
OperationsHold P insts =
    (k : ℕ) (form : Form) (o t : ℕ) (rest : List ℕ) → Unbroken insts k → (declared_before insts k).begun ≡ false →
    is_defined_before insts k t ≡ true →
    lookup (nat_eq o) spec_operations ≡ Some form → operands_fit insts form t rest ≡ true → AllHold P insts k (operands_for form rest) →
    AreWordsOf P (booleans (type_at (table_before insts k) t))
    (computed (computation_for form o rest) (type_at (table_before insts k) t) (map (typed_at (table_before insts k)) (operands_for form rest)))

-- the predicate holds of the words of all instructions
abbrev pub WordsHold : (ℕ → Type 0) → List Instruction → Type 0
WordsHold P insts = (k : ℕ) (i : Instruction) → slice_get insts k ≡ Some i → (n : ℕ) → P (slice_index i.words n)

-- ---- the rule on constants, by the opcode

abbrev constant_rule : List Instruction → Declared → (o : ℕ) → List ℕ → Bool
constant_rule insts d o words =
    let t = slice_index words 1 in
    cond (is_one_of (op.CONSTANT_TRUE ∷ op.CONSTANT_FALSE ∷ op.SPEC_CONSTANT_TRUE ∷ op.SPEC_CONSTANT_FALSE ∷ []) o) (is_bool insts t)
    (cond (is_one_of (op.CONSTANT ∷ op.SPEC_CONSTANT ∷ []) o) (is_int insts t && length (drop 3 words) == 1)
    (cond (o == op.CONSTANT_NULL) (is_closed insts t)
    (cond (o == op.UNDEF) (is_closed insts t)
    (cond (o == op.SPEC_CONSTANT_COMPOSITE) (composite_fits insts d t (drop 3 words))
    (cond (o == op.CONSTANT_COMPOSITE) (composite_fits insts d t (drop 3 words) && list_all (λ id. not (is_spec insts id)) (drop 3 words))
    true)))))

pub constant-rule : (insts : List Instruction) (k id o : ℕ) (s : Site insts k id o) →
    constant_rule insts (declared_before insts s.d.place) o s.d.inst.words ≡ true
constant-rule insts k id o s = sym (ap (λ (n : ℕ). constant_rule insts (declared_before insts s.d.place) n s.d.inst.words) s.is_o)
    ∙ sym (ap (λ b. b || constant_fits insts (declared_before insts s.d.place) s.d.inst) s.outside) ∙ s.kept.constants

-- ---- its type

pub typed-known : (insts : List Instruction) (k id o : ℕ) (s : Site insts k id o) → row_test first_typed (row_of o) ≡ true →
    is_defined_before insts s.d.place (slice_index s.d.inst.words 1) ≡ true
typed-known insts k id o s h =
    type-known (is_defined_before insts s.d.place) s.d.inst.words (roles s.d.inst) (typed-words s.d.inst o s.whole s.is_o h) s.known

same_constant : (t u : DataType) (ws : List ℕ) (m : Option Meaning) → m ≡ Some (IsConstant t ws) → t ≡ u → m ≡ Some (IsConstant u ws)
same_constant t u ws m h e = cc

-- what suits the type in front of the instruction suits it behind
holds_from : (P : ℕ → Type 0) (insts : List Instruction) (k id o : ℕ) (s : Site insts k id o) → row_test first_typed (row_of o) ≡ true →
    (ws : List ℕ) →
    meaning (table_before insts k) id ≡ Some (IsConstant (type_at (table_before insts s.d.place) (slice_index (drop 1 s.d.inst.words) 0)) ws) →
    AreWordsOf P (booleans (type_at (table_before insts s.d.place) (slice_index s.d.inst.words 1))) ws → Holds P insts (table_before insts k) id
holds_from P insts k id o s typed ws stands suit =
    let before = type_at (table_before insts s.d.place) (slice_index (drop 1 s.d.inst.words) 0) in
    let behind = type_at (table_before insts k) (type_of insts id) in
    let same : before ≡ behind = type_same insts k id o 0 s (typed-known insts k id o s typed) in
    let named : type_at (table_before insts s.d.place) (slice_index s.d.inst.words 1) ≡ before =
    ap (λ (x : ℕ). type_at (table_before insts s.d.place) x) (sym (index-on s.d.inst.words 0)) in
    record { words = ws; stands = same_constant before behind ws (meaning (table_before insts k) id) stands same; suit = subst (λ (t : DataType). AreWordsOf P (booleans t) ws) (named ∙ same) suit }

-- ---- words by the type

bool_suits : (P : ℕ → Type 0) (insts : List Instruction) (table : Table) (t : ℕ) → IsSoundType insts table t → is_bool insts t ≡ true → (w : ℕ) →
    w < 2 → AreWordsOf P (booleans (type_at table t)) (w ∷ [])
bool_suits P insts table t sound h w small =
    subst (λ (u : DataType). AreWordsOf P (booleans u) (w ∷ [])) (sym (ap type_in (sound.boolean h))) (small, tt)

int_suits : (P : ℕ → Type 0) (insts : List Instruction) (table : Table) (t : ℕ) → IsSoundType insts table t → is_int insts t ≡ true → (ws : List ℕ) →
    length ws ≡ 1 → P (slice_index ws 0) → AreWordsOf P (booleans (type_at table t)) ws
int_suits P insts table t sound h ws one holds =
    subst (λ (u : DataType). AreWordsOf P (booleans u) ws) (sym (ap type_in (sound.integer h))) (one-word P ws one holds)

-- what constants in front hold
abbrev pub Earlier : (ℕ → Type 0) → List Instruction → (k : ℕ) → Type 0
Earlier P insts k = (x : ℕ) → is_defined_before insts k x ≡ true → is_constant insts x ≡ true → Holds P insts (table_before insts k) x

-- the words of a constant of a type
constituent : (P : ℕ → Type 0) (insts : List Instruction) (k t id : ℕ) → Earlier P insts k → is_defined_before insts k id ≡ true →
    has_type insts t id ≡ true →
    AreWordsOf P (booleans (type_at (table_before insts k) t)) (words_at (table_before insts k) id)
constituent P insts k t id earlier known typed =
    let parts = and_parts (is_constant insts id) (type_of insts id == t) typed in
    let h = earlier id known parts.0 in
    let table = table_before insts k in
    subst (λ (u : ℕ). AreWordsOf P (booleans (type_at table u)) (words_at table id)) (eqb-true (type_of insts id) t parts.1)
    (subst (λ (ws : List ℕ). AreWordsOf P (booleans (type_at table (type_of insts id))) ws) (sym (ap words_in h.stands)) h.suit)

-- constituents of one type; induction on them
alike_suit : (P : ℕ → Type 0) (insts : List Instruction) (k t : ℕ) → Earlier P insts k → (ids : List ℕ) →
    list_all (is_defined_before insts k) ids ≡ true → list_all (has_type insts t) ids ≡ true →
    AreWordsOf P (copies (length ids) (booleans (type_at (table_before insts k) t))) (composed (table_before insts k) ids)
alike_suit P insts k t earlier [] known typed = tt
alike_suit P insts k t earlier (id ∷ ids) known typed =
    let table = table_before insts k in
    let known_both = and_parts (is_defined_before insts k id) (list_all (is_defined_before insts k) ids) known in
    let typed_both = and_parts (has_type insts t id) (list_all (has_type insts t) ids) typed in
    words-append P (booleans (type_at table t)) (copies (length ids) (booleans (type_at table t))) (words_at table id) (composed table ids)
    (constituent P insts k t id earlier known_both.0 typed_both.0) (alike_suit P insts k t earlier ids known_both.1 typed_both.1)

-- constituents of the members' types; induction on them
members_suit : (P : ℕ → Type 0) (insts : List Instruction) (k struct number : ℕ) → Earlier P insts k → (ms ids : List ℕ) →
    list_all (is_defined_before insts k) ids ≡ true → are_of insts ms ids ≡ true →
    AreWordsOf P (member_booleans (members_of (says insts) (table_before insts k) struct number ms)) (composed (table_before insts k) ids)
members_suit P insts k struct number earlier [] [] known typed = tt
members_suit P insts k struct number earlier [] (id ∷ ids) known typed = cc
members_suit P insts k struct number earlier (m ∷ ms) [] known typed = cc
members_suit P insts k struct number earlier (m ∷ ms) (id ∷ ids) known typed =
    let table = table_before insts k in
    let known_both = and_parts (is_defined_before insts k id) (list_all (is_defined_before insts k) ids) known in
    let typed_both = and_parts (has_type insts m id) (are_of insts ms ids) typed in
    words-append P (booleans (type_at table m)) (member_booleans (members_of (says insts) table struct (suc number) ms)) (words_at table id)
    (composed table ids)
    (constituent P insts k m id earlier known_both.0 typed_both.0)
    (members_suit P insts k struct (suc number) earlier ms ids known_both.1 typed_both.1)

three_ways : (A : Type 0) (b c x y z : Bool) → cond b x (cond c y z) ≡ true → (b ≡ true → x ≡ true → A) → (c ≡ true → y ≡ true → A) → (z ≡ true → A) →
    A
three_ways A true c x y z h f g i = f refl h
three_ways A false true x y z h f g i = g refl h
three_ways A false false x y z h f g i = i h

vector_suits : (P : ℕ → Type 0) (insts : List Instruction) (k t : ℕ) (ids : List ℕ) →
    meaning (table_before insts k) t ≡ Some (IsType (Vector (component_count insts t) (type_at (table_before insts k) (component insts t)))) →
    Earlier P insts k → list_all (is_defined_before insts k) ids ≡ true →
    (component_count insts t == length ids && list_all (has_type insts (component insts t)) ids) ≡ true →
    AreWordsOf P (booleans (type_at (table_before insts k) t)) (composed (table_before insts k) ids)
vector_suits P insts k t ids is earlier known e =
    let table = table_before insts k in
    let both = and_parts (component_count insts t == length ids) (list_all (has_type insts (component insts t)) ids) e in
    let part = type_at table (component insts t) in
    let count = eqb-true (component_count insts t) (length ids) both.0 in
    subst (λ (u : DataType). AreWordsOf P (booleans u) (composed table ids)) (sym (ap type_in is))
    (subst (λ (n : ℕ). AreWordsOf P (copies n (booleans part)) (composed table ids)) (sym count) (alike_suit P insts k (component insts t) earlier ids known both.1))

array_suits : (P : ℕ → Type 0) (insts : List Instruction) (k t : ℕ) (ids : List ℕ) (stride : Option ℕ) →
    meaning (table_before insts k) t ≡ Some (IsType (Array stride (length_at (table_before insts k) (length_id insts t)) (type_at (table_before insts k) (element insts t)))) →
    Earlier P insts k → list_all (is_defined_before insts k) ids ≡ true →
    (has_length (declared_before insts k) (length_id insts t) (length ids) && list_all (has_type insts (element insts t)) ids) ≡ true →
    AreWordsOf P (booleans (type_at (table_before insts k) t)) (composed (table_before insts k) ids)
array_suits P insts k t ids stride is earlier known e =
    let d = declared_before insts k in
    let table = table_before insts k in
    let len = length_id insts t in
    let both = and_parts (has_length d len (length ids)) (list_all (has_type insts (element insts t)) ids) e in
    let known_length = and_parts _ (nat_le 1 (length ids) && length_at table len == length ids) both.0 in
    let counts = and_parts (nat_le 1 (length ids)) (length_at table len == length ids) known_length.1 in
    let part = type_at table (element insts t) in
    let count = eqb-true (length_at table len) (length ids) counts.1 in
    subst (λ (u : DataType). AreWordsOf P (booleans u) (composed table ids)) (sym (ap type_in is))
    (subst (λ (n : ℕ). AreWordsOf P (copies n (booleans part)) (composed table ids)) (sym count) (alike_suit P insts k (element insts t) earlier ids known both.1))

struct_suits : (P : ℕ → Type 0) (insts : List Instruction) (k t : ℕ) (ids : List ℕ) → IsSoundType insts (table_before insts k) t → Earlier P insts k →
    list_all (is_defined_before insts k) ids ≡ true →
    (is_struct insts t && are_of insts (members insts t) ids) ≡ true →
    AreWordsOf P (booleans (type_at (table_before insts k) t)) (composed (table_before insts k) ids)
struct_suits P insts k t ids sound earlier known e =
    let table = table_before insts k in
    let both = and_parts (is_struct insts t) (are_of insts (members insts t) ids) e in
    subst (λ (u : DataType). AreWordsOf P (booleans u) (composed table ids)) (sym (ap type_in (sound.struct both.0)))
    (members_suit P insts k t 0 earlier (members insts t) ids known both.1)

-- constituents that fit
pub composite_suits : (P : ℕ → Type 0) (insts : List Instruction) (k t : ℕ) (ids : List ℕ) → IsSoundType insts (table_before insts k) t →
    Earlier P insts k → list_all (is_defined_before insts k) ids ≡ true →
    composite_fits insts (declared_before insts k) t ids ≡ true →
    AreWordsOf P (booleans (type_at (table_before insts k) t)) (composed (table_before insts k) ids)
composite_suits P insts k t ids sound earlier known h =
    let table = table_before insts k in
    let d = declared_before insts k in
    let of_vector =
    λ (v : is_vector insts t ≡ true) (e : (component_count insts t == length ids && list_all (has_type insts (component insts t)) ids) ≡ true).
    vector_suits P insts k t ids (sound.vector v) earlier known e in
    let of_array =
    λ (a : is_array insts t ≡ true) (e : (has_length d (length_id insts t) (length ids) && list_all (has_type insts (element insts t)) ids) ≡ true).
    array_suits P insts k t ids (sound.array a).0 (sound.array a).1 earlier known e in
    let of_struct = λ (e : (is_struct insts t && are_of insts (members insts t) ids) ≡ true).
    struct_suits P insts k t ids sound earlier known e in
    three_ways (AreWordsOf P (booleans (type_at table t)) (composed table ids)) (is_vector insts t) (is_array insts t)
    (component_count insts t == length ids && list_all (has_type insts (component insts t)) ids)
    (has_length d (length_id insts t) (length ids) && list_all (has_type insts (element insts t)) ids)
    (is_struct insts t && are_of insts (members insts t) ids) h of_vector of_array of_struct

-- ---- instruction by instruction

-- what holds of the instructions, of their words and of operations
pub record Setting (P : ℕ → Type 0) (insts : List Instruction) : Type 0 where
  pub whole : AreInstructions insts
  pub zero_word : P 0
  pub words : WordsHold P insts
  pub operations : OperationsHold P insts

-- constants before an earlier instruction
abbrev pub AllEarlier : (ℕ → Type 0) → List Instruction → (k : ℕ) → Type 0
AllEarlier P insts k = (j : ℕ) → j < k → Earlier P insts j

-- the result's type is sound where the instruction stands
typed_sound : (P : ℕ → Type 0) (insts : List Instruction) → Setting P insts → (k id o : ℕ) (s : Site insts k id o) →
    row_test first_typed (row_of o) ≡ true → IsSoundType insts (table_before insts s.d.place) (slice_index s.d.inst.words 1)
typed_sound P insts setting k id o s typed =
    sound_type insts setting.whole s.d.place (slice_index s.d.inst.words 1) s.clean s.outside (typed-known insts k id o s typed)

truth_holds : (P : ℕ → Type 0) (insts : List Instruction) → Setting P insts → (k id o : ℕ) (s : Site insts k id o) →
    row_test first_typed (row_of o) ≡ true → is_bool insts (slice_index s.d.inst.words 1) ≡ true → (w : ℕ) → w < 2 →
    meaning (table_before insts k) id ≡ Some (IsConstant (type_at (table_before insts s.d.place) (slice_index (drop 1 s.d.inst.words) 0)) (w ∷ [])) →
    Holds P insts (table_before insts k) id
truth_holds P insts setting k id o s typed rule w small stands =
    holds_from P insts k id o s typed (w ∷ []) stands
    (bool_suits P insts (table_before insts s.d.place) (slice_index s.d.inst.words 1) (typed_sound P insts setting k id o s typed) rule w small)

third_index : (words : List ℕ) → slice_index (drop 3 words) 0 ≡ slice_index words 3
third_index [] = refl
third_index (a ∷ []) = refl
third_index (a ∷ b ∷ []) = refl
third_index (a ∷ b ∷ c ∷ []) = refl
third_index (a ∷ b ∷ c ∷ d ∷ ws) = refl

number_holds : (P : ℕ → Type 0) (insts : List Instruction) → Setting P insts → (k id o : ℕ) (s : Site insts k id o) →
    row_test first_typed (row_of o) ≡ true →
    (is_int insts (slice_index s.d.inst.words 1) && length (drop 3 s.d.inst.words) == 1) ≡ true →
    meaning (table_before insts k) id ≡ Some (IsConstant (type_at (table_before insts s.d.place) (slice_index (drop 1 s.d.inst.words) 0)) (drop 2 (drop 1 s.d.inst.words))) → Holds P insts (table_before insts k) id
number_holds P insts setting k id o s typed rule stands =
    let words = s.d.inst.words in
    let ws = drop 2 (drop 1 words) in
    let both = and_parts (is_int insts (slice_index words 1)) (length (drop 3 words) == 1) rule in
    let one : length ws ≡ 1 = ap (λ (xs : List ℕ). length xs) (drop-on words 2) ∙ eqb-true (length (drop 3 words)) 1 both.1 in
    let first : slice_index (drop 3 words) 0 ≡ slice_index words 3 = third_index words in
    let holds : P (slice_index ws 0) =
    subst P (sym (ap (λ (xs : List ℕ). slice_index xs 0) (drop-on words 2) ∙ first)) (setting.words s.d.place s.d.inst s.d.at 3) in
    holds_from P insts k id o s typed ws stands
    (int_suits P insts (table_before insts s.d.place) (slice_index words 1) (typed_sound P insts setting k id o s typed) both.0 ws one holds)

zeros_hold : (P : ℕ → Type 0) (insts : List Instruction) → Setting P insts → (k id o : ℕ) (s : Site insts k id o) →
    row_test first_typed (row_of o) ≡ true →
    meaning (table_before insts k) id ≡ Some (IsConstant (type_at (table_before insts s.d.place) (slice_index (drop 1 s.d.inst.words) 0)) (zeros (type_at (table_before insts s.d.place) (slice_index (drop 1 s.d.inst.words) 0)))) →
    Holds P insts (table_before insts k) id
zeros_hold P insts setting k id o s typed stands =
    let table = table_before insts s.d.place in
    let words = s.d.inst.words in
    holds_from P insts k id o s typed (zeros (type_at table (slice_index (drop 1 words) 0))) stands
    (subst (λ (x : ℕ). AreWordsOf P (booleans (type_at table x)) (zeros (type_at table (slice_index (drop 1 words) 0)))) (index-on words 0) (words-zeros_of P setting.zero_word (type_at table (slice_index (drop 1 words) 0))))

composite_holds : (P : ℕ → Type 0) (insts : List Instruction) → Setting P insts → (k id o : ℕ) (s : Site insts k id o) →
    row_test first_typed (row_of o) ≡ true → AllEarlier P insts k → TypedParts (Ids 65535 ∷ []) s.d.inst.words (roles s.d.inst) →
    composite_fits insts (declared_before insts s.d.place) (slice_index s.d.inst.words 1) (drop 3 s.d.inst.words) ≡ true →
    meaning (table_before insts k) id ≡ Some (IsConstant (type_at (table_before insts s.d.place) (slice_index (drop 1 s.d.inst.words) 0)) (composed (table_before insts s.d.place) (drop 2 (drop 1 s.d.inst.words)))) →
    Holds P insts (table_before insts k) id
composite_holds P insts setting k id o s typed earlier parts rule stands =
    let table = table_before insts s.d.place in
    let words = s.d.inst.words in
    let t = slice_index words 1 in
    let known = constituents-known (is_defined_before insts s.d.place) 65535 words (roles s.d.inst) parts s.known in
    let suit =
    composite_suits P insts s.d.place t (drop 3 words) (typed_sound P insts setting k id o s typed) (earlier s.d.place s.d.before) known rule in
    holds_from P insts k id o s typed (composed table (drop 2 (drop 1 words))) stands
    (subst (λ (ids : List ℕ). AreWordsOf P (booleans (type_at table t)) (composed table ids)) (sym (drop-on words 2)) suit)

-- operands that are constants before it
all_hold : (P : ℕ → Type 0) (insts : List Instruction) (k : ℕ) → Earlier P insts k → (ids : List ℕ) →
    list_all (is_defined_before insts k) ids ≡ true → list_all (is_constant insts) ids ≡ true → AllHold P insts k ids
all_hold P insts k earlier [] known typed = tt
all_hold P insts k earlier (id ∷ ids) known typed =
    let known_both = and_parts (is_defined_before insts k id) (list_all (is_defined_before insts k) ids) known in
    let typed_both = and_parts (is_constant insts id) (list_all (is_constant insts) ids) typed in
    (known_both.0, earlier id known_both.0 typed_both.0, all_hold P insts k earlier ids known_both.1 typed_both.1)

operation_holds : (P : ℕ → Type 0) (insts : List Instruction) → Setting P insts → (k id : ℕ) → AllEarlier P insts k →
    Site insts k id op.SPEC_CONSTANT_OP → Holds P insts (table_before insts k) id
unfolding row_of
operation_holds P insts setting k id earlier s =
    let table = table_before insts s.d.place in
    let words = s.d.inst.words in
    let t = slice_index words 1 in
    let f = fitting-form insts s.d.inst s.is_o s.kept.operations in
    let rest = drop 4 words in
    let ids = operands_for f.form rest in
    let known = operands-known (is_defined_before insts s.d.place) insts s.d.inst f.form s.whole s.is_o f.is f.fit s.known in
    let held = all_hold P insts s.d.place (earlier s.d.place s.d.before) ids known (operands-constant insts f.form t rest f.fit) in
    let ws = computed (computation_for f.form (slice_index words 3) rest) (type_at table t) (map (typed_at table) ids) in
    let stands : meaning (table_before insts k) id ≡ Some (IsConstant (type_at table t) ws) =
    s.stands ∙ ap (λ (st : Statement). meaning_in (defined (says insts) [] table st)) (said-operation s.d.inst f.form s.whole s.is_o f.is) in
    holds_from P insts k id op.SPEC_CONSTANT_OP s refl ws
    (stands ∙ ap (λ (x : ℕ). Some (IsConstant (type_at table x) ws)) (sym (index-on words 0)))
    (setting.operations s.d.place f.form (slice_index words 3) t rest s.clean s.outside (typed-known insts k id op.SPEC_CONSTANT_OP s refl) f.is f.fit held)

given-default : (literals : Option (List ℕ)) (t : DataType) (default : List ℕ) → given literals [] t default ≡ default
given-default None t default = refl
given-default (Some literals) t default = refl

given_stands : (m : Option Meaning) (literals : Option (List ℕ)) (t : DataType) (default : List ℕ) →
    m ≡ Some (IsConstant t (given literals [] t default)) → m ≡ Some (IsConstant t default)
given_stands m literals t default e = e ∙ ap (λ (ws : List ℕ). Some (IsConstant t ws)) (given-default literals t default)

composite_parts : (insts : List Instruction) (k id : ℕ) (s : Site insts k id op.CONSTANT_COMPOSITE) →
    TypedParts (Ids 65535 ∷ []) s.d.inst.words (roles s.d.inst)
unfolding row_of
composite_parts insts k id s =
    typed-parts op.CONSTANT_COMPOSITE (in_section 10 (ResultType ∷ ResultId ∷ Ids 65535 ∷ [])) (Ids 65535 ∷ []) s.d.inst.words
    (roles s.d.inst) refl refl refl s.is_o s.whole.parted

spec_composite_parts : (insts : List Instruction) (k id : ℕ) (s : Site insts k id op.SPEC_CONSTANT_COMPOSITE) →
    TypedParts (Ids 65535 ∷ []) s.d.inst.words (roles s.d.inst)
unfolding row_of
spec_composite_parts insts k id s =
    typed-parts op.SPEC_CONSTANT_COMPOSITE (in_section 10 (ResultType ∷ ResultId ∷ Ids 65535 ∷ [])) (Ids 65535 ∷ []) s.d.inst.words
    (roles s.d.inst) refl refl refl s.is_o s.whole.parted

-- all of them
abbrev pub Case : (ℕ → Type 0) → List Instruction → (k id o : ℕ) → Type 0
Case P insts k id o = Site insts k id o → Holds P insts (table_before insts k) id

constants_hold : (P : ℕ → Type 0) (insts : List Instruction) → Setting P insts → (k id : ℕ) → AllEarlier P insts k →
    AllOf (Case P insts k id) (op.UNDEF ∷ constants)
unfolding row_of
constants_hold P insts setting k id earlier = (
  λ s. zeros_hold P insts setting k id op.UNDEF s refl s.stands,
  (
    λ s. truth_holds P insts setting k id op.CONSTANT_TRUE s refl (constant-rule insts k id op.CONSTANT_TRUE s) 1 (omega arith) s.stands,
    (
      λ s. truth_holds P insts setting k id op.CONSTANT_FALSE s refl (constant-rule insts k id op.CONSTANT_FALSE s) 0 (omega arith) s.stands,
      (
        λ s. number_holds P insts setting k id op.CONSTANT s refl (constant-rule insts k id op.CONSTANT s) s.stands,
        (
          λ s. composite_holds P insts setting k id op.CONSTANT_COMPOSITE s refl earlier (composite_parts insts k id s)
              (and_parts _ _ (constant-rule insts k id op.CONSTANT_COMPOSITE s)).0 s.stands,
          (
            λ s. zeros_hold P insts setting k id op.CONSTANT_NULL s refl s.stands,
            (
              λ s. truth_holds P insts setting k id op.SPEC_CONSTANT_TRUE s refl (constant-rule insts k id op.SPEC_CONSTANT_TRUE s) 1 (omega arith)
                  (given_stands (meaning (table_before insts k) id) (decorated (says insts) (slice_index (drop 1 s.d.inst.words) 1) decoration.SPEC_ID) (type_at (table_before insts s.d.place) (slice_index (drop 1 s.d.inst.words) 0)) (1 ∷ []) s.stands),
              (
                λ s. truth_holds P insts setting k id op.SPEC_CONSTANT_FALSE s refl (constant-rule insts k id op.SPEC_CONSTANT_FALSE s) 0
                    (omega arith)
                    (given_stands (meaning (table_before insts k) id) (decorated (says insts) (slice_index (drop 1 s.d.inst.words) 1) decoration.SPEC_ID) (type_at (table_before insts s.d.place) (slice_index (drop 1 s.d.inst.words) 0)) (0 ∷ []) s.stands),
                (
                  λ s. number_holds P insts setting k id op.SPEC_CONSTANT s refl (constant-rule insts k id op.SPEC_CONSTANT s)
                      (given_stands (meaning (table_before insts k) id) (decorated (says insts) (slice_index (drop 1 s.d.inst.words) 1) decoration.SPEC_ID) (type_at (table_before insts s.d.place) (slice_index (drop 1 s.d.inst.words) 0)) (drop 2 (drop 1 s.d.inst.words)) s.stands),
                  (
                    λ s. composite_holds P insts setting k id op.SPEC_CONSTANT_COMPOSITE s refl earlier (spec_composite_parts insts k id s)
                        (constant-rule insts k id op.SPEC_CONSTANT_COMPOSITE s) s.stands,
                    (operation_holds P insts setting k id earlier, tt),
                  ),
                ),
              ),
            ),
          ),
        ),
      ),
    ),
  ),
)

constants_declared : AllOf (λ o. is_declared o ≡ true) (op.UNDEF ∷ constants)
unfolding row_of
constants_declared = search rules

-- a constant's instruction is one of those
pub constant_kind : (insts : List Instruction) (id : ℕ) → is_constant insts id ≡ true → is_one_of (op.UNDEF ∷ constants) (kind insts id) ≡ true
constant_kind insts id h = kinds_of (is_one_of constants (kind insts id)) (kind insts id == op.UNDEF) (is_outside insts id) h
  where
    kinds_of : (a b c : Bool) → (a || (b && c)) ≡ true → (b || a) ≡ true
    kinds_of true true c h = refl
    kinds_of true false c h = refl
    kinds_of false true c h = refl
    kinds_of false false c h = h

constants_typed : AllOf (λ o. row_test first_typed (row_of o) ≡ true) (op.UNDEF ∷ constants)
unfolding row_of
constants_typed = search rules

-- the type of a constant is defined before it
pub type_before : (insts : List Instruction) → AreInstructions insts → (k id : ℕ) → Unbroken insts k → (declared_before insts k).begun ≡ false →
    IsBefore insts k id → is_constant insts id ≡ true → IsBefore insts k (type_of insts id)
type_before insts whole k id clean outside before h =
    let o = kind insts id in
    let listed = constant_kind insts id h in
    let d = defined_at insts k id before in
    let s =
    site insts whole k id o clean outside d (sym (opcode-is insts k id d))
    (one_of-holds (λ n. is_declared n ≡ true) (op.UNDEF ∷ constants) constants_declared o listed) in
    let known =
    typed-known insts k id o s (one_of-holds (λ n. row_test first_typed (row_of n) ≡ true) (op.UNDEF ∷ constants) constants_typed o listed) in
    let named : is_defined_before insts s.d.place (type_of insts id) ≡ true =
    subst (λ (n : ℕ). is_defined_before insts s.d.place n ≡ true) (word-is insts k id 1 s.d) known in
    stays-defined insts s.d.place k (type_of insts id) (omega (arith, s.d.before)) named

constant_step : (P : ℕ → Type 0) (insts : List Instruction) → Setting P insts → (k id : ℕ) → AllEarlier P insts k → Unbroken insts k →
    (declared_before insts k).begun ≡ false → IsBefore insts k id → is_constant insts id ≡ true → Holds P insts (table_before insts k) id
constant_step P insts setting k id earlier clean outside before h =
    let o = kind insts id in
    let listed = constant_kind insts id h in
    let d = defined_at insts k id before in
    one_of-holds (Case P insts k id) (op.UNDEF ∷ constants) (constants_hold P insts setting k id earlier) o listed
    (site insts setting.whole k id o clean outside d (sym (opcode-is insts k id d)) (one_of-holds (λ n. is_declared n ≡ true) (op.UNDEF ∷ constants) constants_declared o listed))

-- induction on a bound of the place
constants_up_to : (P : ℕ → Type 0) (insts : List Instruction) → Setting P insts → (n k : ℕ) → k ≤ n → Unbroken insts k →
    (declared_before insts k).begun ≡ false → Earlier P insts k
constants_up_to P insts setting zero k le clean outside id before h =
    let none = defined_at insts k id before in
    absurd (omega (arith, none.before))
constants_up_to P insts setting (suc n) k le clean outside id before h =
    constant_step P insts setting k id
    (λ j less. constants_up_to P insts setting n j (omega arith) (unbroken-less insts j k (omega arith) clean) (not_begun insts j k (omega arith) outside))
    clean outside before h

-- no rule is broken, and no function has begun: a constant before stands for words of a value of its type
pub constant_holds : (P : ℕ → Type 0) (insts : List Instruction) → Setting P insts → (k id : ℕ) → Unbroken insts k →
    (declared_before insts k).begun ≡ false → IsBefore insts k id → is_constant insts id ≡ true → Holds P insts (table_before insts k) id
constant_holds P insts setting k id clean outside before h = constants_up_to P insts setting k k (omega arith) clean outside id before h
