-- What a type is by its instruction is what it stands for.
use Rattle.std.proofs.Common.{◌≡◌, ℕ, suc, Bool, true, false, cond, ◌==◌, nat_le, List, [], ◌∷◌, drop, Option, Some, refl, sym, ap, ◌∙◌}
use Rattle.std.specs.List.{list_all, slice_index}
use Rattle.std.proofs.lemmas.Bool.{eqb-true, and_parts}
use Rattle.spv_opcodes.specs.declared.op.TheConstants as op
use Rattle.spv_opcodes.specs.declared.decoration.TheConstants as decoration
use Rattle.spv_grammar.specs.declared.kind.Kind.TheVariants.{ResultId, Id, Ids, Number}
use Rattle.spv_grammar.specs.Table.{row_of, in_section}
use Rattle.spv_module.specs.Instruction.{Instruction, roles}
use Rattle.spv_meaning.specs.Constants.{Meaning, IsType, meaning, type_in, type_at, length_in, length_at, members_of, decorated, first_literal}
use Rattle.spv_meaning.specs.Types.{DataType, Boolean, Integer, Vector, Array, RuntimeArray, Struct, Members}
use Rattle.spv_ids.specs.Ids.{word_of, is_defined_before}
use Rattle.spv_typing.specs.Kinds.{is_closed, component, component_count, element, length_id, members}
use Rattle.spv_typing.specs.Types.{int_fits, vector_fits, array_fits, struct_fits, pointer_fits, function_fits, type_fits}
use Rattle.spv_declarations.specs.Declarations.{declared_before, says}
use Rattle.spv_declarations.specs.Sound.{AreInstructions, Unbroken, IsBefore, table_before, IsSoundType}
use Rattle.spv_declarations.proofs.Parts.{PlainParts, plain-parts, defined-plain}
use Rattle.spv_declarations.proofs.Meanings.{result_is}
use Rattle.spv_declarations.proofs.Naming.{second-known, third-known, members-known}
use Rattle.spv_declarations.proofs.Sites.{Site, site-of, word-is, words-is, index-on, drop-on, members-same}

-- ---- the rule on types, by the opcode

abbrev type_rule : List Instruction → (o : ℕ) → List ℕ → Bool
type_rule insts o words =
    cond (o == op.TYPE_INT) (int_fits (slice_index words 2) (slice_index words 3))
    (cond (o == op.TYPE_VECTOR) (vector_fits insts (slice_index words 2) (slice_index words 3))
    (cond (o == op.TYPE_ARRAY) (array_fits insts (slice_index words 2) (slice_index words 3))
    (cond (o == op.TYPE_RUNTIME_ARRAY) (is_closed insts (slice_index words 2))
    (cond (o == op.TYPE_STRUCT) (struct_fits insts (drop 2 words))
    (cond (o == op.TYPE_POINTER) (pointer_fits insts (slice_index words 3))
    (cond (o == op.TYPE_FUNCTION) (function_fits insts (slice_index words 2) (drop 3 words))
    true))))))

pub type-rule : (insts : List Instruction) (k id o : ℕ) → (s : Site insts k id o) → type_rule insts o s.d.inst.words ≡ true
unfolding type_fits
type-rule insts k id o s = sym (ap (λ (n : ℕ). type_rule insts n s.d.inst.words) s.is_o) ∙ s.kept.types

-- ---- kind by kind

same_vector : (c d : ℕ) (t u : DataType) (m : Option Meaning) → m ≡ Some (IsType (Vector c t)) → c ≡ d → t ≡ u → m ≡ Some (IsType (Vector d u))
same_vector c d t u m h e f = cc

same_integer : (w v : ℕ) (b c : Bool) (m : Option Meaning) → m ≡ Some (IsType (Integer w b)) → w ≡ v → b ≡ c → m ≡ Some (IsType (Integer v c))
same_integer w v b c m h e f = cc

same_array : (stride : Option ℕ) (c d : ℕ) (t u : DataType) (m : Option Meaning) → m ≡ Some (IsType (Array stride c t)) → c ≡ d → t ≡ u →
    m ≡ Some (IsType (Array stride d u))
same_array stride c d t u m h e f = cc

same_runtime : (stride : Option ℕ) (t u : DataType) (m : Option Meaning) → m ≡ Some (IsType (RuntimeArray stride t)) → t ≡ u →
    m ≡ Some (IsType (RuntimeArray stride u))
same_runtime stride t u m h f = cc

same_struct : (ms ns : Members) (m : Option Meaning) → m ≡ Some (IsType (Struct ms)) → ms ≡ ns → m ≡ Some (IsType (Struct ns))
same_struct ms ns m h f = cc

-- the type of a word that names an id before it
pub type_same : (insts : List Instruction) (k id o n : ℕ) (s : Site insts k id o) →
    is_defined_before insts s.d.place (slice_index s.d.inst.words (suc n)) ≡ true →
    type_at (table_before insts s.d.place) (slice_index (drop 1 s.d.inst.words) n) ≡ type_at (table_before insts k) (word_of insts id (suc n))
type_same insts k id o n s h =
    ap (λ (x : ℕ). type_at (table_before insts s.d.place) x) (index-on s.d.inst.words n)
    ∙ ap type_in (s.same (slice_index s.d.inst.words (suc n)) h)
    ∙ ap (λ (x : ℕ). type_at (table_before insts k) x) (word-is insts k id (suc n) s.d)

length_same : (insts : List Instruction) (k id o n : ℕ) (s : Site insts k id o) →
    is_defined_before insts s.d.place (slice_index s.d.inst.words (suc n)) ≡ true →
    length_at (table_before insts s.d.place) (slice_index (drop 1 s.d.inst.words) n) ≡ length_at (table_before insts k) (word_of insts id (suc n))
length_same insts k id o n s h =
    ap (λ (x : ℕ). length_at (table_before insts s.d.place) x) (index-on s.d.inst.words n)
    ∙ ap length_in (s.same (slice_index s.d.inst.words (suc n)) h)
    ∙ ap (λ (x : ℕ). length_at (table_before insts k) x) (word-is insts k id (suc n) s.d)

word_same : (insts : List Instruction) (k id o n : ℕ) (s : Site insts k id o) → slice_index (drop 1 s.d.inst.words) n ≡ word_of insts id (suc n)
word_same insts k id o n s = index-on s.d.inst.words n ∙ word-is insts k id (suc n) s.d

-- the ids that a type's words name are defined before it
pub vector-known : (insts : List Instruction) (k id : ℕ) (s : Site insts k id op.TYPE_VECTOR) →
    is_defined_before insts s.d.place (slice_index s.d.inst.words 2) ≡ true
unfolding row_of
vector-known insts k id s =
    second-known (is_defined_before insts s.d.place) (Number ∷ []) s.d.inst.words (roles s.d.inst)
    (plain-parts op.TYPE_VECTOR (in_section 10 (ResultId ∷ Id ∷ Number ∷ [])) (Id ∷ Number ∷ []) s.d.inst.words (roles s.d.inst) refl refl refl s.is_o s.whole.parted) s.known

pub runtime-known : (insts : List Instruction) (k id : ℕ) (s : Site insts k id op.TYPE_RUNTIME_ARRAY) →
    is_defined_before insts s.d.place (slice_index s.d.inst.words 2) ≡ true
unfolding row_of
runtime-known insts k id s =
    second-known (is_defined_before insts s.d.place) [] s.d.inst.words (roles s.d.inst)
    (plain-parts op.TYPE_RUNTIME_ARRAY (in_section 10 (ResultId ∷ Id ∷ [])) (Id ∷ []) s.d.inst.words (roles s.d.inst) refl refl refl s.is_o s.whole.parted) s.known

array-parts : (insts : List Instruction) (k id : ℕ) (s : Site insts k id op.TYPE_ARRAY) → PlainParts (Id ∷ Id ∷ []) s.d.inst.words (roles s.d.inst)
unfolding row_of
array-parts insts k id s =
    plain-parts op.TYPE_ARRAY (in_section 10 (ResultId ∷ Id ∷ Id ∷ [])) (Id ∷ Id ∷ []) s.d.inst.words
    (roles s.d.inst) refl refl refl s.is_o s.whole.parted

pub element-known : (insts : List Instruction) (k id : ℕ) (s : Site insts k id op.TYPE_ARRAY) →
    is_defined_before insts s.d.place (slice_index s.d.inst.words 2) ≡ true
element-known insts k id s =
    second-known (is_defined_before insts s.d.place) (Id ∷ []) s.d.inst.words (roles s.d.inst) (array-parts insts k id s) s.known

pub length-known : (insts : List Instruction) (k id : ℕ) (s : Site insts k id op.TYPE_ARRAY) →
    is_defined_before insts s.d.place (slice_index s.d.inst.words 3) ≡ true
length-known insts k id s = third-known (is_defined_before insts s.d.place) [] s.d.inst.words (roles s.d.inst) (array-parts insts k id s) s.known

pub struct-known : (insts : List Instruction) (k id : ℕ) (s : Site insts k id op.TYPE_STRUCT) →
    list_all (is_defined_before insts s.d.place) (drop 2 s.d.inst.words) ≡ true
unfolding row_of
struct-known insts k id s =
    members-known (is_defined_before insts s.d.place) 16383 s.d.inst.words (roles s.d.inst)
    (plain-parts op.TYPE_STRUCT (in_section 10 (ResultId ∷ Ids 16383 ∷ [])) (Ids 16383 ∷ []) s.d.inst.words (roles s.d.inst) refl refl refl s.is_o s.whole.parted) s.known

-- the types
boolean_stands : (insts : List Instruction) (k id : ℕ) (s : Site insts k id op.TYPE_BOOL) → meaning (table_before insts k) id ≡ Some (IsType Boolean)
boolean_stands insts k id s = s.stands

integer_stands : (insts : List Instruction) (k id : ℕ) (s : Site insts k id op.TYPE_INT) →
    meaning (table_before insts k) id ≡ Some (IsType (Integer 32 (word_of insts id 3 == 1)))
integer_stands insts k id s =
    let ws = drop 1 s.d.inst.words in
    let rule = and_parts (slice_index s.d.inst.words 2 == 32) (nat_le (slice_index s.d.inst.words 3) 1) (type-rule insts k id op.TYPE_INT s) in
    same_integer (slice_index ws 1) 32 (slice_index ws 2 == 1) (word_of insts id 3 == 1) (meaning (table_before insts k) id) s.stands
    (index-on s.d.inst.words 1 ∙ eqb-true (slice_index s.d.inst.words 2) 32 rule.0)
    (ap (λ (n : ℕ). n == 1) (word_same insts k id op.TYPE_INT 2 s))

vector_stands : (insts : List Instruction) (k id : ℕ) (s : Site insts k id op.TYPE_VECTOR) →
    meaning (table_before insts k) id ≡ Some (IsType (Vector (component_count insts id) (type_at (table_before insts k) (component insts id))))
vector_stands insts k id s =
    let ws = drop 1 s.d.inst.words in
    same_vector (slice_index ws 2) (component_count insts id) (type_at (table_before insts s.d.place) (slice_index ws 1))
    (type_at (table_before insts k) (component insts id)) (meaning (table_before insts k) id) s.stands
    (word_same insts k id op.TYPE_VECTOR 2 s) (type_same insts k id op.TYPE_VECTOR 1 s (vector-known insts k id s))

array_stands : (insts : List Instruction) (k id : ℕ) (s : Site insts k id op.TYPE_ARRAY) →
    (stride : Option ℕ) ×
    (meaning (table_before insts k) id ≡ Some (IsType (Array stride (length_at (table_before insts k) (length_id insts id)) (type_at (table_before insts k) (element insts id)))))
array_stands insts k id s =
    let ws = drop 1 s.d.inst.words in
    let stride = first_literal (decorated (says insts) (slice_index ws 0) decoration.ARRAY_STRIDE) in (
      stride,
      same_array stride (length_at (table_before insts s.d.place) (slice_index ws 2)) (length_at (table_before insts k) (length_id insts id))
          (type_at (table_before insts s.d.place) (slice_index ws 1)) (type_at (table_before insts k) (element insts id))
          (meaning (table_before insts k) id) s.stands
          (length_same insts k id op.TYPE_ARRAY 2 s (length-known insts k id s))
          (type_same insts k id op.TYPE_ARRAY 1 s (element-known insts k id s)),
    )

runtime_stands : (insts : List Instruction) (k id : ℕ) (s : Site insts k id op.TYPE_RUNTIME_ARRAY) →
    (stride : Option ℕ) × (meaning (table_before insts k) id ≡ Some (IsType (RuntimeArray stride (type_at (table_before insts k) (element insts id)))))
runtime_stands insts k id s =
    let ws = drop 1 s.d.inst.words in
    let stride = first_literal (decorated (says insts) (slice_index ws 0) decoration.ARRAY_STRIDE) in (
      stride,
      same_runtime stride (type_at (table_before insts s.d.place) (slice_index ws 1)) (type_at (table_before insts k) (element insts id))
          (meaning (table_before insts k) id) s.stands
          (type_same insts k id op.TYPE_RUNTIME_ARRAY 1 s (runtime-known insts k id s)),
    )

-- a struct's instruction defines the struct
struct_id : (insts : List Instruction) (k id : ℕ) (s : Site insts k id op.TYPE_STRUCT) → slice_index (drop 1 s.d.inst.words) 0 ≡ id
unfolding row_of
struct_id insts k id s =
    result_is s.d.inst id (slice_index (drop 1 s.d.inst.words) 0) s.d.defines_it (defined-plain s.d.inst s.whole (rw s.is_o refl))

struct_stands : (insts : List Instruction) (k id : ℕ) (s : Site insts k id op.TYPE_STRUCT) →
    meaning (table_before insts k) id ≡ Some (IsType (Struct (members_of (says insts) (table_before insts k) id 0 (members insts id))))
struct_stands insts k id s =
    let ws = drop 1 s.d.inst.words in
    let table = table_before insts s.d.place in
    same_struct (members_of (says insts) table (slice_index ws 0) 0 (drop 1 ws))
    (members_of (says insts) (table_before insts k) id 0 (members insts id)) (meaning (table_before insts k) id) s.stands
    (ap (λ (r : ℕ). members_of (says insts) table r 0 (drop 1 ws)) (struct_id insts k id s)
    ∙ ap (λ (ms : List ℕ). members_of (says insts) table id 0 ms) (drop-on s.d.inst.words 1)
    ∙ members-same (says insts) table (table_before insts k) (is_defined_before insts s.d.place) s.same id 0 (drop 2 s.d.inst.words)
    (struct-known insts k id s)
    ∙ ap (λ (ms : List ℕ). members_of (says insts) (table_before insts k) id 0 ms) (words-is insts k id 2 s.d))

-- no rule is broken, and no function has begun: a type before is what its instruction says
pub sound_type : (insts : List Instruction) → AreInstructions insts → (k t : ℕ) → Unbroken insts k → (declared_before insts k).begun ≡ false →
    IsBefore insts k t → IsSoundType insts (table_before insts k) t
unfolding row_of
sound_type insts whole k t clean outside before = record {
  boolean = λ h. boolean_stands insts k t (site-of insts whole k t op.TYPE_BOOL clean outside before h refl);
  integer = λ h. integer_stands insts k t (site-of insts whole k t op.TYPE_INT clean outside before h refl);
  vector = λ h. vector_stands insts k t (site-of insts whole k t op.TYPE_VECTOR clean outside before h refl);
  array = λ h. array_stands insts k t (site-of insts whole k t op.TYPE_ARRAY clean outside before h refl);
  runtime_array = λ h. runtime_stands insts k t (site-of insts whole k t op.TYPE_RUNTIME_ARRAY clean outside before h refl);
  struct = λ h. struct_stands insts k t (site-of insts whole k t op.TYPE_STRUCT clean outside before h refl);
}
