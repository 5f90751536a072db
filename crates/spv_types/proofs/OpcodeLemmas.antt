-- Each opcode of constants: what its instructions declare is what is kept.
use Rattle.std.proofs.Common.{◌≡◌, ◌≢◌, ℕ, ◌≤◌, Bool, true, false, cond, not, ◌==◌, ◌&&◌, ◌||◌, nat_eq, List, [], ◌∷◌, length, drop, map, replicate, slice_index, Option, Some, None, Result, Ok, Err, ◌⊎◌, inl, inr, refl, sym, ap, subst, ◌∙◌, arith}
use Rattle.std.specs.List.{list_all}
use Rattle.std.specs.Option.{is_some}
use Rattle.std.specs.Result.{IfOk}
use Rattle.std.proofs.lemmas.List.{length-replicate}
use Rattle.std.proofs.lemmas.Bool.{eqb-true, and_parts, or_cases}
use Rattle.spv_opcodes.specs.declared.op.TheConstants as op
use Rattle.spv_opcodes.specs.declared.decoration.TheConstants as decoration
use Rattle.spv_grammar.specs.declared.kind.Kind.TheVariants.{ResultType, ResultId, Ids}
use Rattle.spv_grammar.specs.Table.{row_of, in_section}
use Rattle.spv_module.specs.Instruction.{Instruction, opcode, roles}
use Rattle.spv_value.specs.declared.words.Operand.{Operand}
use Rattle.spv_value.specs.Words.{words_of}
use Rattle.spv_meaning.specs.Computations.{computed}
use Rattle.spv_meaning.specs.Constants.{Table, Meaning, IsConstant, type_in, type_at, typed_at, composed, zeros, given, decorated}
use Rattle.spv_meaning.specs.Types.{DataType, cells}
use Rattle.spv_ids.specs.Ids.{is_defined_before}
use Rattle.spv_typing.specs.declared.operations.Form.{Form}
use Rattle.spv_typing.specs.declared.operations.Form.TheVariants.{Ints, Bools, Compares, Selects, Shuffles, Extracts, Inserts}
use Rattle.spv_typing.specs.declared.shapes.Shape.{Shape}
use Rattle.spv_typing.specs.Kinds.{is_one_of, is_bool, is_int, is_vector, is_array, is_struct, is_data, is_closed, ends_open, component, component_count}
use Rattle.spv_typing.specs.Operations.{shape, of_components, has_shape, count_of, operands_fit}
use Rattle.spv_declarations.specs.Constants.{composite_fits}
use Rattle.spv_declarations.specs.Declarations.{declared_before, says, entry, is_specialised}
use Rattle.spv_declarations.specs.Sound.{IsBefore, table_before, IsSoundType}
use Rattle.spv_declarations.proofs.Defining.{entry-by}
use Rattle.spv_declarations.proofs.Naming.{constituents-known}
use Rattle.spv_declarations.proofs.Operations.{fitting-form, operation-entry, computation_for, operands_for}
use Rattle.spv_declarations.proofs.Parts.{TypedParts, typed-parts}
use Rattle.spv_declarations.proofs.Sites.{index-on, drop-on}
use Rattle.spv_declarations.proofs.SoundShapes.{sound_shape}
use Rattle.spv_types.specs.declared.facts.TypeFacts.{TypeFacts}
use Rattle.spv_types.specs.declared.meaning.Constant.{Constant}
use Rattle.spv_types.specs.declared.meaning.Kept.{Kept}
use Rattle.spv_types.specs.declared.meaning.Value.TheVariants.{Zeros}
use Rattle.spv_types.specs.Facts.{in_64_bits, facts}
use Rattle.spv_types.specs.Meanings.{IsValue, is_small}
use Rattle.spv_types.specs.Extracting.{HasNumbers}
use Rattle.spv_types.specs.Steps.{KeepsConstant, constant_opcodes}
use Rattle.spv_types.specs.Declaring.{IsReady, HasWords, DeclaresWords}
use Rattle.spv_types.proofs.CompositeLemmas.{vector_of_scalars, vector_small, next_sound}
use Rattle.spv_types.proofs.DeclarationLemmas.{all_known, type_known, rule_at, declares}

-- what is known of the next declaration
abbrev pub IsListed : Instruction → Type 0
IsListed i = is_one_of constant_opcodes (opcode i) ≡ true

-- a small constant of these words
abbrev pub HasSmall : Operand → Constant → Type 0
HasSmall x c = (table : Table) (t : DataType) → is_small t ≡ true → HasWords table t (words_of x) c

small_declares : (insts : List Instruction) (k : ℕ) (i : Instruction) (x : Operand) (c : Constant) (ws : List ℕ) → HasSmall x c → words_of x ≡ ws → is_small (type_at (table_before insts k) (slice_index i.words 1)) ≡ true →
    entry (says insts) (table_before insts k) i ≡ Some (slice_index (drop 1 i.words) 1, IsConstant (type_at (table_before insts k) (slice_index (drop 1 i.words) 0)) ws) → DeclaresWords insts k i c
small_declares insts k i x c ws has same small e =
    let t = type_at (table_before insts k) (slice_index i.words 1) in
    declares insts k i c ws e (subst (λ (vs : List ℕ). HasWords (table_before insts k) t vs c) same (has (table_before insts k) t small))

-- the default of a constant that a specialisation may change
default_stands : (e : Option (ℕ × Meaning)) (r : ℕ) (literals : Option (List ℕ)) (t : DataType) (ws : List ℕ) → e ≡ Some (r, IsConstant t (given literals [] t ws)) → e ≡ Some (r, IsConstant t ws)
default_stands e r None t ws h = h
default_stands e r (Some literals) t ws h = h

result_sound : (insts : List Instruction) (k : ℕ) (i : Instruction) (ks : List (ℕ × Kept)) → IsReady insts k i ks → IsListed i → IsSoundType insts (table_before insts k) (slice_index i.words 1)
result_sound insts k i ks ready listed = next_sound insts k i ks ready (slice_index i.words 1) (type_known insts k i ready.next listed)

-- ---- booleans

bool_small : (insts : List Instruction) (k : ℕ) (i : Instruction) (ks : List (ℕ × Kept)) → IsReady insts k i ks → IsListed i → is_bool insts (slice_index i.words 1) ≡ true → is_small (type_at (table_before insts k) (slice_index i.words 1)) ≡ true
bool_small insts k i ks ready listed b = ap (λ m. is_small (type_in m)) ((result_sound insts k i ks ready listed).boolean b)

pub true_declares : (insts : List Instruction) (k : ℕ) (i : Instruction) (ks : List (ℕ × Kept)) (x : Operand) (c : Constant) → IsReady insts k i ks → IsListed i → (opcode i ≡ op.CONSTANT_TRUE) ⊎ (opcode i ≡ op.SPEC_CONSTANT_TRUE) →
    HasSmall x c → words_of x ≡ 1 ∷ [] → DeclaresWords insts k i c
true_declares insts k i ks x c ready listed (inl is_o) has same =
    small_declares insts k i x c (1 ∷ []) has same (bool_small insts k i ks ready listed (rule_at insts k i op.CONSTANT_TRUE ready.next is_o))
    (entry-by (says insts) (table_before insts k) i op.CONSTANT_TRUE is_o refl)
true_declares insts k i ks x c ready listed (inr is_o) has same =
    small_declares insts k i x c (1 ∷ []) has same (bool_small insts k i ks ready listed (rule_at insts k i op.SPEC_CONSTANT_TRUE ready.next is_o))
    (default_stands (entry (says insts) (table_before insts k) i) (slice_index (drop 1 i.words) 1) (decorated (says insts) (slice_index (drop 1 i.words) 1) decoration.SPEC_ID)
    (type_at (table_before insts k) (slice_index (drop 1 i.words) 0)) (1 ∷ []) (entry-by (says insts) (table_before insts k) i op.SPEC_CONSTANT_TRUE is_o refl))

pub false_declares : (insts : List Instruction) (k : ℕ) (i : Instruction) (ks : List (ℕ × Kept)) (x : Operand) (c : Constant) → IsReady insts k i ks → IsListed i → (opcode i ≡ op.CONSTANT_FALSE) ⊎ (opcode i ≡ op.SPEC_CONSTANT_FALSE) →
    HasSmall x c → words_of x ≡ 0 ∷ [] → DeclaresWords insts k i c
false_declares insts k i ks x c ready listed (inl is_o) has same =
    small_declares insts k i x c (0 ∷ []) has same (bool_small insts k i ks ready listed (rule_at insts k i op.CONSTANT_FALSE ready.next is_o))
    (entry-by (says insts) (table_before insts k) i op.CONSTANT_FALSE is_o refl)
false_declares insts k i ks x c ready listed (inr is_o) has same =
    small_declares insts k i x c (0 ∷ []) has same (bool_small insts k i ks ready listed (rule_at insts k i op.SPEC_CONSTANT_FALSE ready.next is_o))
    (default_stands (entry (says insts) (table_before insts k) i) (slice_index (drop 1 i.words) 1) (decorated (says insts) (slice_index (drop 1 i.words) 1) decoration.SPEC_ID)
    (type_at (table_before insts k) (slice_index (drop 1 i.words) 0)) (0 ∷ []) (entry-by (says insts) (table_before insts k) i op.SPEC_CONSTANT_FALSE is_o refl))

-- ---- numbers

one_literal : (words : List ℕ) → length (drop 3 words) ≡ 1 → slice_index words 3 ∷ [] ≡ drop 3 words
one_literal [] e = cc
one_literal (a ∷ []) e = cc
one_literal (a ∷ b ∷ []) e = cc
one_literal (a ∷ b ∷ c ∷ []) e = cc
one_literal (a ∷ b ∷ c ∷ d ∷ []) e = refl
one_literal (a ∷ b ∷ c ∷ d ∷ x ∷ ws) e = absurd (omega arith)

number_small : (insts : List Instruction) (k : ℕ) (i : Instruction) (ks : List (ℕ × Kept)) → IsReady insts k i ks → IsListed i → is_int insts (slice_index i.words 1) ≡ true → is_small (type_at (table_before insts k) (slice_index i.words 1)) ≡ true
number_small insts k i ks ready listed n = ap (λ m. is_small (type_in m)) ((result_sound insts k i ks ready listed).integer n)

number_by : (insts : List Instruction) (k : ℕ) (i : Instruction) (ks : List (ℕ × Kept)) (x : Operand) (c : Constant) → IsReady insts k i ks → IsListed i → (is_int insts (slice_index i.words 1) && length (drop 3 i.words) == 1) ≡ true →
    HasSmall x c → words_of x ≡ slice_index i.words 3 ∷ [] →
    entry (says insts) (table_before insts k) i ≡ Some (slice_index (drop 1 i.words) 1, IsConstant (type_at (table_before insts k) (slice_index (drop 1 i.words) 0)) (drop 2 (drop 1 i.words))) → DeclaresWords insts k i c
number_by insts k i ks x c ready listed rule has same e =
    let both = and_parts (is_int insts (slice_index i.words 1)) (length (drop 3 i.words) == 1) rule in
    small_declares insts k i x c (drop 2 (drop 1 i.words)) has (same ∙ one_literal i.words (eqb-true (length (drop 3 i.words)) 1 both.1) ∙ sym (drop-on i.words 2)) (number_small insts k i ks ready listed both.0) e

pub number_declares : (insts : List Instruction) (k : ℕ) (i : Instruction) (ks : List (ℕ × Kept)) (x : Operand) (c : Constant) → IsReady insts k i ks → IsListed i → (opcode i ≡ op.CONSTANT) ⊎ (opcode i ≡ op.SPEC_CONSTANT) →
    HasSmall x c → words_of x ≡ slice_index i.words 3 ∷ [] → DeclaresWords insts k i c
number_declares insts k i ks x c ready listed (inl is_o) has same =
    number_by insts k i ks x c ready listed (rule_at insts k i op.CONSTANT ready.next is_o) has same (entry-by (says insts) (table_before insts k) i op.CONSTANT is_o refl)
number_declares insts k i ks x c ready listed (inr is_o) has same =
    number_by insts k i ks x c ready listed (rule_at insts k i op.SPEC_CONSTANT ready.next is_o) has same
    (default_stands (entry (says insts) (table_before insts k) i) (slice_index (drop 1 i.words) 1) (decorated (says insts) (slice_index (drop 1 i.words) 1) decoration.SPEC_ID)
    (type_at (table_before insts k) (slice_index (drop 1 i.words) 0)) (drop 2 (drop 1 i.words)) (entry-by (says insts) (table_before insts k) i op.SPEC_CONSTANT is_o refl))

-- ---- composites

abbrev pub HasComposite : List Instruction → (k : ℕ) → (i : Instruction) → (t : ℕ) → (ids : List ℕ) → Constant → Type 0
HasComposite insts k i t ids c =
    IsBefore insts k t → list_all (is_defined_before insts k) ids ≡ true → composite_fits insts (declared_before insts k) t ids ≡ true → HasWords (table_before insts k) (type_at (table_before insts k) t) (composed (table_before insts k) ids) c

composite_by : (insts : List Instruction) (k : ℕ) (i : Instruction) (ks : List (ℕ × Kept)) (c : Constant) → IsReady insts k i ks → IsListed i → HasComposite insts k i (slice_index i.words 1) (drop 3 i.words) c →
    TypedParts (Ids 65535 ∷ []) i.words (roles i) → composite_fits insts (declared_before insts k) (slice_index i.words 1) (drop 3 i.words) ≡ true →
    entry (says insts) (table_before insts k) i ≡ Some (slice_index (drop 1 i.words) 1, IsConstant (type_at (table_before insts k) (slice_index (drop 1 i.words) 0)) (composed (table_before insts k) (drop 2 (drop 1 i.words)))) → DeclaresWords insts k i c
composite_by insts k i ks c ready listed has parts fits e =
    let known = constituents-known (is_defined_before insts k) 65535 i.words (roles i) parts (all_known insts k i ready.next listed) in
    let t = type_at (table_before insts k) (slice_index i.words 1) in
    declares insts k i c (composed (table_before insts k) (drop 2 (drop 1 i.words))) e
    (subst (λ (ids : List ℕ). HasWords (table_before insts k) t (composed (table_before insts k) ids) c) (sym (drop-on i.words 2)) (has (type_known insts k i ready.next listed) known fits))

pub composite_declares : (insts : List Instruction) (k : ℕ) (i : Instruction) (ks : List (ℕ × Kept)) (c : Constant) → IsReady insts k i ks → IsListed i → (opcode i ≡ op.CONSTANT_COMPOSITE) ⊎ (opcode i ≡ op.SPEC_CONSTANT_COMPOSITE) →
    HasComposite insts k i (slice_index i.words 1) (drop 3 i.words) c → DeclaresWords insts k i c
unfolding row_of
composite_declares insts k i ks c ready listed (inl is_o) has =
    let whole = ready.next.instructions k i ready.next.at in
    composite_by insts k i ks c ready listed has
    (typed-parts op.CONSTANT_COMPOSITE (in_section 10 (ResultType ∷ ResultId ∷ Ids 65535 ∷ [])) (Ids 65535 ∷ []) i.words (roles i) refl refl refl is_o whole.parted)
    (and_parts (composite_fits insts (declared_before insts k) (slice_index i.words 1) (drop 3 i.words)) _ (rule_at insts k i op.CONSTANT_COMPOSITE ready.next is_o)).0
    (entry-by (says insts) (table_before insts k) i op.CONSTANT_COMPOSITE is_o refl)
composite_declares insts k i ks c ready listed (inr is_o) has =
    let whole = ready.next.instructions k i ready.next.at in
    composite_by insts k i ks c ready listed has
    (typed-parts op.SPEC_CONSTANT_COMPOSITE (in_section 10 (ResultType ∷ ResultId ∷ Ids 65535 ∷ [])) (Ids 65535 ∷ []) i.words (roles i) refl refl refl is_o whole.parted)
    (rule_at insts k i op.SPEC_CONSTANT_COMPOSITE ready.next is_o)
    (entry-by (says insts) (table_before insts k) i op.SPEC_CONSTANT_COMPOSITE is_o refl)

-- ---- zeros

abbrev pub HasZeros : List Instruction → (k t : ℕ) → Constant → Type 0
HasZeros insts k t c = IsBefore insts k t → is_closed insts t ≡ true → HasWords (table_before insts k) (type_at (table_before insts k) t) (zeros (type_at (table_before insts k) t)) c

null_by : (insts : List Instruction) (k : ℕ) (i : Instruction) (ks : List (ℕ × Kept)) (c : Constant) → IsReady insts k i ks → IsListed i → HasZeros insts k (slice_index i.words 1) c → is_closed insts (slice_index i.words 1) ≡ true →
    entry (says insts) (table_before insts k) i ≡ Some (slice_index (drop 1 i.words) 1, IsConstant (type_at (table_before insts k) (slice_index (drop 1 i.words) 0)) (zeros (type_at (table_before insts k) (slice_index (drop 1 i.words) 0)))) → DeclaresWords insts k i c
null_by insts k i ks c ready listed has closed e =
    let table = table_before insts k in
    declares insts k i c (zeros (type_at table (slice_index (drop 1 i.words) 0))) e
    (subst (λ (t : ℕ). HasWords table (type_at table (slice_index i.words 1)) (zeros (type_at table t)) c) (sym (index-on i.words 0)) (has (type_known insts k i ready.next listed) closed))

pub null_declares : (insts : List Instruction) (k : ℕ) (i : Instruction) (ks : List (ℕ × Kept)) (c : Constant) → IsReady insts k i ks → IsListed i → (opcode i ≡ op.CONSTANT_NULL) ⊎ (opcode i ≡ op.UNDEF) →
    HasZeros insts k (slice_index i.words 1) c → DeclaresWords insts k i c
null_declares insts k i ks c ready listed (inl is_o) has =
    null_by insts k i ks c ready listed has (rule_at insts k i op.CONSTANT_NULL ready.next is_o) (entry-by (says insts) (table_before insts k) i op.CONSTANT_NULL is_o refl)
null_declares insts k i ks c ready listed (inr is_o) has =
    null_by insts k i ks c ready listed has (rule_at insts k i op.UNDEF ready.next is_o)
    (entry-by (says insts) (table_before insts k) i op.UNDEF is_o refl)

one_or_more : (o n : ℕ) (b : Bool) → o ≢ n → (nat_eq o n || b) ≡ true → b ≡ true
one_or_more o n true ne h = refl
one_or_more o n false ne h = absurd (ne (eqb-true o n (either (nat_eq o n) h)))
  where
    either : (c : Bool) → (c || false) ≡ true → c ≡ true
    either true h = refl
    either false h = h

-- the opcodes that are left
pub others_zero : (o : ℕ) → o ≢ op.CONSTANT_TRUE → o ≢ op.CONSTANT_FALSE → o ≢ op.CONSTANT → o ≢ op.CONSTANT_COMPOSITE → o ≢ op.SPEC_CONSTANT_TRUE → o ≢ op.SPEC_CONSTANT_FALSE → o ≢ op.SPEC_CONSTANT →
    o ≢ op.SPEC_CONSTANT_COMPOSITE → o ≢ op.SPEC_CONSTANT_OP → is_one_of constant_opcodes o ≡ true → (o ≡ op.CONSTANT_NULL) ⊎ (o ≡ op.UNDEF)
others_zero o a b c d e f g h i listed =
    let l1 = one_or_more o op.CONSTANT_COMPOSITE _ d (one_or_more o op.CONSTANT _ c (one_or_more o op.CONSTANT_FALSE _ b (one_or_more o op.CONSTANT_TRUE _ a listed))) in
    by (or_cases (nat_eq o op.CONSTANT_NULL) _ l1)
  where
    by : (nat_eq o op.CONSTANT_NULL ≡ true) ⊎ (is_one_of (op.SPEC_CONSTANT_TRUE ∷ op.SPEC_CONSTANT_FALSE ∷ op.SPEC_CONSTANT ∷ op.SPEC_CONSTANT_COMPOSITE ∷ op.SPEC_CONSTANT_OP ∷ op.UNDEF ∷ []) o ≡ true) →
        (o ≡ op.CONSTANT_NULL) ⊎ (o ≡ op.UNDEF)
    by (inl null) = inl (eqb-true o op.CONSTANT_NULL null)
    by (inr rest) =
        let l2 = one_or_more o op.SPEC_CONSTANT_OP _ i (one_or_more o op.SPEC_CONSTANT_COMPOSITE _ h (one_or_more o op.SPEC_CONSTANT _ g (one_or_more o op.SPEC_CONSTANT_FALSE _ f (one_or_more o op.SPEC_CONSTANT_TRUE _ e rest)))) in
        inr (eqb-true o op.UNDEF (either (nat_eq o op.UNDEF) l2))
      where
        either : (c : Bool) → (c || false) ≡ true → c ≡ true
        either true h = refl
        either false h = h

-- ---- shapes

pub shape_small : (insts : List Instruction) (table : Table) (t : ℕ) (s : Shape) → IsSoundType insts table t → shape insts t ≡ Some s → is_small (type_at table t) ≡ true
shape_small insts table t s sound e = by_vector (is_vector insts t) refl e
  where
    by_int : (n : Bool) → is_int insts t ≡ n → cond n (Some (record { is_boolean = false; count = 1 })) None ≡ Some s → is_small (type_at table t) ≡ true
    by_int true n e = ap (λ m. is_small (type_in m)) (sound.integer n)
    by_int false n e = cc

    by_bool : (b : Bool) → is_bool insts t ≡ b → cond b (Some (record { is_boolean = true; count = 1 })) (cond (is_int insts t) (Some (record { is_boolean = false; count = 1 })) None) ≡ Some s → is_small (type_at table t) ≡ true
    by_bool true b e = ap (λ m. is_small (type_in m)) (sound.boolean b)
    by_bool false b e = by_int (is_int insts t) refl e

    by_vector : (v : Bool) → is_vector insts t ≡ v → cond v (of_components insts (component insts t) (component_count insts t)) (of_components insts t 1) ≡ Some s → is_small (type_at table t) ≡ true
    by_vector true v e = vector_small insts table t sound v
    by_vector false v e = by_bool (is_bool insts t) refl e

-- the zeros of a shape
pub zeros_small : (insts : List Instruction) (k : ℕ) (i : Instruction) (ks : List (ℕ × Kept)) (t : ℕ) (s : Shape) (x : Operand) (c : Constant) → IsReady insts k i ks → IsBefore insts k t → shape insts t ≡ Some s →
    (s.count ≤ 4 → words_of x ≡ replicate s.count 0) → HasSmall x c → HasWords (table_before insts k) (type_at (table_before insts k) t) (zeros (type_at (table_before insts k) t)) c
zeros_small insts k i ks t s x c ready before e same has =
    let table = table_before insts k in
    let sound = sound_shape insts ready.next.instructions k t ready.next.unbroken ready.next.outside before s e in
    subst (λ (ws : List ℕ). HasWords table (type_at table t) ws c) (same sound.few ∙ ap (λ (n : ℕ). replicate n 0) (sym sound.sized))
    (has table (type_at table t) (shape_small insts table t s (next_sound insts k i ks ready t before) e))

none_scalar : (b n : Bool) (s u : Shape) → cond b (Some s) (cond n (Some u) None) ≡ None → (b ≡ false) × (n ≡ false)
none_scalar true n s u e = cc
none_scalar false true s u e = cc
none_scalar false false s u e = (refl, refl)

-- a closed type without a shape is an array or a struct
pub shapeless_large : (insts : List Instruction) (k : ℕ) (i : Instruction) (ks : List (ℕ × Kept)) (t : ℕ) → IsReady insts k i ks → IsBefore insts k t → shape insts t ≡ None → is_closed insts t ≡ true → is_small (type_at (table_before insts k) t) ≡ false
shapeless_large insts k i ks t ready before e closed =
    let sound = next_sound insts k i ks ready t before in
    let listed = (and_parts (is_data insts t) (not (ends_open insts t)) closed).0 in
    let plain = by_vector (is_vector insts t) refl e in
    let scalars = none_scalar (is_bool insts t) (is_int insts t) _ _ plain.1 in
    array_or_struct sound (left_over (is_bool insts t) (is_int insts t) (is_vector insts t) (is_array insts t) (is_struct insts t) scalars.0 scalars.1 plain.0 listed)
  where
    by_vector : (v : Bool) → is_vector insts t ≡ v → cond v (of_components insts (component insts t) (component_count insts t)) (of_components insts t 1) ≡ None → (is_vector insts t ≡ false) × (of_components insts t 1 ≡ None)
    by_vector true v e =
        let of = vector_of_scalars insts ready.next.instructions k t ready.next.unbroken ready.next.outside before v in
        let scalars = none_scalar (is_bool insts (component insts t)) (is_int insts (component insts t)) _ _ e in
        let no : true ≡ false = sym of.kind ∙ ap (λ (b : Bool). b || is_int insts (component insts t)) scalars.0 ∙ scalars.1 in
        cc
    by_vector false v e = (v, e)

    left_over : (b n v a s : Bool) → b ≡ false → n ≡ false → v ≡ false → (b || (n || (v || (a || (s || false))))) ≡ true → (a ≡ true) ⊎ (s ≡ true)
    left_over true n v a s eb en ev h = cc
    left_over false true v a s eb en ev h = cc
    left_over false false true a s eb en ev h = cc
    left_over false false false true s eb en ev h = inl refl
    left_over false false false false true eb en ev h = inr refl
    left_over false false false false false eb en ev h = cc

    array_or_struct : IsSoundType insts (table_before insts k) t → (is_array insts t ≡ true) ⊎ (is_struct insts t ≡ true) → is_small (type_at (table_before insts k) t) ≡ false
    array_or_struct sound (inl a) = ap (λ m. is_small (type_in m)) (sound.array a).1
    array_or_struct sound (inr s) = ap (λ m. is_small (type_in m)) (sound.struct s)

pub zeros_large : (insts : List Instruction) (k : ℕ) (i : Instruction) (ks : List (ℕ × Kept)) (t : ℕ) (c : Constant) (f : TypeFacts) → IsReady insts k i ks → IsBefore insts k t → shape insts t ≡ None → is_closed insts t ≡ true →
    f ≡ facts (type_at (table_before insts k) t) → c.value ≡ Zeros → c.cells ≡ f.cells → HasWords (table_before insts k) (type_at (table_before insts k) t) (zeros (type_at (table_before insts k) t)) c
zeros_large insts k i ks t c f ready before e closed is v n =
    let table = table_before insts k in
    let u = type_at table t in
    record {
      value = subst (λ v. IsValue table (length table) v u (zeros u)) (sym v) ((cells u, refl), shapeless_large insts k i ks t ready before e closed);
      cells = n ∙ ap (λ (f : TypeFacts). f.cells) is ∙ sym (ap in_64_bits (length-replicate (cells u) 0));
      parts = λ numbers h. absurd (subst (λ v. HasNumbers v numbers) v h);
    }

-- ---- operations

some_small : (insts : List Instruction) (table : Table) (t : ℕ) → IsSoundType insts table t → (o : Option Shape) → shape insts t ≡ o → is_some o ≡ true → is_small (type_at table t) ≡ true
some_small insts table t sound None e h = cc
some_small insts table t sound (Some s) e h = shape_small insts table t s sound e

has_some : (b : Bool) (n : ℕ) (o : Option Shape) → has_shape b n o ≡ true → is_some o ≡ true
has_some true n None h = cc
has_some false n None h = cc
has_some b n (Some s) h = refl

components_small : (insts : List Instruction) (table : Table) (t n : ℕ) (b : Bool) (x y : Bool) → IsSoundType insts table t → (x && (has_shape b n (shape insts t) && y)) ≡ true → is_small (type_at table t) ≡ true
components_small insts table t n b x y sound h =
    some_small insts table t sound (shape insts t) refl (has_some b n (shape insts t) (and_parts (has_shape b n (shape insts t)) y (and_parts x (has_shape b n (shape insts t) && y) h).1).0)

-- the result of an operation is a scalar or a vector
pub form_small : (insts : List Instruction) (table : Table) (t : ℕ) (form : Form) (ids : List ℕ) → IsSoundType insts table t → operands_fit insts form t ids ≡ true → is_small (type_at table t) ≡ true
form_small insts table t (Ints n) ids sound h = components_small insts table t (count_of (shape insts t)) false (length ids == n) _ sound h
form_small insts table t (Bools n) ids sound h = components_small insts table t (count_of (shape insts t)) true (length ids == n) _ sound h
form_small insts table t Compares ids sound h = components_small insts table t (count_of (shape insts t)) true (length ids == 2) _ sound h
form_small insts table t Selects [] sound h = cc
form_small insts table t Selects (c ∷ []) sound h = cc
form_small insts table t Selects (c ∷ a ∷ []) sound h = cc
form_small insts table t Selects (c ∷ a ∷ b ∷ []) sound h = some_small insts table t sound (shape insts t) refl (and_parts (is_some (shape insts t)) _ h).0
form_small insts table t Selects (c ∷ a ∷ b ∷ d ∷ ids) sound h = cc
form_small insts table t Shuffles [] sound h = cc
form_small insts table t Shuffles (a ∷ []) sound h = cc
form_small insts table t Shuffles (a ∷ b ∷ literals) sound h = vector_small insts table t sound (and_parts (is_vector insts t) _ h).0
form_small insts table t Extracts [] sound h = cc
form_small insts table t Extracts (c ∷ literals) sound h = some_small insts table t sound (shape insts t) refl (and_parts (is_some (shape insts t)) _ h).0
form_small insts table t Inserts [] sound h = cc
form_small insts table t Inserts (o ∷ []) sound h = cc
form_small insts table t Inserts (o ∷ c ∷ literals) sound h = some_small insts table t sound (shape insts t) refl (and_parts (is_some (shape insts t)) _ h).0

pub operation_declares : (insts : List Instruction) (k : ℕ) (i : Instruction) (ks : List (ℕ × Kept)) (x : Operand) (c : Constant) → IsReady insts k i ks → IsListed i → opcode i ≡ op.SPEC_CONSTANT_OP → HasSmall x c →
    ((t : DataType) (ws : List ℕ) → entry (says insts) (table_before insts k) i ≡ Some (slice_index i.words 2, IsConstant t ws) → words_of x ≡ ws) → DeclaresWords insts k i c
operation_declares insts k i ks x c ready listed is_o has same =
    let table = table_before insts k in
    let f = fitting-form insts i is_o ready.next.operation in
    let t = type_at table (slice_index i.words 1) in
    let ws = computed (computation_for f.form (slice_index i.words 3) (drop 4 i.words)) t (map (typed_at table) (operands_for f.form (drop 4 i.words))) in
    let e : entry (says insts) table i ≡ Some (slice_index i.words 2, IsConstant t ws) = operation-entry (says insts) table i f.form (ready.next.instructions k i ready.next.at) is_o f.is in
    let small = form_small insts table (slice_index i.words 1) f.form (drop 4 i.words) (result_sound insts k i ks ready listed) f.fit in
    record { type = t; words = ws; stands = e; has = subst (λ (vs : List ℕ). HasWords table t vs c) (same t ws e) (has table t small) }

-- ---- together

pub composite_at : (insts : List Instruction) (k : ℕ) (i : Instruction) (ks : List (ℕ × Kept)) (c : Constant) (t : ℕ) (ids : List ℕ) → IsReady insts k i ks → IsListed i → (opcode i ≡ op.CONSTANT_COMPOSITE) ⊎ (opcode i ≡ op.SPEC_CONSTANT_COMPOSITE) →
    t ≡ slice_index i.words 1 → ids ≡ drop 3 i.words → HasComposite insts k i t ids c → DeclaresWords insts k i c
composite_at insts k i ks c t ids ready listed is_o same others has =
    composite_declares insts k i ks c ready listed is_o
    (subst (λ (t : ℕ). HasComposite insts k i t (drop 3 i.words) c) same (subst (λ (ids : List ℕ). HasComposite insts k i t ids c) others has))

pub null_at : (insts : List Instruction) (k : ℕ) (i : Instruction) (ks : List (ℕ × Kept)) (c : Constant) (t : ℕ) → IsReady insts k i ks → IsListed i → (opcode i ≡ op.CONSTANT_NULL) ⊎ (opcode i ≡ op.UNDEF) →
    t ≡ slice_index i.words 1 → HasZeros insts k t c → DeclaresWords insts k i c
null_at insts k i ks c t ready listed is_o same has = null_declares insts k i ks c ready listed is_o (subst (λ (t : ℕ). HasZeros insts k t c) same has)

pub keeps : (insts : List Instruction) (k : ℕ) (i : Instruction) (c : Constant) → DeclaresWords insts k i c → c.is_specialised ≡ is_specialised (says insts) (declared_before insts k).specialised i → KeepsConstant insts (declared_before insts k) i c
keeps insts k i c h flag = record { type = h.type; words = h.words; stands = h.stands; value = h.has.value; cells = h.has.cells; flag = flag; parts = h.has.parts }

pub if_ok_both : {A E : Type 0} (P Q R : A → Type 0) (r : Result A E) → ((a : A) → P a → Q a → R a) → IfOk r P → IfOk r Q → IfOk r R
if_ok_both P Q R (Ok a) f h k = f a h k
if_ok_both P Q R (Err e) f h k = tt
