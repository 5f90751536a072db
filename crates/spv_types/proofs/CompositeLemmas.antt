-- Constants of constituents.
use Rattle.std.proofs.Common.{◌≡◌, ℕ, zero, suc, ◌+◌, ◌<◌, ◌≤◌, ◌^◌, Bool, true, false, cond, ◌==◌, ◌&&◌, ◌||◌, nat_le, List, [], ◌∷◌, ◌++◌, length, take, map, slice_index, Option, Some, None, Result, Ok, Err, ◌⊎◌, inl, inr, refl, sym, ap, subst, ◌∙◌, arith, append_assoc}
use Rattle.std.specs.List.{list_all}
use Rattle.std.specs.Result.{IfOk}
use Rattle.std.proofs.lemmas.List.{append-nil, length-append}
use Rattle.std.proofs.lemmas.Bool.{eqb-true, and_parts, or_cases, leb-true}
use Rattle.spv_opcodes.specs.declared.op.TheConstants as op
use Rattle.spv_grammar.specs.Table.{row_of}
use Rattle.spv_module.specs.Instruction.{Instruction}
use Rattle.spv_value.specs.declared.words.Operand.{Operand}
use Rattle.spv_value.specs.Words.{words_of}
use Rattle.spv_value.proofs.WordLists.{length-words_of}
use Rattle.spv_meaning.specs.Constants.{Table, Meaning, IsType, IsPointer, IsConstant, IsVariable, meaning, type_in, type_at, words_in, words_at, typed_in, typed_at, composed}
use Rattle.spv_meaning.specs.Types.{DataType, cells}
use Rattle.spv_ids.specs.Ids.{is_defined_before}
use Rattle.spv_typing.specs.Kinds.{is_bool, is_int, is_vector, is_array, is_struct, is_constant, has_type, type_of, component, component_count, element, length_id, members}
use Rattle.spv_declarations.specs.Constants.{composite_fits, has_length, are_of}
use Rattle.spv_declarations.specs.Declarations.{declared_before}
use Rattle.spv_declarations.specs.Sound.{AreInstructions, Unbroken, IsBefore, table_before, IsSoundType, IsSoundConstant}
use Rattle.spv_declarations.proofs.SoundTypes.{sound_type, vector-known, type-rule}
use Rattle.spv_declarations.proofs.Sites.{site-of, word-is}
use Rattle.spv_declarations.proofs.Tables.{stays-defined}
use Rattle.spv_types.specs.declared.meaning.Constant.{Constant}
use Rattle.spv_types.specs.declared.meaning.Kept.{Kept}
use Rattle.spv_types.specs.declared.meaning.Value.TheVariants.{Small}
use Rattle.spv_types.specs.Facts.{in_64_bits}
use Rattle.spv_types.specs.Meanings.{IsValue, is_small, joined, words_numbered}
use Rattle.spv_types.specs.Declaring.{AreSound, AreScalars, HasWords, IsReady}
use Rattle.spv_types.specs.Extracting.{HasNumbers}
use Rattle.spv_types.proofs.Room.{in_64_bits-fits}

-- ---- words of lists of constants

pub composed-append : (table : Table) (xs ys : List ℕ) → composed table (xs ++ ys) ≡ composed table xs ++ composed table ys
composed-append table [] ys = refl
composed-append table (x ∷ xs) ys = ap (λ ws. words_at table x ++ ws) (composed-append table xs ys) ∙ sym (append_assoc (words_at table x) (composed table xs) (composed table ys))

pub joined-append : (table : Table) (xs ys : List ℕ) → joined table (xs ++ ys) ≡ joined table xs ++ joined table ys
joined-append table [] ys = refl
joined-append table (x ∷ xs) ys = ap (λ ws. words_numbered table x ++ ws) (joined-append table xs ys) ∙ sym (append_assoc (words_numbered table x) (joined table xs) (joined table ys))

composed_suc : (table : Table) (ids : List ℕ) (i : ℕ) → i < length ids → composed table (take (suc i) ids) ≡ composed table (take i ids) ++ words_at table (slice_index ids i)
composed_suc table [] i h = absurd (omega arith)
composed_suc table (x ∷ xs) zero h = append-nil (words_at table x)
composed_suc table (x ∷ xs) (suc i) h =
    ap (λ ws. words_at table x ++ ws) (composed_suc table xs i (omega arith)) ∙ sym (append_assoc (words_at table x) (composed table (take i xs)) (words_at table (slice_index xs i)))

-- one constituent more
pub composed-next : (table : Table) (ids : List ℕ) (i : ℕ) → i < length ids → composed table (take (i + 1) ids) ≡ composed table (take i ids) ++ words_at table (slice_index ids i)
composed-next table ids i h = let next : i + 1 ≡ suc i = omega arith in ap (λ n. composed table (take n ids)) next ∙ composed_suc table ids i h

pub length-next : (table : Table) (ids : List ℕ) (i : ℕ) → i < length ids → length (composed table (take (i + 1) ids)) ≡ length (composed table (take i ids)) + length (words_at table (slice_index ids i))
length-next table ids i h = ap length (composed-next table ids i h) ∙ length-append (composed table (take i ids)) (words_at table (slice_index ids i))

-- ---- scalars

pub typed_words : (m : Option Meaning) → (typed_in m).words ≡ words_in m
typed_words None = refl
typed_words (Some (IsType t)) = refl
typed_words (Some (IsPointer class t)) = refl
typed_words (Some (IsConstant t words)) = refl
typed_words (Some (IsVariable class t words)) = refl

abbrev pub first_of : Table → ℕ → ℕ
first_of table id = slice_index (typed_at table id).words 0

only_word : (ws : List ℕ) → length ws ≡ 1 → slice_index ws 0 ∷ [] ≡ ws
only_word [] e = absurd (omega arith)
only_word (w ∷ []) e = refl
only_word (w ∷ v ∷ ws) e = absurd (omega arith)

pub scalars-composed : (table : Table) (ids : List ℕ) → AreScalars table ids → map (first_of table) ids ≡ composed table ids
scalars-composed table [] h = refl
scalars-composed table (id ∷ ids) h =
    ap (λ w. w ∷ map (first_of table) ids) (ap (λ ws. slice_index ws 0) (typed_words (meaning table id)))
    ∙ ap (λ ws. slice_index (words_at table id) 0 ∷ ws) (scalars-composed table ids h.1.1)
    ∙ ap (λ ws. ws ++ composed table ids) (only_word (words_at table id) h.1.0)

pub scalar-small : (table : Table) (ids : List ℕ) (i : ℕ) → i < length ids → AreScalars table ids → is_small (typed_at table (slice_index ids i)).type ≡ true
scalar-small table [] i less h = absurd (omega arith)
scalar-small table (id ∷ ids) zero less h = h.0
scalar-small table (id ∷ ids) (suc i) less h = scalar-small table ids i (omega arith) h.1.1

pub if_ok : {A E : Type 0} (P Q : A → Type 0) (r : Result A E) → ((a : A) → P a → Q a) → IfOk r P → IfOk r Q
if_ok P Q (Ok a) f h = f a h
if_ok P Q (Err e) f h = tt

-- ---- types

-- a vector has four components at most, which are booleans or integers
pub record IsVectorOf (insts : List Instruction) (k t : ℕ) : Type 0 where
  pub kind : (is_bool insts (component insts t) || is_int insts (component insts t)) ≡ true
  pub known : IsBefore insts k (component insts t)
  pub few : component_count insts t ≤ 4

pub vector_of_scalars : (insts : List Instruction) → AreInstructions insts → (k t : ℕ) → Unbroken insts k → (declared_before insts k).begun ≡ false → IsBefore insts k t → is_vector insts t ≡ true → IsVectorOf insts k t
unfolding row_of
vector_of_scalars insts whole k t clean outside before v =
    let site = site-of insts whole k t op.TYPE_VECTOR clean outside before v refl in
    let words = site.d.inst.words in
    let rule = and_parts (is_bool insts (slice_index words 2) || is_int insts (slice_index words 2)) (nat_le 2 (slice_index words 3) && nat_le (slice_index words 3) 4) (type-rule insts k t op.TYPE_VECTOR site) in
    let counts = and_parts (nat_le 2 (slice_index words 3)) (nat_le (slice_index words 3) 4) rule.1 in
    let known : is_defined_before insts site.d.place (component insts t) ≡ true = subst (λ (n : ℕ). is_defined_before insts site.d.place n ≡ true) (word-is insts k t 2 site.d) (vector-known insts k t site) in
    record {
      kind = subst (λ (n : ℕ). (is_bool insts n || is_int insts n) ≡ true) (word-is insts k t 2 site.d) rule.0;
      known = stays-defined insts site.d.place k (component insts t) (omega (arith, site.d.before)) known;
      few = subst (λ (n : ℕ). n ≤ 4) (word-is insts k t 3 site.d) (leb-true (slice_index words 3) 4 counts.1);
    }

-- a scalar has one word
pub record IsUnit (t : DataType) : Type 0 where
  pub small : is_small t ≡ true
  pub single : cells t ≡ 1

pub scalar_unit : (insts : List Instruction) (table : Table) (t : ℕ) → IsSoundType insts table t → (is_bool insts t || is_int insts t) ≡ true → IsUnit (type_at table t)
scalar_unit insts table t sound h = either (or_cases (is_bool insts t) (is_int insts t) h)
  where
    either : (is_bool insts t ≡ true) ⊎ (is_int insts t ≡ true) → IsUnit (type_at table t)
    either (inl b) = subst IsUnit (sym (ap type_in (sound.boolean b))) (record { small = refl; single = refl })
    either (inr i) = subst IsUnit (sym (ap type_in (sound.integer i))) (record { small = refl; single = refl })

-- a constant of a sound type
pub sound_typed : (insts : List Instruction) (table : Table) (id : ℕ) (h : IsSoundConstant insts table id) → (typed_at table id).type ≡ type_at table (type_of insts id)
sound_typed insts table id h = ap (λ m. (typed_in m).type) h.stands

pub sound_words : (insts : List Instruction) (table : Table) (id : ℕ) (h : IsSoundConstant insts table id) → length (words_at table id) ≡ cells (type_at table (type_of insts id))
sound_words insts table id h = ap (λ m. length (words_in m)) h.stands ∙ h.sized

-- induction on the constituents
pub scalars_hold : (insts : List Instruction) (k c : ℕ) → AreSound insts k → IsUnit (type_at (table_before insts k) c) → (ids : List ℕ) → list_all (is_defined_before insts k) ids ≡ true → list_all (has_type insts c) ids ≡ true →
    AreScalars (table_before insts k) ids
scalars_hold insts k c sound unit [] known typed = tt
scalars_hold insts k c sound unit (id ∷ ids) known typed =
    let table = table_before insts k in
    let known_both = and_parts (is_defined_before insts k id) (list_all (is_defined_before insts k) ids) known in
    let typed_both = and_parts (has_type insts c id) (list_all (has_type insts c) ids) typed in
    let parts = and_parts (is_constant insts id) (type_of insts id == c) typed_both.0 in
    let h = sound.constants id known_both.0 parts.0 in
    let same : type_at table (type_of insts id) ≡ type_at table c = ap (type_at table) (eqb-true (type_of insts id) c parts.1) in
    (ap is_small (sound_typed insts table id h ∙ same) ∙ unit.small, (sound_words insts table id h ∙ ap cells same ∙ unit.single, scalars_hold insts k c sound unit ids known_both.1 typed_both.1))

-- ---- composites

pub next_sound : (insts : List Instruction) (k : ℕ) (i : Instruction) (ks : List (ℕ × Kept)) → IsReady insts k i ks → (t : ℕ) → IsBefore insts k t → IsSoundType insts (table_before insts k) t
next_sound insts k i ks ready t before = sound_type insts ready.next.instructions k t ready.next.unbroken ready.next.outside before

-- a vector's constituents
pub vector_constituents : (insts : List Instruction) (k : ℕ) (i : Instruction) (ks : List (ℕ × Kept)) (t : ℕ) (ids : List ℕ) → IsReady insts k i ks → IsBefore insts k t → is_vector insts t ≡ true →
    list_all (is_defined_before insts k) ids ≡ true → composite_fits insts (declared_before insts k) t ids ≡ true → (length ids ≤ 4) × AreScalars (table_before insts k) ids
vector_constituents insts k i ks t ids ready before v known fits =
    let of = vector_of_scalars insts ready.next.instructions k t ready.next.unbroken ready.next.outside before v in
    let c = component insts t in
    let both = and_parts (component_count insts t == length ids) (list_all (has_type insts c) ids) (vector_rule (is_vector insts t) _ _ v fits) in
    let unit = scalar_unit insts (table_before insts k) c (next_sound insts k i ks ready c of.known) of.kind in
    (subst (λ (n : ℕ). n ≤ 4) (eqb-true (component_count insts t) (length ids) both.0) of.few, scalars_hold insts k c ready.sound unit ids known both.1)
  where
    vector_rule : (b x y : Bool) → b ≡ true → cond b x y ≡ true → x ≡ true
    vector_rule true x y e h = h
    vector_rule false x y e h = cc

pub vector_small : (insts : List Instruction) (table : Table) (t : ℕ) → IsSoundType insts table t → is_vector insts t ≡ true → is_small (type_at table t) ≡ true
vector_small insts table t sound v = ap (λ m. is_small (type_in m)) (sound.vector v)

pub vector_words : (insts : List Instruction) (k : ℕ) (i : Instruction) (ks : List (ℕ × Kept)) (t : ℕ) (ids : List ℕ) (x : Operand) (c : Constant) → IsReady insts k i ks → IsBefore insts k t → is_vector insts t ≡ true →
    list_all (is_defined_before insts k) ids ≡ true → composite_fits insts (declared_before insts k) t ids ≡ true →
    ((length ids ≤ 4) → AreScalars (table_before insts k) ids → words_of x ≡ composed (table_before insts k) ids) →
    (is_small (type_at (table_before insts k) t) ≡ true → HasWords (table_before insts k) (type_at (table_before insts k) t) (words_of x) c) →
    HasWords (table_before insts k) (type_at (table_before insts k) t) (composed (table_before insts k) ids) c
vector_words insts k i ks t ids x c ready before v known fits same has =
    let table = table_before insts k in
    let of = vector_constituents insts k i ks t ids ready before v known fits in
    subst (λ ws. HasWords table (type_at table t) ws c) (same of.0 of.1) (has (vector_small insts table t (next_sound insts k i ks ready t before) v))

composite_large : (insts : List Instruction) (table : Table) (t : ℕ) (ids : List ℕ) (array_rule struct_rule : Bool) → IsSoundType insts table t → (a : Bool) → is_array insts t ≡ a → cond a array_rule (is_struct insts t && struct_rule) ≡ true → is_small (type_at table t) ≡ false
composite_large insts table t ids x y sound true e fits = ap (λ m. is_small (type_in m)) (sound.array e).1
composite_large insts table t ids x y sound false e fits = ap (λ m. is_small (type_in m)) (sound.struct (and_parts (is_struct insts t) y fits).0)

-- an array or a struct is neither a scalar nor a vector
pub parts_large : (insts : List Instruction) (k : ℕ) (i : Instruction) (ks : List (ℕ × Kept)) (t : ℕ) (ids : List ℕ) → IsReady insts k i ks → IsBefore insts k t → is_vector insts t ≡ false →
    composite_fits insts (declared_before insts k) t ids ≡ true → is_small (type_at (table_before insts k) t) ≡ false
parts_large insts k i ks t ids ready before v fits =
    let d = declared_before insts k in
    let array_rule = has_length d (length_id insts t) (length ids) && list_all (has_type insts (element insts t)) ids in
    composite_large insts (table_before insts k) t ids array_rule (are_of insts (members insts t) ids) (next_sound insts k i ks ready t before) (is_array insts t) refl (other_rule (is_vector insts t) _ _ v fits)
  where
    other_rule : (b x y : Bool) → b ≡ false → cond b x y ≡ true → y ≡ true
    other_rule true x y e h = cc
    other_rule false x y e h = h

pub small_words : (table : Table) (t : DataType) (x : Operand) (c : Constant) → c.value ≡ Small x → c.cells ≡ Some x.len → x.len < 2 ^ 64 → is_small t ≡ true → HasWords table t (words_of x) c
small_words table t x c v n fits small = record {
  value = subst (λ v. IsValue table (length table) v t (words_of x)) (sym v) (refl, small);
  cells = n ∙ sym (in_64_bits-fits x.len fits) ∙ ap in_64_bits (sym (length-words_of x));
  parts = λ numbers h. absurd (subst (λ v. HasNumbers v numbers) v h);
}
