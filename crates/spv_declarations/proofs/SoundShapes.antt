-- What a scalar or a vector is: how many words a value has, and which are booleans.
use Rattle.std.proofs.Common.{◌≡◌, ℕ, ◌≤◌, Bool, true, false, cond, ◌==◌, ◌&&◌, nat_le, List, [], ◌∷◌, length, Some, None, refl, sym, ap, subst, ◌∙◌, arith}
use Rattle.std.specs.List.{slice_index}
use Rattle.std.proofs.lemmas.Bool.{and_parts, leb-true}
use Rattle.spv_opcodes.specs.declared.op.TheConstants as op
use Rattle.spv_grammar.specs.Table.{row_of}
use Rattle.spv_module.specs.Instruction.{Instruction}
use Rattle.spv_value.specs.Eval.{AreBooleanWords}
use Rattle.spv_meaning.specs.Constants.{Table, type_in, type_at}
use Rattle.spv_meaning.specs.Types.{DataType, Boolean, Integer, Vector, copies, cells, booleans}
use Rattle.spv_ids.specs.Ids.{word_of, is_defined_before}
use Rattle.spv_typing.specs.Kinds.{is_bool, is_int, is_vector, component, component_count}
use Rattle.spv_typing.specs.declared.shapes.Shape.{Shape}
use Rattle.spv_typing.specs.Operations.{shape, of_components}
use Rattle.spv_declarations.specs.Declarations.{declared_before}
use Rattle.spv_declarations.specs.Sound.{AreInstructions, Unbroken, IsBefore, table_before, IsSoundType, IsSoundShape}
use Rattle.spv_declarations.proofs.Tables.{stays-defined}
use Rattle.spv_declarations.proofs.Sites.{Site, site-of, word-is}
use Rattle.spv_declarations.proofs.SoundTypes.{sound_type, vector-known, type-rule}
use Rattle.spv_declarations.proofs.Words.{AreWordsOf, words-booleans, words-number, OneWord, length-booleans, length-copies}

-- so many components, one to four, of the kind that the shape says
pub record Shaped (t : DataType) (s : Shape) : Type 0 where
  pub some : 1 ≤ s.count
  pub few : s.count ≤ 4
  pub kinds : booleans t ≡ copies s.count (s.is_boolean ∷ [])

pub shaped-cells : (t : DataType) (s : Shape) → Shaped t s → cells t ≡ s.count
shaped-cells t s h = sym (length-booleans t) ∙ ap (λ (bs : List Bool). length bs) h.kinds ∙ length-copies s.count (s.is_boolean ∷ []) ∙ omega arith

-- a component
pub record Component (t : DataType) (s : Shape) (n : ℕ) : Type 0 where
  pub counts : s.count ≡ n
  pub kinds : booleans t ≡ s.is_boolean ∷ []

component_by : (t : DataType) (n : ℕ) (is_bool is_int signed : Bool) (s : Shape) → (is_bool ≡ true → t ≡ Boolean) →
    (is_int ≡ true → t ≡ Integer 32 signed) →
    cond is_bool (Some (record { is_boolean = true; count = n })) (cond is_int (Some (record { is_boolean = false; count = n })) None) ≡ Some s →
    Component t s n
component_by t n true is_int signed s boolean integer e =
    let same = some_is (record { is_boolean = true; count = n }) s e in
    record { counts = ap (λ (s : Shape). s.count) (sym same); kinds = ap booleans (boolean refl) ∙ ap (λ (s : Shape). s.is_boolean ∷ []) same }
  where
    some_is : (a b : Shape) → Some a ≡ Some b → a ≡ b
    some_is a b e = cc
component_by t n false true signed s boolean integer e =
    let same = some_is (record { is_boolean = false; count = n }) s e in
    record { counts = ap (λ (s : Shape). s.count) (sym same); kinds = ap booleans (integer refl) ∙ ap (λ (s : Shape). s.is_boolean ∷ []) same }
  where
    some_is : (a b : Shape) → Some a ≡ Some b → a ≡ b
    some_is a b e = cc
component_by t n false false signed s boolean integer e = cc

component_of : (insts : List Instruction) (table : Table) (c n : ℕ) (s : Shape) → IsSoundType insts table c → of_components insts c n ≡ Some s →
    Component (type_at table c) s n
component_of insts table c n s sound e =
    component_by (type_at table c) n (is_bool insts c) (is_int insts c) (word_of insts c 3 == 1) s (λ h. ap type_in (sound.boolean h))
    (λ h. ap type_in (sound.integer h)) e

scalar_shaped : (t : DataType) (s : Shape) → Component t s 1 → Shaped t s
scalar_shaped t s c = record {
  some = omega (arith, c.counts);
  few = omega (arith, c.counts);
  kinds = c.kinds ∙ ap (λ (n : ℕ). copies n (s.is_boolean ∷ [])) (sym c.counts);
}

vector_shaped : (t : DataType) (n : ℕ) (s : Shape) → Component t s n → 1 ≤ n → n ≤ 4 → Shaped (Vector n t) s
vector_shaped t n s c some few = record {
  some = omega (arith, c.counts, some);
  few = omega (arith, c.counts, few);
  kinds = ap (λ (bs : List Bool). copies n bs) c.kinds ∙ ap (λ (m : ℕ). copies m (s.is_boolean ∷ [])) (sym c.counts);
}

-- a vector has two to four components
vector_counts : (insts : List Instruction) (k t : ℕ) (s : Site insts k t op.TYPE_VECTOR) →
    (2 ≤ component_count insts t) × (component_count insts t ≤ 4)
vector_counts insts k t s =
    let words = s.d.inst.words in
    let rule = and_parts _ (nat_le 2 (slice_index words 3) && nat_le (slice_index words 3) 4) (type-rule insts k t op.TYPE_VECTOR s) in
    let counts = and_parts (nat_le 2 (slice_index words 3)) (nat_le (slice_index words 3) 4) rule.1 in
    let same = word-is insts k t 3 s.d in
    (subst (λ (n : ℕ). 2 ≤ n) same (leb-true 2 (slice_index words 3) counts.0), subst (λ (n : ℕ). n ≤ 4) same (leb-true (slice_index words 3) 4 counts.1))

shape_by : (insts : List Instruction) → AreInstructions insts → (k t : ℕ) → Unbroken insts k → (declared_before insts k).begun ≡ false →
    IsBefore insts k t → (s : Shape) (vector : Bool) → is_vector insts t ≡ vector →
    cond vector (of_components insts (component insts t) (component_count insts t)) (of_components insts t 1) ≡ Some s →
    Shaped (type_at (table_before insts k) t) s
unfolding row_of
shape_by insts whole k t clean outside before s true v e =
    let site = site-of insts whole k t op.TYPE_VECTOR clean outside before v refl in
    let known : is_defined_before insts site.d.place (component insts t) ≡ true =
    subst (λ (n : ℕ). is_defined_before insts site.d.place n ≡ true) (word-is insts k t 2 site.d) (vector-known insts k t site) in
    let part_before = stays-defined insts site.d.place k (component insts t) (omega (arith, site.d.before)) known in
    let part =
    component_of insts (table_before insts k) (component insts t) (component_count insts t) s
    (sound_type insts whole k (component insts t) clean outside part_before) e in
    let counts = vector_counts insts k t site in
    subst (λ (u : DataType). Shaped u s) (sym (ap type_in ((sound_type insts whole k t clean outside before).vector v)))
    (vector_shaped (type_at (table_before insts k) (component insts t)) (component_count insts t) s part (omega (arith, counts.0)) counts.1)
shape_by insts whole k t clean outside before s false v e =
    scalar_shaped (type_at (table_before insts k) t) s
    (component_of insts (table_before insts k) t 1 s (sound_type insts whole k t clean outside before) e)

pub shaped : (insts : List Instruction) → AreInstructions insts → (k t : ℕ) → Unbroken insts k → (declared_before insts k).begun ≡ false →
    IsBefore insts k t → (s : Shape) → shape insts t ≡ Some s → Shaped (type_at (table_before insts k) t) s
shaped insts whole k t clean outside before s e = shape_by insts whole k t clean outside before s (is_vector insts t) refl e

-- no rule is broken, and no function has begun: the shape of a type before
pub sound_shape : (insts : List Instruction) → AreInstructions insts → (k t : ℕ) → Unbroken insts k → (declared_before insts k).begun ≡ false →
    IsBefore insts k t → (s : Shape) → shape insts t ≡ Some s → IsSoundShape insts (table_before insts k) t s
sound_shape insts whole k t clean outside before s e =
    let h = shaped insts whole k t clean outside before s e in
    record { some = h.some; few = h.few; sized = shaped-cells (type_at (table_before insts k) t) s h }

-- ---- words of a shape

booleans_by : (P : ℕ → Type 0) (s : Shape) (ws : List ℕ) → s.is_boolean ≡ true → AreWordsOf P (copies s.count (s.is_boolean ∷ [])) ws →
    AreBooleanWords ws
booleans_by P s ws b h = words-booleans P s.count ws (subst (λ (b : Bool). AreWordsOf P (copies s.count (b ∷ [])) ws) b h)

pub shaped-booleans : (P : ℕ → Type 0) (t : DataType) (s : Shape) (ws : List ℕ) → Shaped t s → s.is_boolean ≡ true → AreWordsOf P (booleans t) ws →
    AreBooleanWords ws
shaped-booleans P t s ws shaped b h = booleans_by P s ws b (subst (λ (bs : List Bool). AreWordsOf P bs ws) shaped.kinds h)

pub shaped-number : (P : ℕ → Type 0) (t : DataType) (s : Shape) (ws : List ℕ) → Shaped t s → s.is_boolean ≡ false → s.count ≡ 1 →
    AreWordsOf P (booleans t) ws → OneWord P ws
shaped-number P t s ws shaped b one h =
    words-number P ws
    (subst (λ (n : ℕ). AreWordsOf P (copies n (false ∷ [])) ws) one (subst (λ (b : Bool). AreWordsOf P (copies s.count (b ∷ [])) ws) b (subst (λ (bs : List Bool). AreWordsOf P bs ws) shaped.kinds h)))
