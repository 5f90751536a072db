-- The operands of OpSpecConstantOp are constants of words that suit its operation.
use Rattle.std.proofs.Common.{◌≡◌, ℕ, zero, suc, ◌≤◌, Bool, true, false, not, ◌==◌, ◌&&◌, ◌||◌, List, [], ◌∷◌, length, map, Option, Some, None, ◌⊎◌, inl, inr, refl, sym, ap, subst, ◌∙◌, arith}
use Rattle.std.specs.List.{list_all, All}
use Rattle.std.specs.Option.{is_some}
use Rattle.std.proofs.lemmas.List.{length-map}
use Rattle.std.proofs.lemmas.Bool.{eqb-true, and_parts, or_cases}
use Rattle.std.proofs.lemmas.Bool.Decides.{nat_tests}
use Rattle.spv_module.specs.Instruction.{Instruction}
use Rattle.spv_value.specs.Eval.{AreBooleanWords}
use Rattle.spv_meaning.specs.Computations.{Typed}
use Rattle.spv_meaning.specs.Constants.{Table, meaning, typed_at}
use Rattle.spv_ids.specs.Ids.{is_defined_before}
use Rattle.spv_typing.specs.declared.operations.Form.{Form}
use Rattle.spv_typing.specs.declared.operations.Form.TheVariants.{Ints, Bools, Compares, Selects}
use Rattle.spv_typing.specs.declared.shapes.Shape.{Shape}
use Rattle.spv_typing.specs.Kinds.{is_constant, type_of, has_type}
use Rattle.spv_typing.specs.Operations.{shape, has_shape, count_of, all_shaped, components_fit, condition_fits, operands_fit}
use Rattle.spv_declarations.specs.Sound.{IsBefore, table_before}
use Rattle.spv_declarations.proofs.SoundConstants.{type_before}
use Rattle.spv_declarations.proofs.SoundShapes.{sound_shape}
use Rattle.spv_folding.specs.Folding.{AreOperands, AreComponents}
use Rattle.spv_types.specs.declared.meaning.Kept.{Kept}
use Rattle.spv_types.specs.Meanings.{is_small}
use Rattle.spv_types.specs.Declaring.{IsReady, AreSmall}
use Rattle.spv_types.proofs.CompositeLemmas.{typed_words, sound_typed, sound_words, next_sound}
use Rattle.spv_types.proofs.OpcodeLemmas.{shape_small}

-- ---- shapes

pub record IsShape (b : Bool) (n : ℕ) (o : Option Shape) : Type 0 where
  pub shape : Shape
  pub is : o ≡ Some shape
  pub kind : shape.is_boolean ≡ b
  pub count : shape.count ≡ n

pub shape_of : (b : Bool) (n : ℕ) (o : Option Shape) → has_shape b n o ≡ true → IsShape b n o
shape_of true n None h = cc
shape_of false n None h = cc
shape_of true n (Some s) h =
    let both = and_parts s.is_boolean (s.count == n) h in
    record { shape = s; is = refl; kind = both.0; count = eqb-true s.count n both.1 }
shape_of false n (Some s) h =
    let both = and_parts (not s.is_boolean) (s.count == n) h in
    record { shape = s; is = refl; kind = not_true s.is_boolean both.0; count = eqb-true s.count n both.1 }
  where
    not_true : (b : Bool) → not b ≡ true → b ≡ false
    not_true true h = cc
    not_true false h = refl

-- a constant of so many components
pub record IsShaped (table : Table) (b : Bool) (n id : ℕ) : Type 0 where
  pub small : is_small (typed_at table id).type ≡ true
  pub sized : length (typed_at table id).words ≡ n
  pub some : 1 ≤ n
  pub few : n ≤ 4
  pub booleans : b ≡ true → AreBooleanWords (typed_at table id).words

pub constant_shaped : (insts : List Instruction) (k : ℕ) (i : Instruction) (ks : List (ℕ × Kept)) → IsReady insts k i ks → (b : Bool) (n id : ℕ) → IsBefore insts k id → is_constant insts id ≡ true →
    has_shape b n (shape insts (type_of insts id)) ≡ true → IsShaped (table_before insts k) b n id
constant_shaped insts k i ks ready b n id known is h =
    let table = table_before insts k in
    let t = type_of insts id in
    let next = ready.next in
    let c = ready.sound.constants id known is in
    let before = type_before insts next.instructions k id next.unbroken next.outside known is in
    let s = shape_of b n (shape insts t) h in
    let sound = sound_shape insts next.instructions k t next.unbroken next.outside before s.shape s.is in
    record {
      small = ap is_small (sound_typed insts table id c) ∙ shape_small insts table t s.shape (next_sound insts k i ks ready t before) s.is;
      sized = ap length (typed_words (meaning table id)) ∙ sound_words insts table id c ∙ sound.sized ∙ s.count;
      some = subst (λ (m : ℕ). 1 ≤ m) s.count sound.some;
      few = subst (λ (m : ℕ). m ≤ 4) s.count sound.few;
      booleans = λ e. subst AreBooleanWords (sym (typed_words (meaning table id))) (ready.sound.booleans id s.shape known is s.is (s.kind ∙ e));
    }

abbrev pub AreShaped : Table → (b : Bool) (n : ℕ) → List ℕ → Type 0
AreShaped table b n [] = Unit {0}
AreShaped table b n (id ∷ ids) = IsShaped table b n id × AreShaped table b n ids

-- induction on the constants
all_are_shaped : (insts : List Instruction) (k : ℕ) (i : Instruction) (ks : List (ℕ × Kept)) → IsReady insts k i ks → (b : Bool) (n : ℕ) (ids : List ℕ) → list_all (is_defined_before insts k) ids ≡ true →
    all_shaped insts b n ids ≡ true → AreShaped (table_before insts k) b n ids
all_are_shaped insts k i ks ready b n [] known h = tt
all_are_shaped insts k i ks ready b n (id ∷ ids) known h =
    let known_both = and_parts (is_defined_before insts k id) (list_all (is_defined_before insts k) ids) known in
    let both = and_parts (is_constant insts id && has_shape b n (shape insts (type_of insts id))) (all_shaped insts b n ids) h in
    let one = and_parts (is_constant insts id) (has_shape b n (shape insts (type_of insts id))) both.0 in
    (constant_shaped insts k i ks ready b n id known_both.0 one.0 one.1, all_are_shaped insts k i ks ready b n ids known_both.1 both.1)

-- the words of constants
abbrev pub words_all : Table → List ℕ → List (List ℕ)
words_all table ids = map (λ (v : Typed). v.words) (map (typed_at table) ids)

shaped-small : (table : Table) (b : Bool) (n : ℕ) (ids : List ℕ) → AreShaped table b n ids → AreSmall table ids
shaped-small table b n [] h = tt
shaped-small table b n (id ∷ ids) h = (h.0.small, shaped-small table b n ids h.1)

shaped-sized : (table : Table) (b : Bool) (n : ℕ) (ids : List ℕ) → AreShaped table b n ids → All (λ ws. length ws ≡ n) (words_all table ids)
shaped-sized table b n [] h k d less = absurd (omega arith)
shaped-sized table b n (id ∷ ids) h zero d less = h.0.sized
shaped-sized table b n (id ∷ ids) h (suc k) d less = shaped-sized table b n ids h.1 k d (omega arith)

shaped-booleans_all : (table : Table) (n : ℕ) (ids : List ℕ) → AreShaped table true n ids → All AreBooleanWords (words_all table ids)
shaped-booleans_all table n [] h k d less = absurd (omega arith)
shaped-booleans_all table n (id ∷ ids) h zero d less = h.0.booleans refl
shaped-booleans_all table n (id ∷ ids) h (suc k) d less = shaped-booleans_all table n ids h.1 k d (omega arith)

-- ---- operands by the form

pub record AreSuited (table : Table) (form : Form) (ids : List ℕ) : Type 0 where
  pub small : AreSmall table ids
  pub count : ℕ
  pub suited : AreOperands form count (words_all table ids)

record AreFitted (insts : List Instruction) (k n : ℕ) (b : Bool) (ids : List ℕ) : Type 0 where
  pub count : ℕ
  pub some : 1 ≤ count
  pub few : count ≤ 4
  pub many : length ids ≡ n
  pub shaped : AreShaped (table_before insts k) b count ids

fitted : (insts : List Instruction) (k : ℕ) (i : Instruction) (ks : List (ℕ × Kept)) → IsReady insts k i ks → (n t : ℕ) (b gives : Bool) (ids : List ℕ) → IsBefore insts k t → list_all (is_defined_before insts k) ids ≡ true →
    components_fit insts n b gives t ids ≡ true → AreFitted insts k n b ids
fitted insts k i ks ready n t b gives ids before known h =
    let count = count_of (shape insts t) in
    let one = and_parts (length ids == n) (has_shape gives count (shape insts t) && all_shaped insts b count ids) h in
    let two = and_parts (has_shape gives count (shape insts t)) (all_shaped insts b count ids) one.1 in
    let s = shape_of gives count (shape insts t) two.0 in
    let next = ready.next in
    let sound = sound_shape insts next.instructions k t next.unbroken next.outside before s.shape s.is in
    record {
      count = count;
      some = subst (λ (m : ℕ). 1 ≤ m) s.count sound.some;
      few = subst (λ (m : ℕ). m ≤ 4) s.count sound.few;
      many = eqb-true (length ids) n one.0;
      shaped = all_are_shaped insts k i ks ready b count ids known two.1;
    }

length-words_all : (table : Table) (ids : List ℕ) → length (words_all table ids) ≡ length ids
length-words_all table ids = length-map (map (typed_at table) ids) (λ (v : Typed). v.words) ∙ length-map ids (typed_at table)

fitted_components : (insts : List Instruction) (k n : ℕ) (b : Bool) (ids : List ℕ) (f : AreFitted insts k n b ids) → AreComponents n f.count (words_all (table_before insts k) ids)
fitted_components insts k n b ids f = record {
  some = f.some;
  few = f.few;
  count = length-words_all (table_before insts k) ids ∙ f.many;
  sized = shaped-sized (table_before insts k) b f.count ids f.shaped;
}

pub ints_suited : (insts : List Instruction) (k : ℕ) (i : Instruction) (ks : List (ℕ × Kept)) → IsReady insts k i ks → (n t : ℕ) (ids : List ℕ) → IsBefore insts k t → list_all (is_defined_before insts k) ids ≡ true →
    operands_fit insts (Ints n) t ids ≡ true → AreSuited (table_before insts k) (Ints n) ids
ints_suited insts k i ks ready n t ids before known h =
    let f = fitted insts k i ks ready n t false false ids before known h in
    record { small = shaped-small (table_before insts k) false f.count ids f.shaped; count = f.count; suited = fitted_components insts k n false ids f }

pub bools_suited : (insts : List Instruction) (k : ℕ) (i : Instruction) (ks : List (ℕ × Kept)) → IsReady insts k i ks → (n t : ℕ) (ids : List ℕ) → IsBefore insts k t → list_all (is_defined_before insts k) ids ≡ true →
    operands_fit insts (Bools n) t ids ≡ true → AreSuited (table_before insts k) (Bools n) ids
bools_suited insts k i ks ready n t ids before known h =
    let f = fitted insts k i ks ready n t true true ids before known h in
    record {
      small = shaped-small (table_before insts k) true f.count ids f.shaped;
      count = f.count;
      suited = record { components = fitted_components insts k n true ids f; booleans = shaped-booleans_all (table_before insts k) f.count ids f.shaped };
    }

pub compares_suited : (insts : List Instruction) (k : ℕ) (i : Instruction) (ks : List (ℕ × Kept)) → IsReady insts k i ks → (t : ℕ) (ids : List ℕ) → IsBefore insts k t → list_all (is_defined_before insts k) ids ≡ true →
    operands_fit insts Compares t ids ≡ true → AreSuited (table_before insts k) Compares ids
compares_suited insts k i ks ready t ids before known h =
    let f = fitted insts k i ks ready 2 t false true ids before known h in
    record { small = shaped-small (table_before insts k) false f.count ids f.shaped; count = f.count; suited = fitted_components insts k 2 false ids f }

-- a constant of the result's type
value_shaped : (insts : List Instruction) (k : ℕ) (i : Instruction) (ks : List (ℕ × Kept)) → IsReady insts k i ks → (t id : ℕ) (s : Shape) → shape insts t ≡ Some s → IsBefore insts k id → has_type insts t id ≡ true →
    IsShaped (table_before insts k) s.is_boolean s.count id
value_shaped insts k i ks ready t id s e known typed =
    let both = and_parts (is_constant insts id) (type_of insts id == t) typed in
    constant_shaped insts k i ks ready s.is_boolean s.count id known both.0 (itself s (shape insts (type_of insts id)) (ap (shape insts) (eqb-true (type_of insts id) t both.1) ∙ e))
  where
    same_count : (n : ℕ) → (n == n) ≡ true
    same_count n = grind (arith, nat_tests)

    by_kind : (b : Bool) (n : ℕ) → has_shape b n (Some (record { is_boolean = b; count = n })) ≡ true
    by_kind true n = same_count n
    by_kind false n = same_count n

    itself : (s : Shape) (o : Option Shape) → o ≡ Some s → has_shape s.is_boolean s.count o ≡ true
    itself s o e = ap (has_shape s.is_boolean s.count) e ∙ by_kind s.is_boolean s.count

pub some_shape : (o : Option Shape) → is_some o ≡ true → (s : Shape) × (o ≡ Some s)
some_shape None h = cc
some_shape (Some s) h = (s, refl)

pub selects_suited : (insts : List Instruction) (k : ℕ) (i : Instruction) (ks : List (ℕ × Kept)) → IsReady insts k i ks → (t : ℕ) (ids : List ℕ) → IsBefore insts k t → list_all (is_defined_before insts k) ids ≡ true →
    operands_fit insts Selects t ids ≡ true → AreSuited (table_before insts k) Selects ids
selects_suited insts k i ks ready t [] before known h = cc
selects_suited insts k i ks ready t (c ∷ []) before known h = cc
selects_suited insts k i ks ready t (c ∷ a ∷ []) before known h = cc
selects_suited insts k i ks ready t (c ∷ a ∷ b ∷ d ∷ ids) before known h = cc
selects_suited insts k i ks ready t (c ∷ a ∷ b ∷ []) before known h =
    let table = table_before insts k in
    let count = count_of (shape insts t) in
    let k1 = and_parts (is_defined_before insts k c) (list_all (is_defined_before insts k) (a ∷ b ∷ [])) known in
    let k2 = and_parts (is_defined_before insts k a) (list_all (is_defined_before insts k) (b ∷ [])) k1.1 in
    let k3 = and_parts (is_defined_before insts k b) true k2.1 in
    let one = and_parts (is_some (shape insts t)) (condition_fits insts count c && (has_type insts t a && has_type insts t b)) h in
    let two = and_parts (condition_fits insts count c) (has_type insts t a && has_type insts t b) one.1 in
    let values = and_parts (has_type insts t a) (has_type insts t b) two.1 in
    let cs = and_parts (is_constant insts c) (has_shape true 1 (shape insts (type_of insts c)) || has_shape true count (shape insts (type_of insts c))) two.0 in
    let s = some_shape (shape insts t) one.0 in
    let counts : count ≡ s.0.count = ap count_of s.1 in
    let first = value_shaped insts k i ks ready t a s.0 s.1 k2.0 values.0 in
    let second = value_shaped insts k i ks ready t b s.0 s.1 k3.0 values.1 in
    let condition = either (constant_shaped insts k i ks ready true 1 c k1.0 cs.0) (constant_shaped insts k i ks ready true count c k1.0 cs.0) (or_cases (has_shape true 1 (shape insts (type_of insts c))) (has_shape true count (shape insts (type_of insts c))) cs.1) in
    record {
      small = (condition_small table count condition, (first.small, (second.small, tt)));
      count = s.0.count;
      suited = record {
        some = first.some;
        few = first.few;
        count = refl;
        condition = condition_sized table count s.0.count counts condition;
        booleans = condition_boolean table count condition;
        first = first.sized;
        second = second.sized;
      };
    }
  where
    either : {A B C D : Type 0} → (A → B) → (C → D) → A ⊎ C → B ⊎ D
    either f g (inl a) = inl (f a)
    either f g (inr b) = inr (g b)

    condition_small : (table : Table) (n : ℕ) → IsShaped table true 1 c ⊎ IsShaped table true n c → is_small (typed_at table c).type ≡ true
    condition_small table n (inl x) = x.small
    condition_small table n (inr x) = x.small

    condition_boolean : (table : Table) (n : ℕ) → IsShaped table true 1 c ⊎ IsShaped table true n c → AreBooleanWords (typed_at table c).words
    condition_boolean table n (inl x) = x.booleans refl
    condition_boolean table n (inr x) = x.booleans refl

    condition_sized : (table : Table) (n m : ℕ) → n ≡ m → IsShaped table true 1 c ⊎ IsShaped table true n c → (length (typed_at table c).words ≡ 1) ⊎ (length (typed_at table c).words ≡ m)
    condition_sized table n m e (inl x) = inl x.sized
    condition_sized table n m e (inr x) = inr (x.sized ∙ e)
