-- What modules that are alike say of an id: the same, but for the opcodes and words of loose ids. So each test and lookup that tells loose ids from the
-- others gives the same in both.
use Rattle.std.proofs.Common.{◌≡◌, ◌⊎◌, inl, inr, ℕ, zero, suc, Bool, true, false, cond, ◌==◌, ◌&&◌, ◌||◌, not, nat_eq, nat_lt, List, [], ◌∷◌, length, drop, Option, Some, None, refl, sym, ap, ap₂, ◌∙◌, true≢false, eqb-true}
use Rattle.std.proofs.Math.Path.{fun_ext}
use Rattle.std.specs.List.{list_all, slice_get, slice_index}
use Rattle.std.specs.Option.{is_some, option_and_then, option_map_or}
use Rattle.spv_opcodes.specs.declared.op.TheConstants as op
use Rattle.spv_grammar.specs.Operands.{opcode_of}
use Rattle.spv_module.specs.Instruction.{Instruction, opcode}
use Rattle.spv_meaning.specs.Constants.{first_literal}
use Rattle.spv_ids.specs.Ids.{definition, kind, word_of, words_of}
use Rattle.spv_typing.specs.declared.shapes.Shape.{Shape}
use Rattle.spv_typing.specs.Kinds.{is_one_of, is_void, is_bool, is_int, is_vector, is_array, is_runtime_array, is_struct, is_pointer, component, component_count}
use Rattle.spv_typing.specs.Kinds.{element, length_id, members, pointer_class, pointee, data_types, is_data, last_id, ends_open, is_closed, is_triple, type_of}
use Rattle.spv_typing.specs.Kinds.{spec_constants, is_spec, constants, is_outside, is_constant, has_type, is_variable_of}
use Rattle.spv_typing.specs.Operations.{of_components, shape, has_shape, part_at, part_behind, part_along, leads_to, literals_lead}
use Rattle.spv_values.specs.Values.{value_shape, is_value, is_value_of, is_ints, is_bools, as_pointer, pointer_type, is_pointer_value}
use Rattle.spv_decorations.specs.Decorations.{decoration_of, has_decoration, member_decoration_of, has_member_decoration}
use Rattle.spv_alike.specs.Alike.{loose_kinds, is_loose, AreAlike}

-- ---- the opcode and the words of an id are those of its definition

pub kind_by_words : (insts : List Instruction) (id : ℕ) → kind insts id ≡ opcode_of (slice_index (words_of insts id 0) 0)
kind_by_words insts id = by (definition insts id)
  where
    by : (o : Option Instruction) → option_map_or opcode o 0 ≡ opcode_of (slice_index (option_map_or (λ i. drop 0 i.words) o []) 0)
    by None = refl
    by (Some i) = refl

pub word_by_words : (insts : List Instruction) (id k : ℕ) → word_of insts id k ≡ slice_index (words_of insts id 0) k
word_by_words insts id k = by (definition insts id)
  where
    by : (o : Option Instruction) → option_map_or (λ i. slice_index i.words k) o 0 ≡ slice_index (option_map_or (λ i. drop 0 i.words) o []) k
    by None = refl
    by (Some i) = refl

drop_none : (k : ℕ) → drop {A = ℕ} k [] ≡ []
drop_none zero = refl
drop_none (suc k) = refl

pub words_by_words : (insts : List Instruction) (id k : ℕ) → words_of insts id k ≡ drop k (words_of insts id 0)
words_by_words insts id k = by (definition insts id)
  where
    by : (o : Option Instruction) → option_map_or (λ i. drop k i.words) o [] ≡ drop k (option_map_or (λ i. drop 0 i.words) o [])
    by None = sym (drop_none k)
    by (Some i) = refl

-- ---- what is the same at each opcode of loose ids

or_either : (a b : Bool) → (a || b) ≡ true → (a ≡ true) ⊎ (b ≡ true)
or_either true b h = inl refl
or_either false b h = inr h

pub loose_cases : (k : ℕ) → is_one_of loose_kinds k ≡ true → (k ≡ 0) ⊎ ((k ≡ op.LABEL) ⊎ ((k ≡ op.PHI) ⊎ (k ≡ op.COPY_OBJECT)))
loose_cases k h = by_zero (or_either (nat_eq k 0) (is_one_of (op.LABEL ∷ op.PHI ∷ op.COPY_OBJECT ∷ []) k) h)
  where
    by_copy : (nat_eq k op.COPY_OBJECT ≡ true) ⊎ (false ≡ true) → (k ≡ 0) ⊎ ((k ≡ op.LABEL) ⊎ ((k ≡ op.PHI) ⊎ (k ≡ op.COPY_OBJECT)))
    by_copy (inl e) = inr (inr (inr (eqb-true k op.COPY_OBJECT e)))
    by_copy (inr e) = absurd (true≢false (sym e))

    by_phi : (nat_eq k op.PHI ≡ true) ⊎ (is_one_of (op.COPY_OBJECT ∷ []) k ≡ true) → (k ≡ 0) ⊎ ((k ≡ op.LABEL) ⊎ ((k ≡ op.PHI) ⊎ (k ≡ op.COPY_OBJECT)))
    by_phi (inl e) = inr (inr (inl (eqb-true k op.PHI e)))
    by_phi (inr e) = by_copy (or_either (nat_eq k op.COPY_OBJECT) false e)

    by_label : (nat_eq k op.LABEL ≡ true) ⊎ (is_one_of (op.PHI ∷ op.COPY_OBJECT ∷ []) k ≡ true) →
        (k ≡ 0) ⊎ ((k ≡ op.LABEL) ⊎ ((k ≡ op.PHI) ⊎ (k ≡ op.COPY_OBJECT)))
    by_label (inl e) = inr (inl (eqb-true k op.LABEL e))
    by_label (inr e) = by_phi (or_either (nat_eq k op.PHI) (is_one_of (op.COPY_OBJECT ∷ []) k) e)

    by_zero : (nat_eq k 0 ≡ true) ⊎ (is_one_of (op.LABEL ∷ op.PHI ∷ op.COPY_OBJECT ∷ []) k ≡ true) →
        (k ≡ 0) ⊎ ((k ≡ op.LABEL) ⊎ ((k ≡ op.PHI) ⊎ (k ≡ op.COPY_OBJECT)))
    by_zero (inl e) = inl (eqb-true k 0 e)
    by_zero (inr e) = by_label (or_either (nat_eq k op.LABEL) (is_one_of (op.PHI ∷ op.COPY_OBJECT ∷ []) k) e)

abbrev pub AtLoose : {A : Type 0} → (ℕ → A) → A → Type 0
AtLoose f z = (f 0 ≡ z) × (f op.LABEL ≡ z) × (f op.PHI ≡ z) × (f op.COPY_OBJECT ≡ z)

pub at_loose : {A : Type 0} (f : ℕ → A) (z : A) → AtLoose f z → (k : ℕ) → is_one_of loose_kinds k ≡ true → f k ≡ z
at_loose f z each k h = by (loose_cases k h)
  where
    by : (k ≡ 0) ⊎ ((k ≡ op.LABEL) ⊎ ((k ≡ op.PHI) ⊎ (k ≡ op.COPY_OBJECT))) → f k ≡ z
    by (inl e) = ap f e ∙ each.0
    by (inr (inl e)) = ap f e ∙ each.1
    by (inr (inr (inl e))) = ap f e ∙ each.2
    by (inr (inr (inr e))) = ap f e ∙ each.3

-- an opcode of no loose id is apart from those of loose ids, and so is each of some
firm_apart : (o : ℕ) → is_one_of loose_kinds o ≡ false → (k : ℕ) → is_one_of loose_kinds k ≡ true → (k == o) ≡ false
firm_apart o firm k h = by (k == o) refl
  where
    by : (b : Bool) → (k == o) ≡ b → (k == o) ≡ false
    by false e = e
    by true e = absurd (true≢false (sym h ∙ ap (is_one_of loose_kinds) (eqb-true k o e) ∙ firm))

abbrev pub are_firm : List ℕ → Bool
are_firm os = list_all (λ o. not (is_one_of loose_kinds o)) os

not_true : (b : Bool) → not b ≡ true → b ≡ false
not_true true e = sym e
not_true false e = refl

pub and_left : (a b : Bool) → (a && b) ≡ true → a ≡ true
and_left true b e = refl
and_left false b e = e

pub and_right : (a b : Bool) → (a && b) ≡ true → b ≡ true
and_right true b e = e
and_right false b e = absurd (true≢false (sym e))

one_apart : (os : List ℕ) → are_firm os ≡ true → (k : ℕ) → is_one_of loose_kinds k ≡ true → is_one_of os k ≡ false
one_apart [] firm k h = refl
one_apart (o ∷ os) firm k h =
    ap (λ (b : Bool). b || is_one_of os k)
    (firm_apart o (not_true (is_one_of loose_kinds o) (and_left (not (is_one_of loose_kinds o)) (are_firm os) firm)) k h)
    ∙ one_apart os (and_right (not (is_one_of loose_kinds o)) (are_firm os) firm) k h

-- ---- modules that are alike

module _ (before after : List Instruction) (alike : AreAlike before after) where
  -- an id that is not loose: its opcode and its words
  pub same_words : (id : ℕ) → is_loose before id ≡ false → words_of after id ≡ words_of before id
  same_words id firm =
      fun_ext (λ k. words_by_words after id k ∙ ap (drop k) (alike.fixed id firm) ∙ sym (words_by_words before id k))

  pub same_word : (id : ℕ) → is_loose before id ≡ false → word_of after id ≡ word_of before id
  same_word id firm =
      fun_ext (λ k. word_by_words after id k ∙ ap (λ (ws : List ℕ). slice_index ws k) (alike.fixed id firm) ∙ sym (word_by_words before id k))

  pub same_kind : (id : ℕ) → is_loose before id ≡ false → kind after id ≡ kind before id
  same_kind id firm =
      kind_by_words after id ∙ ap (λ (ws : List ℕ). opcode_of (slice_index ws 0)) (alike.fixed id firm) ∙ sym (kind_by_words before id)

  -- what is the same at all loose ids is the same in both
  pub by_id : {A : Type 0} (f : ℕ → (ℕ → ℕ) → (ℕ → List ℕ) → A) (z : A)
      → ((k : ℕ) (w : ℕ → ℕ) (ws : ℕ → List ℕ) → is_one_of loose_kinds k ≡ true → f k w ws ≡ z)
      → (id : ℕ) → f (kind after id) (word_of after id) (words_of after id) ≡ f (kind before id) (word_of before id) (words_of before id)
  by_id f z loose id = by (is_loose before id) refl
    where
      by : (b : Bool) → is_loose before id ≡ b
          → f (kind after id) (word_of after id) (words_of after id) ≡ f (kind before id) (word_of before id) (words_of before id)
      by false firm =
          ap (λ (k : ℕ). f k (word_of after id) (words_of after id)) (same_kind id firm)
          ∙ ap (λ (w : ℕ → ℕ). f (kind before id) w (words_of after id)) (same_word id firm)
          ∙ ap (f (kind before id) (word_of before id)) (same_words id firm)
      by true h =
          loose (kind after id) (word_of after id) (words_of after id) (alike.loose id h)
          ∙ sym (loose (kind before id) (word_of before id) (words_of before id) h)

  -- the same where another lookup, which is the same in both, is used as well
  pub by_both : {A R : Type 0} (f : R → ℕ → (ℕ → ℕ) → (ℕ → List ℕ) → A) (z : A) (r s : R) → r ≡ s
      → ((w : ℕ → ℕ) (ws : ℕ → List ℕ) → AtLoose (λ k. f s k w ws) z)
      → (id : ℕ) → f r (kind after id) (word_of after id) (words_of after id) ≡ f s (kind before id) (word_of before id) (words_of before id)
  by_both f z r s e loose id =
      ap (λ x. f x (kind after id) (word_of after id) (words_of after id)) e
      ∙ by_id (f s) z (λ k w ws h. at_loose (λ n. f s n w ws) z (loose w ws) k h) id

  pub by_one : {A : Type 0} (f : ℕ → (ℕ → ℕ) → (ℕ → List ℕ) → A) (z : A)
      → ((w : ℕ → ℕ) (ws : ℕ → List ℕ) → AtLoose (λ k. f k w ws) z)
      → (id : ℕ) → f (kind after id) (word_of after id) (words_of after id) ≡ f (kind before id) (word_of before id) (words_of before id)
  by_one f z loose id = by_id f z (λ k w ws h. at_loose (λ n. f n w ws) z (loose w ws) k h) id

  -- an opcode of no loose id, and one of some
  pub same_test : (o : ℕ) → is_one_of loose_kinds o ≡ false → (id : ℕ) → (kind after id == o) ≡ (kind before id == o)
  same_test o firm = by_id (λ k w ws. k == o) false (λ k w ws h. firm_apart o firm k h)

  pub same_one_of : (os : List ℕ) → are_firm os ≡ true → (id : ℕ) → is_one_of os (kind after id) ≡ is_one_of os (kind before id)
  same_one_of os firm = by_id (λ k w ws. is_one_of os k) false (λ k w ws h. one_apart os firm k h)

  -- a word of an id with an opcode of no loose id
  pub firm_test : (o : ℕ) → is_one_of loose_kinds o ≡ false → (id : ℕ) → (kind before id == o) ≡ true → is_loose before id ≡ false
  firm_test o firm id h = by (is_loose before id) refl
    where
      by : (b : Bool) → is_loose before id ≡ b → is_loose before id ≡ false
      by false e = e
      by true e = absurd (true≢false (sym h ∙ firm_apart o firm (kind before id) e))

  -- ---- types

  pub same_void : (t : ℕ) → is_void after t ≡ is_void before t
  same_void = same_test op.TYPE_VOID refl

  pub same_bool : (t : ℕ) → is_bool after t ≡ is_bool before t
  same_bool = same_test op.TYPE_BOOL refl

  pub same_int : (t : ℕ) → is_int after t ≡ is_int before t
  same_int = same_test op.TYPE_INT refl

  pub same_vector : (t : ℕ) → is_vector after t ≡ is_vector before t
  same_vector = same_test op.TYPE_VECTOR refl

  pub same_array : (t : ℕ) → is_array after t ≡ is_array before t
  same_array = same_test op.TYPE_ARRAY refl

  pub same_runtime_array : (t : ℕ) → is_runtime_array after t ≡ is_runtime_array before t
  same_runtime_array = same_test op.TYPE_RUNTIME_ARRAY refl

  pub same_struct : (t : ℕ) → is_struct after t ≡ is_struct before t
  same_struct = same_test op.TYPE_STRUCT refl

  pub same_pointer : (t : ℕ) → is_pointer after t ≡ is_pointer before t
  same_pointer = same_test op.TYPE_POINTER refl

  pub same_data : (t : ℕ) → is_data after t ≡ is_data before t
  same_data = same_one_of data_types refl

  -- the words of a type, where it is one
  pub same_component : (t : ℕ) → is_vector before t ≡ true → component after t ≡ component before t
  same_component t h = ap (λ (w : ℕ → ℕ). w 2) (same_word t (firm_test op.TYPE_VECTOR refl t h))

  pub same_component_count : (t : ℕ) → is_vector before t ≡ true → component_count after t ≡ component_count before t
  same_component_count t h = ap (λ (w : ℕ → ℕ). w 3) (same_word t (firm_test op.TYPE_VECTOR refl t h))

  pub same_element : (t : ℕ) → is_array before t ≡ true → element after t ≡ element before t
  same_element t h = ap (λ (w : ℕ → ℕ). w 2) (same_word t (firm_test op.TYPE_ARRAY refl t h))

  pub same_length_id : (t : ℕ) → is_array before t ≡ true → length_id after t ≡ length_id before t
  same_length_id t h = ap (λ (w : ℕ → ℕ). w 3) (same_word t (firm_test op.TYPE_ARRAY refl t h))

  pub same_members : (t : ℕ) → is_struct before t ≡ true → members after t ≡ members before t
  same_members t h = ap (λ (ws : ℕ → List ℕ). ws 2) (same_words t (firm_test op.TYPE_STRUCT refl t h))

  pub same_pointer_class : (t : ℕ) → is_pointer before t ≡ true → pointer_class after t ≡ pointer_class before t
  same_pointer_class t h = ap (λ (w : ℕ → ℕ). w 2) (same_word t (firm_test op.TYPE_POINTER refl t h))

  pub same_pointee : (t : ℕ) → is_pointer before t ≡ true → pointee after t ≡ pointee before t
  same_pointee t h = ap (λ (w : ℕ → ℕ). w 3) (same_word t (firm_test op.TYPE_POINTER refl t h))

  pub same_ends_open : (t : ℕ) → ends_open after t ≡ ends_open before t
  same_ends_open =
      by_both (λ (r : ℕ → Bool) k w ws. k == op.TYPE_STRUCT && r (last_id (ws 2))) false (is_runtime_array after) (is_runtime_array before)
      (fun_ext same_runtime_array) (λ w ws. (refl, refl, refl, refl))

  pub same_closed : (t : ℕ) → is_closed after t ≡ is_closed before t
  same_closed t = ap₂ (λ (a b : Bool). a && not b) (same_data t) (same_ends_open t)

  pub same_triple : (t : ℕ) → is_triple after t ≡ is_triple before t
  same_triple =
      by_both (λ (r : ℕ → Bool) k w ws. k == op.TYPE_VECTOR && (r (w 2) && w 3 == 3)) false (is_int after) (is_int before)
      (fun_ext same_int) (λ w ws. (refl, refl, refl, refl))

  -- ---- constants and variables

  pub same_spec : (id : ℕ) → is_spec after id ≡ is_spec before id
  same_spec = same_one_of spec_constants refl

  pub same_constant : (id : ℕ) → is_constant after id ≡ is_constant before id
  same_constant id =
      ap₂ (λ (a b : Bool). a || b) (same_one_of constants refl id)
      (ap₂ (λ (a b : Bool). a && b) (same_test op.UNDEF refl id) (alike.outside id))

  pub firm_constant : (id : ℕ) → is_constant before id ≡ true → is_loose before id ≡ false
  firm_constant id h = by (is_loose before id) refl
    where
      passes : (k : ℕ) → is_one_of loose_kinds k ≡ true → (is_one_of constants k || (k == op.UNDEF && is_outside before id)) ≡ false
      passes = at_loose (λ k. is_one_of constants k || (k == op.UNDEF && is_outside before id)) false (refl, refl, refl, refl)

      by : (b : Bool) → is_loose before id ≡ b → is_loose before id ≡ false
      by false e = e
      by true e = absurd (true≢false (sym h ∙ passes (kind before id) e))

  pub same_type_of : (id : ℕ) → is_constant before id ≡ true → type_of after id ≡ type_of before id
  same_type_of id h = ap (λ (w : ℕ → ℕ). w 1) (same_word id (firm_constant id h))

  pub same_has_type : (t id : ℕ) → has_type after t id ≡ has_type before t id
  same_has_type t id =
      by_both (λ (outside : Bool) k w ws. (is_one_of constants k || (k == op.UNDEF && outside)) && w 1 == t) false (is_outside after id) (is_outside before id)
      (alike.outside id) (λ w ws. (refl, refl, refl, refl)) id

  pub same_variable_of : (class id : ℕ) → is_variable_of after class id ≡ is_variable_of before class id
  same_variable_of class = by_one (λ k w ws. k == op.VARIABLE && w 3 == class) false (λ w ws. (refl, refl, refl, refl))

  -- ---- shapes and parts

  pub same_of_components : (t count : ℕ) → of_components after t count ≡ of_components before t count
  same_of_components t count =
      ap₂ (λ (a b : Bool). cond a (Some (record { is_boolean = true; count = count })) (cond b (Some (record { is_boolean = false; count = count })) none))
      (same_bool t) (same_int t)
    where
      none : Option Shape
      none = None

  pub same_shape : (t : ℕ) → shape after t ≡ shape before t
  same_shape t =
      by_both (λ (r : ℕ → ℕ → Option Shape) k w ws. cond (k == op.TYPE_VECTOR) (r (w 2) (w 3)) (r t 1)) (of_components before t 1)
      (of_components after) (of_components before) (fun_ext (λ u. fun_ext (same_of_components u))) (λ w ws. (refl, refl, refl, refl)) t

  pub same_part_at : (t index : ℕ) → part_at after t index ≡ part_at before t index
  same_part_at t index =
      by_one (λ k w ws. cond (k == op.TYPE_STRUCT) (slice_get (ws 2) index) (cond (k == op.TYPE_ARRAY) (Some (w 2))
      (cond (k == op.TYPE_VECTOR && nat_lt index (w 3)) (Some (w 2)) None))) None (λ w ws. (refl, refl, refl, refl)) t

  -- induction on the literals
  pub same_part_along : (literals : List ℕ) (t : ℕ) → part_along after literals t ≡ part_along before literals t
  same_part_along [] t = refl
  same_part_along (index ∷ rest) t = ap₂ part_behind (fun_ext (same_part_along rest)) (same_part_at t index)

  pub same_literals_lead : (literals : List ℕ) (from to : ℕ) → literals_lead after literals from to ≡ literals_lead before literals from to
  same_literals_lead literals from to = ap (λ (o : Option ℕ). nat_lt 0 (length literals) && leads_to to o) (same_part_along literals from)

  -- ---- values

  pub same_value_shape : (id : ℕ) → value_shape after id ≡ value_shape before id
  same_value_shape id = ap₂ (λ (f : ℕ → Option Shape) (o : Option ℕ). option_and_then f o) (fun_ext same_shape) (alike.values id)

  pub same_is_value : (id : ℕ) → is_value after id ≡ is_value before id
  same_is_value id = ap (λ (o : Option ℕ). is_some o) (alike.values id)

  pub same_value_of : (t id : ℕ) → is_value_of after t id ≡ is_value_of before t id
  same_value_of t id = ap (λ (o : Option ℕ). option_map_or (nat_eq t) o false) (alike.values id)

  pub same_ints : (count id : ℕ) → is_ints after count id ≡ is_ints before count id
  same_ints count id = ap (has_shape false count) (same_value_shape id)

  pub same_bools : (count id : ℕ) → is_bools after count id ≡ is_bools before count id
  same_bools count id = ap (has_shape true count) (same_value_shape id)

  pub same_as_pointer : (t : ℕ) → as_pointer after t ≡ as_pointer before t
  same_as_pointer t = ap (λ (b : Bool). cond b (Some t) None) (same_pointer t)

  pub same_pointer_type : (id : ℕ) → pointer_type after id ≡ pointer_type before id
  same_pointer_type id = ap₂ (λ (f : ℕ → Option ℕ) (o : Option ℕ). option_and_then f o) (fun_ext same_as_pointer) (alike.values id)

  pub same_pointer_value : (id : ℕ) → is_pointer_value after id ≡ is_pointer_value before id
  same_pointer_value id = ap (λ (o : Option ℕ). is_some o) (same_pointer_type id)

  -- ---- decorations

  pub same_decoration : (id d : ℕ) → decoration_of after id d ≡ decoration_of before id d
  same_decoration id d = ap first_literal (alike.decorations id d)

  pub same_has_decoration : (id d : ℕ) → has_decoration after id d ≡ has_decoration before id d
  same_has_decoration id d = ap (λ (o : Option (List ℕ)). is_some o) (alike.decorations id d)

  pub same_member_decoration : (id member d : ℕ) → member_decoration_of after id member d ≡ member_decoration_of before id member d
  same_member_decoration id member d = ap first_literal (alike.members id member d)

  pub same_has_member_decoration : (id member d : ℕ) → has_member_decoration after id member d ≡ has_member_decoration before id member d
  same_has_member_decoration id member d = ap (λ (o : Option (List ℕ)). is_some o) (alike.members id member d)
