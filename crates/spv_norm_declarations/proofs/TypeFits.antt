-- 303, 305: what a type is made of, and what OpSpecConstantOp computes, fits alike where ids are alike.
use Rattle.std.proofs.Common.{◌≡◌, ℕ, ◌+◌, Bool, true, false, cond, not, ◌==◌, ◌&&◌, ◌||◌, nat_le, nat_lt, List, [], ◌∷◌, drop, length, Option, Some, None, refl, ap, ap₂, ◌∙◌}
use Rattle.std.specs.List.{list_all, slice_get, slice_index}
use Rattle.std.specs.Option.{is_some}
use Rattle.spv_opcodes.specs.declared.op.TheConstants as op
use Rattle.spv_module.specs.Instruction.{Instruction, opcode}
use Rattle.spv_typing.specs.Kinds.{is_int, is_vector, is_array, is_struct, is_pointer, is_closed, is_constant, has_type, type_of, component, component_count, element, pointer_class}
use Rattle.spv_typing.specs.Types.{type_fits, int_fits, vector_fits, array_fits, last_fits, struct_fits, pointer_fits, class_fits, parameter_fits, function_fits}
use Rattle.spv_typing.specs.Operations.{of_components, shape, has_shape, count_of, part_at, part_behind, part_along, leads_to, literals_lead, form_of, all_shaped, components_fit, condition_fits, select_fits, is_vector_of, components_of, all_pick, shuffle_fits, extract_fits, insert_fits, operands_fit, form_fits, spec_op_fits}
use Rattle.spv_typing.specs.declared.operations.Form.{Form}
use Rattle.spv_typing.specs.declared.operations.Form.TheVariants.{Ints, Bools, Compares, Selects, Shuffles, Extracts, Inserts}
use Rattle.spv_norm_declarations.proofs.Lookups.{LooksAlike, IsFixed, and_same, cond_same, fixed_vector, fixed_array, fixed_struct, fixed_pointer, fixed_constant, same_void, same_bool, same_int, same_vector, same_array, same_runtime_array, same_struct, same_pointer, same_data, same_closed, same_constant, same_has_type}

module _ (before after : List Instruction) (alike : LooksAlike before after) where
  -- ---- 303

  same_last : (m : ℕ) → last_fits after m ≡ last_fits before m
  same_last m = ap₂ (λ a b. a || b) (same_closed before after alike m) (same_runtime_array before after alike m)

  -- by induction on the members
  same_members : (ms : List ℕ) → struct_fits after ms ≡ struct_fits before ms
  same_members [] = refl
  same_members (m ∷ []) = same_last m
  same_members (m ∷ n ∷ ms) = ap₂ (λ a b. a && b) (same_closed before after alike m) (same_members (n ∷ ms))

  same_array_fits : (e l : ℕ) → array_fits after e l ≡ array_fits before e l
  same_array_fits e l =
      ap₂ (λ a b. a && b) (same_closed before after alike e)
      (and_same (is_constant before l) (is_constant after l) (is_int before (type_of before l)) (is_int after (type_of after l))
      (same_constant before after alike l)
      (λ c. ap (is_int after) ((fixed_constant before after alike l c).word 1) ∙ same_int before after alike (type_of before l)))

  same_parameter : (t : ℕ) → parameter_fits after t ≡ parameter_fits before t
  same_parameter t =
      ap₂ (λ a b. a || b) (same_data before after alike t)
      (and_same (is_pointer before t) (is_pointer after t) (class_fits (pointer_class before t)) (class_fits (pointer_class after t))
      (same_pointer before after alike t)
      (λ p. ap class_fits ((fixed_pointer before after alike t p).word 2)))

  same_function : (t : ℕ) (ps : List ℕ) → function_fits after t ps ≡ function_fits before t ps
  same_function t ps =
      ap₂ (λ a b. a && b) (ap₂ (λ a b. a || b) (same_void before after alike t) (same_data before after alike t))
      (ap (λ f. list_all f ps) (λ i p. same_parameter p i))

  pub same_type_fits : (i : Instruction) → type_fits after i ≡ type_fits before i
  unfolding type_fits
  same_type_fits i =
      ap (λ z. cond (opcode i == op.TYPE_INT) (int_fits (slice_index i.words 2) (slice_index i.words 3)) z)
      (cond_same (opcode i == op.TYPE_VECTOR) (opcode i == op.TYPE_VECTOR) (vector_fits before (slice_index i.words 2) (slice_index i.words 3))
      (vector_fits after (slice_index i.words 2) (slice_index i.words 3)) _ _ refl
      (λ e. ap₂ (λ (a b : Bool). (a || b) && (nat_le 2 (slice_index i.words 3) && nat_le (slice_index i.words 3) 4))
      (same_bool before after alike (slice_index i.words 2)) (same_int before after alike (slice_index i.words 2)))
      (cond_same (opcode i == op.TYPE_ARRAY) (opcode i == op.TYPE_ARRAY) (array_fits before (slice_index i.words 2) (slice_index i.words 3))
      (array_fits after (slice_index i.words 2) (slice_index i.words 3)) _ _ refl
      (λ e. same_array_fits (slice_index i.words 2) (slice_index i.words 3))
      (cond_same (opcode i == op.TYPE_RUNTIME_ARRAY) (opcode i == op.TYPE_RUNTIME_ARRAY) (is_closed before (slice_index i.words 2))
      (is_closed after (slice_index i.words 2)) _ _ refl
      (λ e. same_closed before after alike (slice_index i.words 2))
      (cond_same (opcode i == op.TYPE_STRUCT) (opcode i == op.TYPE_STRUCT) (struct_fits before (drop 2 i.words)) (struct_fits after (drop 2 i.words)) _ _ refl
      (λ e. same_members (drop 2 i.words))
      (cond_same (opcode i == op.TYPE_POINTER) (opcode i == op.TYPE_POINTER) (pointer_fits before (slice_index i.words 3))
      (pointer_fits after (slice_index i.words 3)) _ _ refl
      (λ e. ap₂ (λ a b. a || b) (same_data before after alike (slice_index i.words 3)) (same_runtime_array before after alike (slice_index i.words 3)))
      (cond_same (opcode i == op.TYPE_FUNCTION) (opcode i == op.TYPE_FUNCTION) (function_fits before (slice_index i.words 2) (drop 3 i.words))
      (function_fits after (slice_index i.words 2) (drop 3 i.words)) true true refl
      (λ e. same_function (slice_index i.words 2) (drop 3 i.words)) refl))))))

  -- ---- 305

  same_of_components : (t n : ℕ) → of_components after t n ≡ of_components before t n
  same_of_components t n =
      ap₂ (λ (a b : Bool). cond a (Some (record { is_boolean = true; count = n })) (cond b (Some (record { is_boolean = false; count = n })) None))
      (same_bool before after alike t) (same_int before after alike t)

  pub same_shape : (t : ℕ) → shape after t ≡ shape before t
  same_shape t =
      cond_same (is_vector before t) (is_vector after t) (of_components before (component before t) (component_count before t))
      (of_components after (component after t) (component_count after t)) (of_components before t 1) (of_components after t 1)
      (same_vector before after alike t)
      (λ v.
      let f = fixed_vector before after alike t v in
      ap₂ (of_components after) (f.word 2) (f.word 3) ∙ same_of_components (component before t) (component_count before t))
      (same_of_components t 1)

  -- of a constant's type
  typed : {A : Type 0} (F : List Instruction → ℕ → A) → ((t : ℕ) → F after t ≡ F before t) → (id : ℕ) → is_constant before id ≡ true
      → F after (type_of after id) ≡ F before (type_of before id)
  typed F same id c = ap (F after) ((fixed_constant before after alike id c).word 1) ∙ same (type_of before id)

  pub same_part_at : (t n : ℕ) → part_at after t n ≡ part_at before t n
  same_part_at t n =
      cond_same (is_struct before t) (is_struct after t) _ _ _ _ (same_struct before after alike t)
      (λ s. ap (λ ms. slice_get ms n) ((fixed_struct before after alike t s).words 2))
      (cond_same (is_array before t) (is_array after t) (Some (element before t)) (Some (element after t)) _ _ (same_array before after alike t)
      (λ a. ap Some ((fixed_array before after alike t a).word 2))
      (in_vector (is_vector before t) (is_vector after t) (same_vector before after alike t) (fixed_vector before after alike t)))
    where
      in_vector : (v v' : Bool) → v' ≡ v → (v ≡ true → IsFixed before after t)
          → cond (v' && nat_lt n (component_count after t)) (Some (component after t)) None ≡ cond (v && nat_lt n (component_count before t))
          (Some (component before t)) None
      in_vector true v' e f =
          ap (λ z. cond (z && nat_lt n (component_count after t)) (Some (component after t)) None) e
          ∙ ap₂ (λ m c. cond (nat_lt n m) (Some c) None) ((f refl).word 3) ((f refl).word 2)
      in_vector false v' e f = ap (λ z. cond (z && nat_lt n (component_count after t)) (Some (component after t)) None) e

  -- by induction on the literals
  pub same_along : (ns : List ℕ) (t : ℕ) → part_along after ns t ≡ part_along before ns t
  same_along [] t = refl
  same_along (n ∷ ns) t = ap₂ (λ f o. part_behind f o) (λ i u. same_along ns u i) (same_part_at t n)

  same_lead : (ns : List ℕ) (t u : ℕ) → literals_lead after ns t u ≡ literals_lead before ns t u
  same_lead ns t u = ap (λ o. nat_lt 0 (length ns) && leads_to u o) (same_along ns t)

  same_shaped : (b : Bool) (n : ℕ) (ids : List ℕ) → all_shaped after b n ids ≡ all_shaped before b n ids
  same_shaped b n ids =
      ap (λ f. list_all f ids)
      (λ i id.
      and_same (is_constant before id) (is_constant after id) (has_shape b n (shape before (type_of before id)))
      (has_shape b n (shape after (type_of after id)))
      (same_constant before after alike id) (λ c. typed (λ is t. has_shape b n (shape is t)) (λ t. ap (has_shape b n) (same_shape t)) id c) i)

  same_components_fit : (n : ℕ) (of gives : Bool) (t : ℕ) (ids : List ℕ) → components_fit after n of gives t ids ≡ components_fit before n of gives t ids
  same_components_fit n of gives t ids =
      ap (λ s. (length ids == n) && (has_shape gives (count_of s) s && all_shaped after of (count_of s) ids)) (same_shape t)
      ∙ ap (λ z. (length ids == n) && (has_shape gives (count_of (shape before t)) (shape before t) && z)) (same_shaped of (count_of (shape before t)) ids)

  same_condition : (n c : ℕ) → condition_fits after n c ≡ condition_fits before n c
  same_condition n c =
      and_same (is_constant before c) (is_constant after c) _ _ (same_constant before after alike c)
      (λ h. typed (λ is t. has_shape true 1 (shape is t) || has_shape true n (shape is t))
      (λ t. ap (λ s. has_shape true 1 s || has_shape true n s) (same_shape t)) c h)

  same_select : (t c a b : ℕ) → select_fits after t c a b ≡ select_fits before t c a b
  same_select t c a b =
      ap (λ s. is_some s && (condition_fits after (count_of s) c && (has_type after t a && has_type after t b))) (same_shape t)
      ∙ ap (λ z. is_some (shape before t) && (z && (has_type after t a && has_type after t b))) (same_condition (count_of (shape before t)) c)
      ∙ ap₂ (λ y z. is_some (shape before t) && (condition_fits before (count_of (shape before t)) c && (y && z)))
      (same_has_type before after alike t a) (same_has_type before after alike t b)

  -- a constant vector: its type is a vector
  record IsVectorConstant (id : ℕ) : Type 0 where
    constant : is_constant before id ≡ true
    vector : is_vector before (type_of before id) ≡ true

  vector_constant : (x id : ℕ) → is_vector_of before x id ≡ true → IsVectorConstant id
  vector_constant x id h =
      let both = three (is_constant before id) (is_vector before (type_of before id)) (component before (type_of before id) == x) h in
      record { constant = both.0; vector = both.1 }
    where
      three : (a b c : Bool) → (a && (b && c)) ≡ true → (a ≡ true) × (b ≡ true)
      three true true c h = (refl, refl)
      three true false c h = absurd (cc h)
      three false b c h = absurd (cc h)

  same_vector_of : (x id : ℕ) → is_vector_of after x id ≡ is_vector_of before x id
  same_vector_of x id =
      and_same (is_constant before id) (is_constant after id) _ _ (same_constant before after alike id)
      (λ c.
      typed (λ is t. is_vector is t && (component is t == x))
      (λ t. and_same (is_vector before t) (is_vector after t) (component before t == x) (component after t == x) (same_vector before after alike t)
      (λ v. ap (λ y. y == x) ((fixed_vector before after alike t v).word 2))) id c)

  same_count : (id : ℕ) → IsVectorConstant id → component_count after (type_of after id) ≡ component_count before (type_of before id)
  same_count id v =
      ap (component_count after) ((fixed_constant before after alike id v.constant).word 1)
      ∙ (fixed_vector before after alike (type_of before id) v.vector).word 3

  same_shuffle : (t a b : ℕ) (ns : List ℕ) → shuffle_fits after t a b ns ≡ shuffle_fits before t a b ns
  same_shuffle t a b ns =
      and_same (is_vector before t) (is_vector after t) _ _ (same_vector before after alike t)
      (λ v.
      let f = fixed_vector before after alike t v in
      ap₂ (λ x n. is_vector_of after x a && (is_vector_of after x b && ((length ns == n) && all_pick (components_of after a b) ns))) (f.word 2) (f.word 3)
      ∙ and_same (is_vector_of before (component before t) a) (is_vector_of after (component before t) a) _ _ (same_vector_of (component before t) a)
      (λ va.
      and_same (is_vector_of before (component before t) b) (is_vector_of after (component before t) b) _ _ (same_vector_of (component before t) b)
      (λ vb.
      ap₂ (λ m n. (length ns == component_count before t) && all_pick (m + n) ns) (same_count a (vector_constant (component before t) a va))
      (same_count b (vector_constant (component before t) b vb)))))

  same_extract : (t c : ℕ) (ns : List ℕ) → extract_fits after t c ns ≡ extract_fits before t c ns
  same_extract t c ns =
      ap₂ (λ s z. is_some s && z) (same_shape t)
      (and_same (is_constant before c) (is_constant after c) _ _ (same_constant before after alike c)
      (λ h. typed (λ is u. literals_lead is ns u t) (λ u. same_lead ns u t) c h))

  same_insert : (t o c : ℕ) (ns : List ℕ) → insert_fits after t o c ns ≡ insert_fits before t o c ns
  same_insert t o c ns =
      ap₂ (λ s z. is_some s && z) (same_shape t)
      (and_same (is_constant before o) (is_constant after o) _ _ (same_constant before after alike o)
      (λ h.
      ap₂ (λ y z. y && z) (same_has_type before after alike t c)
      (typed (λ is u. literals_lead is ns t u) (λ u. same_lead ns t u) o h)))

  same_operands : (form : Form) (t : ℕ) (ids : List ℕ) → operands_fit after form t ids ≡ operands_fit before form t ids
  same_operands (Ints n) t ids = same_components_fit n false false t ids
  same_operands (Bools n) t ids = same_components_fit n true true t ids
  same_operands Compares t ids = same_components_fit 2 false true t ids
  same_operands Selects t (c ∷ a ∷ b ∷ []) = same_select t c a b
  same_operands Shuffles t (a ∷ b ∷ ns) = same_shuffle t a b ns
  same_operands Extracts t (c ∷ ns) = same_extract t c ns
  same_operands Inserts t (o ∷ c ∷ ns) = same_insert t o c ns
  same_operands form t ids = refl

  same_form : (form : Option Form) (t : ℕ) (ids : List ℕ) → form_fits after form t ids ≡ form_fits before form t ids
  same_form None t ids = refl
  same_form (Some form) t ids = same_operands form t ids

  pub same_spec_op : (i : Instruction) → spec_op_fits after i ≡ spec_op_fits before i
  unfolding spec_op_fits
  same_spec_op i =
      ap (λ z. not (opcode i == op.SPEC_CONSTANT_OP) || z) (same_form (form_of (slice_index i.words 3)) (slice_index i.words 1) (drop 4 i.words))
