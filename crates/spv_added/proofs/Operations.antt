-- 305: what OpSpecConstantOp computes of other constants than the new one fits alike.
use Rattle.std.proofs.Common.{◌≡◌, ℕ, ◌+◌, Bool, true, false, not, ◌==◌, ◌&&◌, ◌||◌, List, [], ◌∷◌, drop, length, refl, ap, ap₂, ◌∙◌, eqb-true}
use Rattle.std.specs.List.{AllByRecursion, slice_index}
use Rattle.std.specs.Option.{is_some}
use Rattle.std.proofs.lemmas.Bool.{and_parts}
use Rattle.spv_opcodes.specs.declared.op.TheConstants as op
use Rattle.spv_module.specs.Instruction.{Instruction, opcode}
use Rattle.spv_typing.specs.declared.operations.Form.{Form}
use Rattle.spv_typing.specs.declared.operations.Form.TheVariants.{Ints, Bools, Compares, Selects, Shuffles, Extracts, Inserts}
use Rattle.spv_typing.specs.Kinds.{component, component_count, has_type, is_constant, is_vector, type_of}
use Rattle.spv_typing.specs.Operations.{all_pick, all_shaped, components_fit, components_of, condition_fits, count_of, extract_fits, form_fits, form_of, has_shape, insert_fits, is_vector_of, literals_lead, operands_fit, select_fits, shape, shuffle_fits, spec_op_fits}
use Rattle.spv_declarations.proofs.Operations.{operands_for}
use Rattle.spv_alike_uses.proofs.Lookups.{Case, In, all_on, and_on, by_one, same_component, same_component_count, same_constant, same_has_type, same_literals_lead, same_shape, same_type_of, same_vector, type_of_stays}
use Rattle.spv_added.proofs.Walk.{Adding, FactOf}
use Rattle.spv_added.proofs.Cases.{case_of}
use Rattle.spv_added.proofs.Reading.{operands_others, operation_type}

module _ (c : Case) where
  -- what is read of the type of a constant
  of_type : {A : Type 0} (f g : ℕ → A) → ((t : ℕ) → In c t → f t ≡ g t) → (id : ℕ) → In c id → is_constant c.before id ≡ true
      → f (type_of c.after id) ≡ g (type_of c.before id)
  of_type f g same id s h = ap f (same_type_of c id s h) ∙ same (type_of c.before id) (type_of_stays c id s h)

  same_shaped : (b : Bool) (n : ℕ) (ids : List ℕ) → AllByRecursion (In c) ids → all_shaped c.after b n ids ≡ all_shaped c.before b n ids
  same_shaped b n ids all =
      all_on (In c) (λ id. is_constant c.after id && has_shape b n (shape c.after (type_of c.after id)))
      (λ id. is_constant c.before id && has_shape b n (shape c.before (type_of c.before id)))
      (λ id s.
      and_on (is_constant c.after id) (is_constant c.before id) _ _ (same_constant c id s)
      (λ h. ap (has_shape b n) (of_type (shape c.after) (shape c.before) (same_shape c) id s h))) ids all

  same_components : (n : ℕ) (of gives : Bool) (t : ℕ) (ids : List ℕ) → In c t → AllByRecursion (In c) ids
      → components_fit c.after n of gives t ids ≡ components_fit c.before n of gives t ids
  same_components n of gives t ids g all =
      ap (λ s. (length ids == n) && (has_shape gives (count_of s) s && all_shaped c.after of (count_of s) ids)) (same_shape c t g)
      ∙ ap (λ z. (length ids == n) && (has_shape gives (count_of (shape c.before t)) (shape c.before t) && z))
      (same_shaped of (count_of (shape c.before t)) ids all)

  same_condition : (n id : ℕ) → In c id → condition_fits c.after n id ≡ condition_fits c.before n id
  same_condition n id s =
      and_on (is_constant c.after id) (is_constant c.before id) _ _ (same_constant c id s)
      (λ h. ap (λ z. has_shape true 1 z || has_shape true n z) (of_type (shape c.after) (shape c.before) (same_shape c) id s h))

  same_select : (t x a b : ℕ) → In c t → In c x → In c a → In c b → select_fits c.after t x a b ≡ select_fits c.before t x a b
  same_select t x a b g gx ga gb =
      ap (λ s. is_some s && (condition_fits c.after (count_of s) x && (has_type c.after t a && has_type c.after t b))) (same_shape c t g)
      ∙ ap (λ z. is_some (shape c.before t) && (z && (has_type c.after t a && has_type c.after t b))) (same_condition (count_of (shape c.before t)) x gx)
      ∙ ap₂ (λ (y z : Bool). is_some (shape c.before t) && (condition_fits c.before (count_of (shape c.before t)) x && (y && z)))
      (same_has_type c t a ga) (same_has_type c t b gb)

  same_vector_of : (x id : ℕ) → In c id → is_vector_of c.after x id ≡ is_vector_of c.before x id
  same_vector_of x id s =
      and_on (is_constant c.after id) (is_constant c.before id) _ _ (same_constant c id s)
      (λ h.
      of_type (λ t. is_vector c.after t && component c.after t == x) (λ t. is_vector c.before t && component c.before t == x)
      (λ t g. by_one c (λ test w ws. test op.TYPE_VECTOR && w 2 == x) false (λ w ws. refl) t g) id s h)

  same_count : (x id : ℕ) → In c id → is_vector_of c.before x id ≡ true
      → component_count c.after (type_of c.after id) ≡ component_count c.before (type_of c.before id)
  same_count x id s h =
      let constant = and_parts (is_constant c.before id) (is_vector c.before (type_of c.before id) && component c.before (type_of c.before id) == x) h in
      let vector = and_parts (is_vector c.before (type_of c.before id)) (component c.before (type_of c.before id) == x) constant.1 in
      ap (component_count c.after) (same_type_of c id s constant.0)
      ∙ same_component_count c (type_of c.before id) (type_of_stays c id s constant.0) vector.0

  same_shuffle : (t a b : ℕ) (ns : List ℕ) → In c t → In c a → In c b → shuffle_fits c.after t a b ns ≡ shuffle_fits c.before t a b ns
  same_shuffle t a b ns g ga gb =
      and_on (is_vector c.after t) (is_vector c.before t) _ _ (same_vector c t g)
      (λ h.
      let x = component c.before t in
      ap₂ (λ x n. is_vector_of c.after x a && (is_vector_of c.after x b && ((length ns == n) && all_pick (components_of c.after a b) ns)))
      (same_component c t g h) (same_component_count c t g h)
      ∙ and_on (is_vector_of c.after x a) (is_vector_of c.before x a) _ _ (same_vector_of x a ga)
      (λ va.
      and_on (is_vector_of c.after x b) (is_vector_of c.before x b) _ _ (same_vector_of x b gb)
      (λ vb.
      ap₂ (λ m n. (length ns == component_count c.before t) && all_pick (m + n) ns) (same_count x a ga va) (same_count x b gb vb))))

  same_extract : (t id : ℕ) (ns : List ℕ) → In c t → In c id → extract_fits c.after t id ns ≡ extract_fits c.before t id ns
  same_extract t id ns g s =
      ap₂ (λ o z. is_some o && z) (same_shape c t g)
      (and_on (is_constant c.after id) (is_constant c.before id) _ _ (same_constant c id s)
      (λ h. of_type (λ u. literals_lead c.after ns u t) (λ u. literals_lead c.before ns u t) (λ u k. same_literals_lead c ns u t k) id s h))

  same_insert : (t o id : ℕ) (ns : List ℕ) → In c t → In c o → In c id → insert_fits c.after t o id ns ≡ insert_fits c.before t o id ns
  same_insert t o id ns g go s =
      ap₂ (λ p z. is_some p && z) (same_shape c t g)
      (and_on (is_constant c.after o) (is_constant c.before o) _ _ (same_constant c o go)
      (λ h.
      ap₂ (λ (y z : Bool). y && z) (same_has_type c t id s)
      (ap (literals_lead c.after ns t) (same_type_of c o go h) ∙ same_literals_lead c ns t (type_of c.before o) g)))

  same_operands : (form : Form) (t : ℕ) (ids : List ℕ) → In c t → AllByRecursion (In c) (operands_for form ids)
      → operands_fit c.after form t ids ≡ operands_fit c.before form t ids
  same_operands (Ints n) t ids g all = same_components n false false t ids g all
  same_operands (Bools n) t ids g all = same_components n true true t ids g all
  same_operands Compares t ids g all = same_components 2 false true t ids g all
  same_operands Selects t (x ∷ a ∷ b ∷ []) g all = same_select t x a b g all.0 all.1.0 all.1.1.0
  same_operands Shuffles t (a ∷ b ∷ ns) g all = same_shuffle t a b ns g all.0 all.1.0
  same_operands Extracts t (x ∷ ns) g all = same_extract t x ns g all.0
  same_operands Inserts t (o ∷ x ∷ ns) g all = same_insert t o x ns g all.0 all.1.0
  same_operands form t ids g all = refl

-- ---- its operands are other ids

module _ (t : Adding) (i : Instruction) (f : FactOf t i) where
  fits_after : opcode i ≡ op.SPEC_CONSTANT_OP → form_fits t.after (form_of (slice_index i.words 3)) (slice_index i.words 1) (drop 4 i.words) ≡ true
  fits_after is =
      let o = f.operation is in
      let operands = operands_others t.r t.before i f.whole is f.free.used o in
      ap (λ o. form_fits t.after o (slice_index i.words 1) (drop 4 i.words)) o.is
      ∙ same_operands (case_of t) o.form (slice_index i.words 1) (drop 4 i.words) (operation_type (In (case_of t)) i f.whole is f.free.used) operands
      ∙ o.fit

  pub operations_stay : spec_op_fits t.after i ≡ true
  unfolding spec_op_fits
  operations_stay = by (opcode i == op.SPEC_CONSTANT_OP) refl
    where
      by : (b : Bool) → (opcode i == op.SPEC_CONSTANT_OP) ≡ b
          → (not b || form_fits t.after (form_of (slice_index i.words 3)) (slice_index i.words 1) (drop 4 i.words)) ≡ true
      by true e = fits_after (eqb-true (opcode i) op.SPEC_CONSTANT_OP e)
      by false e = refl
