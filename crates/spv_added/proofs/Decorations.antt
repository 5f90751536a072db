-- 306 and 308: decorations stand on other ids than the new one, and global variables point to other types; so they fit alike.
use Rattle.std.proofs.Common.{◌≡◌, ℕ, Bool, true, false, not, ◌==◌, ◌&&◌, ◌||◌, nat_lt, List, [], ◌∷◌, drop, length, Option, Some, None, refl, ap, ap₂, ◌∙◌, eqb-true}
use Rattle.std.specs.List.{AllByRecursion, list_any, slice_index}
use Rattle.spv_opcodes.specs.declared.op.TheConstants as op
use Rattle.spv_opcodes.specs.declared.decoration.TheConstants as decoration
use Rattle.spv_opcodes.specs.declared.builtin.TheConstants as builtin
use Rattle.spv_opcodes.specs.declared.storage_class.TheConstants as storage_class
use Rattle.spv_grammar.specs.Table.{row_of}
use Rattle.spv_module.specs.Instruction.{Instruction, opcode}
use Rattle.spv_meaning.specs.Constants.{first_literal}
use Rattle.spv_meaning.specs.Meanings.{is_laid}
use Rattle.spv_typing.specs.Kinds.{component, component_count, is_constant, is_int, is_one_of, is_pointer, is_triple, is_variable_of, is_vector, pointee, pointer_class, type_of}
use Rattle.spv_decorations.specs.Decorations.{decoration_of}
use Rattle.spv_decorations.specs.Globals.{block_fits, builtin_fits, class_fits, global_fits, initialiser_fits, input_fits, length_fits, variable_fits}
use Rattle.spv_decorations.specs.Targets.{builtin_suits, decoration_fits, memory_decorations, suits, suits_member}
use Rattle.spv_declarations.proofs.Parts.{first_typed, row_test}
use Rattle.spv_alike_uses.specs.Laws.{UsesWhatStays}
use Rattle.spv_alike_uses.proofs.Lookups.{Case, In, and_on, by_one, component_stays, pointee_stays, same_array, same_component, same_component_count, same_constant, same_ends_open, same_has_decoration, same_has_type, same_int, same_pointee, same_runtime_array, same_struct, same_type_of, same_vector, type_of_stays, where_true}
use Rattle.spv_alike_uses.proofs.Words.{word, words}
use Rattle.spv_added.proofs.Walk.{Adding, FactOf}
use Rattle.spv_added.proofs.Cases.{case_of, is_typed, result_stays, uses_what_stays}

module _ (c : Case) where
  same_triple : (t : ℕ) → In c t → is_triple c.after t ≡ is_triple c.before t
  same_triple t g =
      and_on (is_vector c.after t) (is_vector c.before t) _ _ (same_vector c t g)
      (λ h.
      ap₂ (λ u n. is_int c.after u && n == 3) (same_component c t g h) (same_component_count c t g h)
      ∙ ap (λ b. b && component_count c.before t == 3) (same_int c (component c.before t) (component_stays c t g h)))

  same_variable_of : (class id : ℕ) → In c id → is_variable_of c.after class id ≡ is_variable_of c.before class id
  same_variable_of class id = by_one c (λ test w ws. test op.VARIABLE && w 3 == class) false (λ w ws. refl) id

  -- ---- 306

  same_builtin_suits : (id b : ℕ) → In c id → builtin_suits c.after id b ≡ builtin_suits c.before id b
  same_builtin_suits id b g =
      where_true (b == builtin.WORKGROUP_SIZE) _ _ _ _
      (λ e.
      and_on (is_constant c.after id) (is_constant c.before id) _ _ (same_constant c id g)
      (λ h. ap (is_triple c.after) (same_type_of c id g h) ∙ same_triple (type_of c.before id) (type_of_stays c id g h)))
      (same_variable_of storage_class.INPUT id g)

  same_suits : (id d l : ℕ) → In c id → suits c.after id d l ≡ suits c.before id d l
  same_suits id d l g =
      where_true (d == decoration.SPEC_ID) _ _ _ _
      (λ e. by_one c (λ test w ws. list_any test (op.SPEC_CONSTANT_TRUE ∷ op.SPEC_CONSTANT_FALSE ∷ op.SPEC_CONSTANT ∷ [])) false (λ w ws. refl) id g)
      (where_true (d == decoration.BLOCK) _ _ _ _ (λ e. same_struct c id g)
      (where_true (d == decoration.ARRAY_STRIDE) _ _ _ _ (λ e. ap₂ (λ (a b : Bool). a || b) (same_array c id g) (same_runtime_array c id g))
      (where_true (d == decoration.BUILTIN) _ _ _ _ (λ e. same_builtin_suits id l g)
      (where_true (d == decoration.BINDING || d == decoration.DESCRIPTOR_SET) _ _ _ _
      (λ e. ap₂ (λ (a b : Bool). a || b) (same_variable_of storage_class.UNIFORM id g) (same_variable_of storage_class.STORAGE_BUFFER id g))
      (ap (λ b. is_one_of memory_decorations d && b)
      (by_one c (λ test w ws. list_any test (op.VARIABLE ∷ op.FUNCTION_PARAMETER ∷ [])) false (λ w ws. refl) id g))))))

  same_suits_member : (t m d : ℕ) → In c t → suits_member c.after t m d ≡ suits_member c.before t m d
  same_suits_member t m d g =
      ap (λ b. is_one_of (decoration.OFFSET ∷ memory_decorations) d && b)
      (by_one c (λ test w ws. test op.TYPE_STRUCT && nat_lt m (length (ws 2))) false (λ w ws. refl) t g)

  -- ---- 308

  same_builtin_fits : (t : ℕ) (b : Option ℕ) → In c t → builtin_fits c.after t b ≡ builtin_fits c.before t b
  same_builtin_fits t None g = refl
  same_builtin_fits t (Some b) g = where_true (b == builtin.LOCAL_INVOCATION_INDEX) _ _ _ _ (λ e. same_int c t g) (same_triple t g)

  same_input : (class r t : ℕ) → In c r → In c t → input_fits c.after class r t ≡ input_fits c.before class r t
  same_input class r t gr g =
      ap (λ z. not (class == storage_class.INPUT) || z)
      (ap (builtin_fits c.after t) (ap first_literal (c.alike.decorations r decoration.BUILTIN gr))
      ∙ same_builtin_fits t (decoration_of c.before r decoration.BUILTIN) g)

  same_block : (class t : ℕ) → In c t → block_fits c.after class t ≡ block_fits c.before class t
  same_block class t g =
      ap (λ z. not (is_laid class) || z) (ap₂ (λ (a b : Bool). a && b) (same_struct c t g) (same_has_decoration c t decoration.BLOCK g))

  same_length : (class t : ℕ) → In c t → length_fits c.after class t ≡ length_fits c.before class t
  same_length class t g = ap₂ (λ (a b : Bool). (class == storage_class.STORAGE_BUFFER) || not (a || b)) (same_runtime_array c t g) (same_ends_open c t g)

  same_initialiser : (class t : ℕ) (ids : List ℕ) → AllByRecursion (In c) ids → initialiser_fits c.after class t ids ≡ initialiser_fits c.before class t ids
  same_initialiser class t [] all = refl
  same_initialiser class t (id ∷ ids) all = ap (λ b. (class == storage_class.PRIVATE) && b) (same_has_type c t id all.0)

  same_class : (t class : ℕ) → In c t → class_fits c.after t class ≡ class_fits c.before t class
  same_class t class g =
      ap (λ b. not (class == storage_class.FUNCTION) && b) (by_one c (λ test w ws. test op.TYPE_POINTER && w 2 == class) false (λ w ws. refl) t g)

  its_pointer : (t class : ℕ) → class_fits c.before t class ≡ true → is_pointer c.before t ≡ true
  its_pointer t class h = middle (not (class == storage_class.FUNCTION)) (is_pointer c.before t) (pointer_class c.before t == class) h
    where
      middle : (a b c : Bool) → (a && (b && c)) ≡ true → b ≡ true
      middle true true c h = refl
      middle true false c h = absurd (cc h)
      middle false b c h = absurd (cc h)

  same_variable : (t r class : ℕ) (ids : List ℕ) → In c t → In c r → AllByRecursion (In c) ids
      → variable_fits c.after t r class ids ≡ variable_fits c.before t r class ids
  same_variable t r class ids g gr all =
      and_on (class_fits c.after t class) (class_fits c.before t class) _ _ (same_class t class g)
      (λ h.
      let is = its_pointer t class h in
      let p = pointee c.before t in
      let gp = pointee_stays c t g is in
      ap (λ q. input_fits c.after class r q && (block_fits c.after class q && (length_fits c.after class q && initialiser_fits c.after class q ids)))
      (same_pointee c t g is)
      ∙ ap₂ (λ (a b : Bool). a && (b && (length_fits c.after class p && initialiser_fits c.after class p ids)))
      (same_input class r p gr gp) (same_block class p gp)
      ∙ ap₂ (λ (a b : Bool). input_fits c.before class r p && (block_fits c.before class p && (a && b)))
      (same_length class p gp) (same_initialiser class p ids all))

variable_typed : row_test first_typed (row_of op.VARIABLE) ≡ true
unfolding row_of
variable_typed = refl

module _ (t : Adding) (i : Instruction) (f : FactOf t i) where
  uses : UsesWhatStays (λ id. id == t.r) i
  uses = uses_what_stays t i f

  pub same_decoration_fits : decoration_fits t.after i ≡ decoration_fits t.before i
  unfolding decoration_fits row_of
  same_decoration_fits =
      where_true (opcode i == op.DECORATE) _ _ _ _
      (λ h. same_suits (case_of t) (slice_index i.words 1) (slice_index i.words 2) (slice_index i.words 3) (word (case_of t) i uses 0 op.DECORATE refl h))
      (where_true (opcode i == op.MEMBER_DECORATE) _ _ _ _
      (λ h. same_suits_member (case_of t) (slice_index i.words 1) (slice_index i.words 2) (slice_index i.words 3)
      (word (case_of t) i uses 0 op.MEMBER_DECORATE refl h))
      refl)

  not_or : (b x y : Bool) → (b ≡ true → x ≡ y) → (not b || x) ≡ (not b || y)
  not_or true x y h = h refl
  not_or false x y h = refl

  or_front : (begun b x y : Bool) → (not b || x) ≡ (not b || y) → (begun || not b || x) ≡ (begun || not b || y)
  or_front true b x y h = refl
  or_front false b x y h = h

  pub same_global_fits : (begun : Bool) → global_fits t.after begun i ≡ global_fits t.before begun i
  unfolding global_fits row_of
  same_global_fits begun =
      let u = slice_index i.words 1 in
      let r = slice_index i.words 2 in
      let class = slice_index i.words 3 in
      or_front begun (opcode i == op.VARIABLE) (variable_fits t.after u r class (drop 4 i.words)) (variable_fits t.before u r class (drop 4 i.words))
      (not_or (opcode i == op.VARIABLE) (variable_fits t.after u r class (drop 4 i.words)) (variable_fits t.before u r class (drop 4 i.words))
      (λ h. same_variable (case_of t) u r class (drop 4 i.words) (word (case_of t) i uses 0 op.VARIABLE refl h)
      (result_stays t i f (is_typed (opcode i) op.VARIABLE (eqb-true (opcode i) op.VARIABLE h) variable_typed))
      (words (case_of t) i uses 3 op.VARIABLE refl h)))
