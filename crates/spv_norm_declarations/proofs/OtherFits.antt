-- 304, 306, 307, 308, 309: constants, decorations and global variables fit alike where ids are alike, and instructions of the same words declare the same.
use Rattle.std.proofs.Common.{◌≡◌, ℕ, suc, Bool, true, false, cond, not, ◌==◌, ◌&&◌, ◌||◌, nat_lt, List, [], ◌∷◌, ◌++◌, drop, length, Option, Some, None, refl, ap, ap₂, ◌∙◌}
use Rattle.std.specs.List.{list_all, list_any, slice_index}
use Rattle.std.specs.Option.{is_some}
use Rattle.spv_opcodes.specs.declared.op.TheConstants as op
use Rattle.spv_opcodes.specs.declared.decoration.TheConstants as decoration
use Rattle.spv_opcodes.specs.declared.builtin.TheConstants as builtin
use Rattle.spv_opcodes.specs.declared.storage_class.TheConstants as storage_class
use Rattle.spv_grammar.specs.Roles.{is_used_id}
use Rattle.spv_module.specs.Code.{is_function}
use Rattle.spv_module.specs.Instruction.{Instruction, opcode}
use Rattle.spv_meaning.specs.Statements as states
use Rattle.spv_meaning.specs.Statements.{Statement, said}
use Rattle.spv_meaning.specs.Meanings.{is_laid}
use Rattle.spv_meaning.specs.Types.{Member, Array, RuntimeArray, Struct}
use Rattle.spv_meaning.specs.Constants.{Table, IsType, IsConstant, Specialisation, member_decorated, defined, first_literal, given, length_at, members_of, type_at, with_entry}
use Rattle.spv_ids.specs.Ids.{words_with}
use Rattle.spv_typing.specs.Kinds.{is_one_of, is_vector, is_array, is_struct, is_pointer, is_constant, is_spec, is_triple, has_type, type_of, component, component_count, element, length_id, members, pointer_class, pointee}
use Rattle.spv_decorations.specs.Decorations.{decoration_of, has_decoration}
use Rattle.spv_decorations.specs.Targets.{memory_decorations, builtin_suits, suits, suits_member, decoration_fits}
use Rattle.spv_decorations.specs.Globals.{class_fits, builtin_fits, input_fits, block_fits, length_fits, initialiser_fits, variable_fits, global_fits}
use Rattle.spv_declarations.specs.Constants.{are_of, has_length, composite_fits, constant_fits}
use Rattle.spv_declarations.specs.Declarations.{Declared, says, entry_of, entry, is_specialised, declare}
use Rattle.spv_norm_declarations.proofs.Lookups.{LooksAlike, and_same, cond_same, fixed_vector, fixed_array, fixed_struct, fixed_pointer, fixed_constant, same_test, same_bool, same_int, same_vector, same_array, same_runtime_array, same_struct, same_pointer, same_closed, same_constant, same_has_type, same_spec, same_triple, same_variable_of, same_ends_open}

module _ (before after : List Instruction) (alike : LooksAlike before after) where
  -- ---- 304

  -- by induction on both lists
  same_are_of : (ts ids : List ℕ) → are_of after ts ids ≡ are_of before ts ids
  same_are_of [] [] = refl
  same_are_of [] (id ∷ ids) = refl
  same_are_of (t ∷ ts) [] = refl
  same_are_of (t ∷ ts) (id ∷ ids) = ap₂ (λ a b. a && b) (same_has_type before after alike t id) (same_are_of ts ids)

  all_typed : (t : ℕ) (ids : List ℕ) → list_all (has_type after t) ids ≡ list_all (has_type before t) ids
  all_typed t ids = ap (λ f. list_all f ids) (λ i id. same_has_type before after alike t id i)

  same_composite : (d : Declared) (t : ℕ) (ids : List ℕ) → composite_fits after d t ids ≡ composite_fits before d t ids
  same_composite d t ids =
      cond_same (is_vector before t) (is_vector after t) _ _ _ _ (same_vector before after alike t)
      (λ v.
      let f = fixed_vector before after alike t v in
      ap₂ (λ n c. (n == length ids) && list_all (has_type after c) ids) (f.word 3) (f.word 2)
      ∙ ap (λ b. (component_count before t == length ids) && b) (all_typed (component before t) ids))
      (cond_same (is_array before t) (is_array after t) _ _ _ _ (same_array before after alike t)
      (λ a.
      let f = fixed_array before after alike t a in
      ap₂ (λ n c. has_length d n (length ids) && list_all (has_type after c) ids) (f.word 3) (f.word 2)
      ∙ ap (λ b. has_length d (length_id before t) (length ids) && b) (all_typed (element before t) ids))
      (and_same (is_struct before t) (is_struct after t) _ _ (same_struct before after alike t)
      (λ s. ap (λ ts. are_of after ts ids) ((fixed_struct before after alike t s).words 2) ∙ same_are_of (members before t) ids)))

  not_specs : (ids : List ℕ) → list_all (λ id. not (is_spec after id)) ids ≡ list_all (λ id. not (is_spec before id)) ids
  not_specs ids = ap (λ f. list_all f ids) (λ i id. not (same_spec before after alike id i))

  pub same_constant_fits : (d : Declared) (i : Instruction) → constant_fits after d i ≡ constant_fits before d i
  same_constant_fits d i =
      let t = slice_index i.words 1 in
      let truths : Bool = is_one_of (op.CONSTANT_TRUE ∷ op.CONSTANT_FALSE ∷ op.SPEC_CONSTANT_TRUE ∷ op.SPEC_CONSTANT_FALSE ∷ []) (opcode i) in
      let numbers : Bool = is_one_of (op.CONSTANT ∷ op.SPEC_CONSTANT ∷ []) (opcode i) in
      cond_same truths truths _ _ _ _ refl (λ e. same_bool before after alike t)
      (cond_same numbers numbers _ _ _ _ refl (λ e. ap (λ b. b && (length (drop 3 i.words) == 1)) (same_int before after alike t))
      (cond_same (opcode i == op.CONSTANT_NULL) (opcode i == op.CONSTANT_NULL) _ _ _ _ refl (λ e. same_closed before after alike t)
      (cond_same (opcode i == op.UNDEF) (opcode i == op.UNDEF) _ _ _ _ refl (λ e. same_closed before after alike t)
      (cond_same (opcode i == op.SPEC_CONSTANT_COMPOSITE) (opcode i == op.SPEC_CONSTANT_COMPOSITE) _ _ _ _ refl (λ e. same_composite d t (drop 3 i.words))
      (cond_same (opcode i == op.CONSTANT_COMPOSITE) (opcode i == op.CONSTANT_COMPOSITE) _ _ true true refl
      (λ e. ap₂ (λ a b. a && b) (same_composite d t (drop 3 i.words)) (not_specs (drop 3 i.words))) refl)))))

  -- ---- 306

  same_builtin_suits : (t b : ℕ) → builtin_suits after t b ≡ builtin_suits before t b
  same_builtin_suits t b =
      cond_same (b == builtin.WORKGROUP_SIZE) (b == builtin.WORKGROUP_SIZE) _ _ _ _ refl
      (λ e.
      and_same (is_constant before t) (is_constant after t) _ _ (same_constant before after alike t)
      (λ c. ap (is_triple after) ((fixed_constant before after alike t c).word 1) ∙ same_triple before after alike (type_of before t)))
      (same_variable_of before after alike storage_class.INPUT t)

  same_suits : (t d l : ℕ) → suits after t d l ≡ suits before t d l
  same_suits t d l =
      cond_same (d == decoration.SPEC_ID) (d == decoration.SPEC_ID) _ _ _ _ refl
      (λ e. same_test before after alike (is_one_of (op.SPEC_CONSTANT_TRUE ∷ op.SPEC_CONSTANT_FALSE ∷ op.SPEC_CONSTANT ∷ []))
      (refl, (refl, (refl, (refl, tt)))) t)
      (cond_same (d == decoration.BLOCK) (d == decoration.BLOCK) _ _ _ _ refl (λ e. same_struct before after alike t)
      (cond_same (d == decoration.ARRAY_STRIDE) (d == decoration.ARRAY_STRIDE) _ _ _ _ refl
      (λ e. ap₂ (λ a b. a || b) (same_array before after alike t) (same_runtime_array before after alike t))
      (cond_same (d == decoration.BUILTIN) (d == decoration.BUILTIN) _ _ _ _ refl (λ e. same_builtin_suits t l)
      (cond_same (d == decoration.BINDING || d == decoration.DESCRIPTOR_SET) (d == decoration.BINDING || d == decoration.DESCRIPTOR_SET) _ _ _ _ refl
      (λ e. ap₂ (λ a b. a || b) (same_variable_of before after alike storage_class.UNIFORM t)
      (same_variable_of before after alike storage_class.STORAGE_BUFFER t))
      (ap (λ b. is_one_of memory_decorations d && b)
      (same_test before after alike (is_one_of (op.VARIABLE ∷ op.FUNCTION_PARAMETER ∷ [])) (refl, (refl, (refl, (refl, tt)))) t))))))

  same_suits_member : (t m d : ℕ) → suits_member after t m d ≡ suits_member before t m d
  same_suits_member t m d =
      ap (λ b. is_one_of (decoration.OFFSET ∷ memory_decorations) d && b)
      (and_same (is_struct before t) (is_struct after t) _ _ (same_struct before after alike t)
      (λ s. ap (λ ms. nat_lt m (length ms)) ((fixed_struct before after alike t s).words 2)))

  pub same_decoration_fits : (i : Instruction) → decoration_fits after i ≡ decoration_fits before i
  unfolding decoration_fits
  same_decoration_fits i =
      cond_same (opcode i == op.DECORATE) (opcode i == op.DECORATE) _ _ _ _ refl
      (λ e. same_suits (slice_index i.words 1) (slice_index i.words 2) (slice_index i.words 3))
      (cond_same (opcode i == op.MEMBER_DECORATE) (opcode i == op.MEMBER_DECORATE) _ _ true true refl
      (λ e. same_suits_member (slice_index i.words 1) (slice_index i.words 2) (slice_index i.words 3)) refl)

  -- ---- 308

  same_decoration_of : (id d : ℕ) → decoration_of after id d ≡ decoration_of before id d
  same_decoration_of id d = ap first_literal (alike.decorations id d)

  same_has_decoration : (id d : ℕ) → has_decoration after id d ≡ has_decoration before id d
  same_has_decoration id d = ap is_some (alike.decorations id d)

  same_builtin_fits : (t : ℕ) (b : Option ℕ) → builtin_fits after t b ≡ builtin_fits before t b
  same_builtin_fits t None = refl
  same_builtin_fits t (Some b) =
      cond_same (b == builtin.LOCAL_INVOCATION_INDEX) (b == builtin.LOCAL_INVOCATION_INDEX) _ _ _ _ refl (λ e. same_int before after alike t)
      (same_triple before after alike t)

  same_input : (class r t : ℕ) → input_fits after class r t ≡ input_fits before class r t
  same_input class r t =
      ap (λ z. not (class == storage_class.INPUT) || z)
      (ap (builtin_fits after t) (same_decoration_of r decoration.BUILTIN) ∙ same_builtin_fits t (decoration_of before r decoration.BUILTIN))

  same_block : (class t : ℕ) → block_fits after class t ≡ block_fits before class t
  same_block class t =
      ap (λ z. not (is_laid class) || z) (ap₂ (λ a b. a && b) (same_struct before after alike t) (same_has_decoration t decoration.BLOCK))

  same_length : (class t : ℕ) → length_fits after class t ≡ length_fits before class t
  same_length class t =
      ap₂ (λ a b. (class == storage_class.STORAGE_BUFFER) || not (a || b)) (same_runtime_array before after alike t) (same_ends_open before after alike t)

  same_initialiser : (class t : ℕ) (ids : List ℕ) → initialiser_fits after class t ids ≡ initialiser_fits before class t ids
  same_initialiser class t [] = refl
  same_initialiser class t (id ∷ ids) = ap (λ b. (class == storage_class.PRIVATE) && b) (same_has_type before after alike t id)

  same_class : (t class : ℕ) → class_fits after t class ≡ class_fits before t class
  same_class t class =
      ap (λ b. not (class == storage_class.FUNCTION) && b)
      (and_same (is_pointer before t) (is_pointer after t) _ _ (same_pointer before after alike t)
      (λ p. ap (λ c. c == class) ((fixed_pointer before after alike t p).word 2)))

  its_class : (t class : ℕ) → class_fits before t class ≡ true → is_pointer before t ≡ true
  its_class t class h = middle (not (class == storage_class.FUNCTION)) (is_pointer before t) (pointer_class before t == class) h where
    middle : (a b c : Bool) → (a && (b && c)) ≡ true → b ≡ true
    middle true true c h = refl
    middle true false c h = absurd (cc h)
    middle false b c h = absurd (cc h)

  pub same_variable : (t r class : ℕ) (ids : List ℕ) → variable_fits after t r class ids ≡ variable_fits before t r class ids
  same_variable t r class ids =
      and_same (class_fits before t class) (class_fits after t class) _ _ (same_class t class)
      (λ c.
      let p = pointee before t in
      ap (λ q. input_fits after class r q && (block_fits after class q && (length_fits after class q && initialiser_fits after class q ids)))
      ((fixed_pointer before after alike t (its_class t class c)).word 3)
      ∙ ap₂ (λ a b. a && (b && (length_fits after class p && initialiser_fits after class p ids))) (same_input class r p) (same_block class p)
      ∙ ap₂ (λ a b. input_fits before class r p && (block_fits before class p && (a && b))) (same_length class p) (same_initialiser class p ids))

  pub same_global_fits : (begun : Bool) (i : Instruction) → global_fits after begun i ≡ global_fits before begun i
  unfolding global_fits
  same_global_fits begun i =
      ap (λ z. begun || not (opcode i == op.VARIABLE) || z) (same_variable (slice_index i.words 1) (slice_index i.words 2) (slice_index i.words 3)
      (drop 4 i.words))

  -- ---- what is declared

  -- by induction on the members
  same_members_of : (table : Table) (id n : ℕ) (ts : List ℕ) → members_of (says after) table id n ts ≡ members_of (says before) table id n ts
  same_members_of table id n [] = refl
  same_members_of table id n (t ∷ ts) =
      ap₂ (λ o v. Member (first_literal o) (is_some v) (type_at table t) (members_of (says after) table id (suc n) ts))
      (alike.members id n decoration.OFFSET) (alike.members id n decoration.VOLATILE)
      ∙ ap (λ m.
      Member (first_literal (member_decorated (says before) id n decoration.OFFSET)) (is_some (member_decorated (says before) id n decoration.VOLATILE))
      (type_at table t) m)
      (same_members_of table id (suc n) ts)

  same_defined : (s : Specialisation) (table : Table) (st : Statement) → defined (says after) s table st ≡ defined (says before) s table st
  same_defined s table (states.TypeArray r e l) =
      ap (λ o. Some (r, IsType (Array (first_literal o) (length_at table l) (type_at table e)))) (alike.decorations r decoration.ARRAY_STRIDE)
  same_defined s table (states.TypeRuntimeArray r e) =
      ap (λ o. Some (r, IsType (RuntimeArray (first_literal o) (type_at table e)))) (alike.decorations r decoration.ARRAY_STRIDE)
  same_defined s table (states.TypeStruct r ms) = ap (λ m. Some (r, IsType (Struct m))) (same_members_of table r 0 ms)
  same_defined s table (states.SpecConstant t r ws) =
      ap (λ o. Some (r, IsConstant (type_at table t) (given o s (type_at table t) ws))) (alike.decorations r decoration.SPEC_ID)
  same_defined s table st = refl

  same_entry_of : (table : Table) (sts : List Statement) → entry_of (says after) table sts ≡ entry_of (says before) table sts
  same_entry_of table [] = refl
  same_entry_of table (st ∷ sts) = same_defined [] table st

  pub same_entry : (table : Table) (i : Instruction) → entry (says after) table i ≡ entry (says before) table i
  same_entry table i = same_entry_of table (said i.words [])

  same_specialised : (ids : List ℕ) (i : Instruction) → is_specialised (says after) ids i ≡ is_specialised (says before) ids i
  same_specialised ids i =
      ap (λ b.
      cond (is_one_of (op.SPEC_CONSTANT_TRUE ∷ op.SPEC_CONSTANT_FALSE ∷ op.SPEC_CONSTANT ∷ []) (opcode i)) b
      (is_one_of (op.SPEC_CONSTANT_COMPOSITE ∷ op.SPEC_CONSTANT_OP ∷ []) (opcode i) && list_any (is_one_of ids) (words_with is_used_id i)))
      (ap is_some (alike.decorations (slice_index i.words 2) decoration.SPEC_ID))

  pub same_declare : (d : Declared) (i : Instruction) → declare (says after) d i ≡ declare (says before) d i
  same_declare d i =
      ap₂ (λ e s. record {
        begun = d.begun || is_function i;
        table = cond d.begun d.table (with_entry d.table e);
        specialised = cond (not d.begun && s) (d.specialised ++ slice_index i.words 2 ∷ []) d.specialised;
      }) (same_entry d.table i) (same_specialised d.specialised i)
