-- 304: constants fit alike, since their types, constituents and lengths are other ids than the new one, and what is declared of these is the same.
use Rattle.std.proofs.Common.{◌≡◌, ℕ, Bool, true, not, nat_le, ◌==◌, ◌&&◌, List, [], ◌∷◌, drop, length, refl, ap, ap₂, ◌∙◌}
use Rattle.std.specs.List.{AllByRecursion, list_all, list_any, slice_index}
use Rattle.spv_opcodes.specs.declared.op.TheConstants as op
use Rattle.spv_grammar.specs.Table.{row_of}
use Rattle.spv_module.specs.Instruction.{Instruction, opcode}
use Rattle.spv_typing.specs.Kinds.{component, component_count, element, has_type, is_array, is_one_of, is_spec, is_struct, is_vector, length_id, members, spec_constants}
use Rattle.spv_declarations.specs.Constants.{are_of, composite_fits, constant_fits, has_length}
use Rattle.spv_declarations.specs.Declarations.{Declared}
use Rattle.spv_meaning.specs.Constants.{length_in}
use Rattle.spv_alike_uses.specs.Laws.{UsesWhatStays}
use Rattle.spv_alike_uses.proofs.Lookups.{Case, In, all_on, and_on, by_one, length_stays, on, same_array, same_bool, same_closed, same_component, same_component_count, same_element, same_has_type, same_int, same_length_id, same_members, same_struct, same_vector, where_true}
use Rattle.spv_alike_uses.proofs.Words.{one_word, word, words}
use Rattle.spv_added.proofs.Declaring.{AgreeOn}

module _ (c : Case) where
  -- by induction on both lists
  same_are_of : (ts ids : List ℕ) → AllByRecursion (In c) ids → are_of c.after ts ids ≡ are_of c.before ts ids
  same_are_of [] [] all = refl
  same_are_of [] (id ∷ ids) all = refl
  same_are_of (t ∷ ts) [] all = refl
  same_are_of (t ∷ ts) (id ∷ ids) all = ap₂ (λ (a b : Bool). a && b) (same_has_type c t id all.0) (same_are_of ts ids all.1)

  all_typed : (t : ℕ) (ids : List ℕ) → AllByRecursion (In c) ids → list_all (has_type c.after t) ids ≡ list_all (has_type c.before t) ids
  all_typed t ids all = all_on (In c) (has_type c.after t) (has_type c.before t) (same_has_type c t) ids all

  -- what is declared of the length of an array
  same_has_length : (d e : Declared) → AgreeOn (In c) d e → (id n : ℕ) → In c id → has_length e id n ≡ has_length d id n
  same_has_length d e a id n g = ap₂ (λ (b : Bool) o. not b && (nat_le 1 n && length_in o == n)) (a.specialised id g) (a.table id g)

  same_composite : (d e : Declared) → AgreeOn (In c) d e → (t : ℕ) (ids : List ℕ) → In c t → AllByRecursion (In c) ids
      → composite_fits c.after e t ids ≡ composite_fits c.before d t ids
  same_composite d e a t ids g all =
      on (is_vector c.after t) (is_vector c.before t) _ _ _ _ (same_vector c t g)
      (λ h.
      ap₂ (λ n u. (n == length ids) && list_all (has_type c.after u) ids) (same_component_count c t g h) (same_component c t g h)
      ∙ ap (λ z. (component_count c.before t == length ids) && z) (all_typed (component c.before t) ids all))
      (on (is_array c.after t) (is_array c.before t) _ _ _ _ (same_array c t g)
      (λ h.
      ap₂ (λ n u. has_length e n (length ids) && list_all (has_type c.after u) ids) (same_length_id c t g h) (same_element c t g h)
      ∙ ap₂ (λ (y z : Bool). y && z) (same_has_length d e a (length_id c.before t) (length ids) (length_stays c t g h))
      (all_typed (element c.before t) ids all))
      (and_on (is_struct c.after t) (is_struct c.before t) _ _ (same_struct c t g)
      (λ h. ap (λ ts. are_of c.after ts ids) (same_members c t g h) ∙ same_are_of (members c.before t) ids all)))

  no_specs : (ids : List ℕ) → AllByRecursion (In c) ids → list_all (λ id. not (is_spec c.after id)) ids ≡ list_all (λ id. not (is_spec c.before id)) ids
  no_specs ids all =
      all_on (In c) (λ id. not (is_spec c.after id)) (λ id. not (is_spec c.before id))
      (λ id g. by_one c (λ test w ws. not (list_any test spec_constants)) true (λ w ws. refl) id g) ids all

  module _ (i : Instruction) (uses : UsesWhatStays c.gone i) where
    pub same_constant_fits : (d e : Declared) → AgreeOn (In c) d e → constant_fits c.after e i ≡ constant_fits c.before d i
    unfolding row_of
    same_constant_fits d e a =
        let t = slice_index i.words 1 in
        let truths : List ℕ = op.CONSTANT_TRUE ∷ op.CONSTANT_FALSE ∷ op.SPEC_CONSTANT_TRUE ∷ op.SPEC_CONSTANT_FALSE ∷ [] in
        let numbers : List ℕ = op.CONSTANT ∷ op.SPEC_CONSTANT ∷ [] in
        where_true (is_one_of truths (opcode i)) _ _ _ _ (λ h. same_bool c t (one_word c i uses 0 truths refl h))
        (where_true (is_one_of numbers (opcode i)) _ _ _ _
        (λ h. ap (λ z. z && (length (drop 3 i.words) == 1)) (same_int c t (one_word c i uses 0 numbers refl h)))
        (where_true (opcode i == op.CONSTANT_NULL) _ _ _ _ (λ h. same_closed c t (word c i uses 0 op.CONSTANT_NULL refl h))
        (where_true (opcode i == op.UNDEF) _ _ _ _ (λ h. same_closed c t (word c i uses 0 op.UNDEF refl h))
        (where_true (opcode i == op.SPEC_CONSTANT_COMPOSITE) _ _ _ _
        (λ h. same_composite d e a t (drop 3 i.words) (word c i uses 0 op.SPEC_CONSTANT_COMPOSITE refl h) (words c i uses 2 op.SPEC_CONSTANT_COMPOSITE refl h))
        (where_true (opcode i == op.CONSTANT_COMPOSITE) _ _ _ _
        (λ h.
        let all = words c i uses 2 op.CONSTANT_COMPOSITE refl h in
        ap₂ (λ (a b : Bool). a && b) (same_composite d e a t (drop 3 i.words) (word c i uses 0 op.CONSTANT_COMPOSITE refl h) all)
        (no_specs (drop 3 i.words) all))
        refl)))))
