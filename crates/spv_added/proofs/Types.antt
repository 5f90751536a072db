-- 303: types are made of other ids than the new one, so they fit alike.
use Rattle.std.proofs.Common.{◌≡◌, ℕ, Bool, false, cond, ◌==◌, ◌&&◌, ◌||◌, nat_le, List, [], ◌∷◌, drop, refl, ap, ap₂, ◌∙◌}
use Rattle.std.specs.List.{AllByRecursion, slice_index}
use Rattle.spv_opcodes.specs.declared.op.TheConstants as op
use Rattle.spv_grammar.specs.Table.{row_of}
use Rattle.spv_module.specs.Instruction.{Instruction, opcode}
use Rattle.spv_typing.specs.Kinds.{is_constant, is_int, type_of}
use Rattle.spv_typing.specs.Types.{array_fits, class_fits, function_fits, int_fits, last_fits, parameter_fits, pointer_fits, struct_fits, type_fits, vector_fits}
use Rattle.spv_alike_uses.specs.Laws.{UsesWhatStays}
use Rattle.spv_alike_uses.proofs.Lookups.{Case, In, all_on, and_on, by_one, same_bool, same_closed, same_constant, same_data, same_int, same_runtime_array, same_type_of, same_void, type_of_stays, where_true}
use Rattle.spv_alike_uses.proofs.Words.{word, words}

module _ (c : Case) where
  same_vector : (t n : ℕ) → In c t → vector_fits c.after t n ≡ vector_fits c.before t n
  same_vector t n g = ap₂ (λ (a b : Bool). (a || b) && (nat_le 2 n && nat_le n 4)) (same_bool c t g) (same_int c t g)

  same_array : (t id : ℕ) → In c t → In c id → array_fits c.after t id ≡ array_fits c.before t id
  same_array t id g s =
      ap₂ (λ (a b : Bool). a && b) (same_closed c t g)
      (and_on (is_constant c.after id) (is_constant c.before id) _ _ (same_constant c id s)
      (λ h. ap (is_int c.after) (same_type_of c id s h) ∙ same_int c (type_of c.before id) (type_of_stays c id s h)))

  same_last : (t : ℕ) → In c t → last_fits c.after t ≡ last_fits c.before t
  same_last t g = ap₂ (λ (a b : Bool). a || b) (same_closed c t g) (same_runtime_array c t g)

  -- by induction on the members
  same_struct : (ts : List ℕ) → AllByRecursion (In c) ts → struct_fits c.after ts ≡ struct_fits c.before ts
  same_struct [] all = refl
  same_struct (t ∷ []) all = same_last t all.0
  same_struct (t ∷ u ∷ ts) all = ap₂ (λ (a b : Bool). a && b) (same_closed c t all.0) (same_struct (u ∷ ts) all.1)

  same_pointer : (t : ℕ) → In c t → pointer_fits c.after t ≡ pointer_fits c.before t
  same_pointer t g = ap₂ (λ (a b : Bool). a || b) (same_data c t g) (same_runtime_array c t g)

  same_parameter : (t : ℕ) → In c t → parameter_fits c.after t ≡ parameter_fits c.before t
  same_parameter t g =
      ap₂ (λ (a b : Bool). a || b) (same_data c t g) (by_one c (λ test w ws. test op.TYPE_POINTER && class_fits (w 2)) false (λ w ws. refl) t g)

  same_function : (t : ℕ) (ts : List ℕ) → In c t → AllByRecursion (In c) ts → function_fits c.after t ts ≡ function_fits c.before t ts
  same_function t ts g all =
      ap₂ (λ (a b : Bool). a && b) (ap₂ (λ (a b : Bool). a || b) (same_void c t g) (same_data c t g))
      (all_on (In c) (parameter_fits c.after) (parameter_fits c.before) same_parameter ts all)

  module _ (i : Instruction) (uses : UsesWhatStays c.gone i) where
    pub same_type_fits : type_fits c.after i ≡ type_fits c.before i
    unfolding type_fits row_of
    same_type_fits =
        ap (λ z. cond (opcode i == op.TYPE_INT) (int_fits (slice_index i.words 2) (slice_index i.words 3)) z)
        (where_true (opcode i == op.TYPE_VECTOR) _ _ _ _
        (λ h. same_vector (slice_index i.words 2) (slice_index i.words 3) (word c i uses 1 op.TYPE_VECTOR refl h))
        (where_true (opcode i == op.TYPE_ARRAY) _ _ _ _
        (λ h. same_array (slice_index i.words 2) (slice_index i.words 3) (word c i uses 1 op.TYPE_ARRAY refl h) (word c i uses 2 op.TYPE_ARRAY refl h))
        (where_true (opcode i == op.TYPE_RUNTIME_ARRAY) _ _ _ _
        (λ h. same_closed c (slice_index i.words 2) (word c i uses 1 op.TYPE_RUNTIME_ARRAY refl h))
        (where_true (opcode i == op.TYPE_STRUCT) _ _ _ _
        (λ h. same_struct (drop 2 i.words) (words c i uses 1 op.TYPE_STRUCT refl h))
        (where_true (opcode i == op.TYPE_POINTER) _ _ _ _
        (λ h. same_pointer (slice_index i.words 3) (word c i uses 2 op.TYPE_POINTER refl h))
        (where_true (opcode i == op.TYPE_FUNCTION) _ _ _ _
        (λ h. same_function (slice_index i.words 2) (drop 3 i.words) (word c i uses 1 op.TYPE_FUNCTION refl h) (words c i uses 2 op.TYPE_FUNCTION refl h))
        refl))))))
