-- Rules on vectors are broken alike.
use Rattle.std.proofs.Common.{◌≡◌, ℕ, ◌+◌, Bool, true, false, ◌==◌, ◌&&◌, ◌||◌, not, List, length, drop, Option, is_some, refl, ap, ap₂, ◌∙◌}
use Rattle.std.specs.List.{slice_index}
use Rattle.std.specs.Option.{option_map_or}
use Rattle.spv_opcodes.specs.declared.op.TheConstants as op
use Rattle.spv_grammar.specs.Table.{row_of}
use Rattle.spv_module.specs.Instruction.{Instruction, opcode}
use Rattle.spv_typing.specs.Kinds.{is_vector, component, component_count}
use Rattle.spv_typing.specs.Operations.{all_pick}
use Rattle.spv_values.specs.Values.{is_value_of}
use Rattle.spv_composites.specs.Vectors.{vector_type, takes_component, is_component_of, is_component_for, sets_component, suits_shuffle, shuffles_types, shuffles}
use Rattle.spv_composites.specs.Vectors.{vector_operands_fit, vector_result_fits}
use Rattle.spv_alike_uses.specs.Laws.{UsesWhatStays}
use Rattle.spv_alike_uses.proofs.Lookups.{Case, In, on, or_on, where_true, by_one, same_vector, same_component, same_component_count, same_ints, same_is_value, same_value_of}
use Rattle.spv_alike_uses.proofs.Lookups.{passing_type, passing_stays}
use Rattle.spv_alike_uses.proofs.Words.{word}

module _ (c : Case) where
  same_vector_type : (id : ℕ) → In c id → vector_type c.after id ≡ vector_type c.before id
  same_vector_type = passing_type c (is_vector c.after) (is_vector c.before) (same_vector c)

  -- what is read of the type of a vector
  by_vector : {A : Type 0} (f g : ℕ → A) (z : A) → ((t : ℕ) → In c t → is_vector c.before t ≡ true → f t ≡ g t) → (id : ℕ) → In c id
      → option_map_or f (vector_type c.after id) z ≡ option_map_or g (vector_type c.before id) z
  by_vector f g z h id s =
      ap (λ (o : Option ℕ). option_map_or f o z) (same_vector_type id s)
      ∙ or_on f g z (vector_type c.before id) (λ t e. let p = passing_stays c (is_vector c.before) id t s e in h t p.0 p.1)

  same_takes : (v index : ℕ) → In c v → In c index → takes_component c.after v index ≡ takes_component c.before v index
  same_takes v index gv gi = ap₂ (λ (o : Option ℕ) (b : Bool). is_some o && b) (same_vector_type v gv) (same_ints c 1 index gi)

  same_component_of : (v t : ℕ) → In c v → is_component_of c.after v t ≡ is_component_of c.before v t
  same_component_of v t =
      by_vector (λ u. component c.after u == t) (λ u. component c.before u == t) false (λ u g h. ap (λ (x : ℕ). x == t) (same_component c u g h)) v

  same_component_for : (t id : ℕ) → In c t → In c id → is_component_for c.after t id ≡ is_component_for c.before t id
  same_component_for t id gt g =
      on (is_vector c.after t) (is_vector c.before t) _ _ _ _ (same_vector c t gt)
      (λ h. ap (λ (u : ℕ). is_value_of c.after u id) (same_component c t gt h) ∙ same_value_of c (component c.before t) id g) (same_is_value c id g)

  same_sets : (t v x index : ℕ) → In c t → In c v → In c x → In c index → sets_component c.after t v x index ≡ sets_component c.before t v x index
  same_sets t v x index gt gv gx gi =
      ap₂ (λ (a b : Bool). a && b) (same_value_of c t v gv) (ap₂ (λ (a b : Bool). a && b) (same_component_for t x gt gx) (same_ints c 1 index gi))

  same_suits : (t x n : ℕ) → In c t → suits_shuffle c.after t x n ≡ suits_shuffle c.before t x n
  same_suits t x n = by_one c (λ test w ws. not (test op.TYPE_VECTOR) || (w 2 == x && w 3 == n)) true (λ w ws. refl) t

  same_shuffled : (t u w : ℕ) (literals : List ℕ) → In c t → In c u → In c w → is_vector c.before u ≡ true → is_vector c.before w ≡ true
      → shuffles_types c.after t u w literals ≡ shuffles_types c.before t u w literals
  same_shuffled t u w literals gt gu gw hu hw =
      ap (λ (b : Bool). component c.after u == component c.after w && (all_pick (component_count c.after u + component_count c.after w) literals && b))
      (same_suits t (component c.after u) (length literals) gt)
      ∙ ap₂ (λ (x y : ℕ). x == y && (all_pick (component_count c.after u + component_count c.after w) literals && suits_shuffle c.before t x (length literals)))
      (same_component c u gu hu) (same_component c w gw hw)
      ∙ ap₂ (λ (n m : ℕ). component c.before u == component c.before w && (all_pick (n + m) literals && suits_shuffle c.before t (component c.before u) (length literals)))
      (same_component_count c u gu hu) (same_component_count c w gw hw)

  same_shuffles : (t a b : ℕ) (literals : List ℕ) → In c t → In c a → In c b → shuffles c.after t a b literals ≡ shuffles c.before t a b literals
  same_shuffles t a b literals gt ga gb =
      by_vector
      (λ u. option_map_or (λ w. shuffles_types c.after t u w literals) (vector_type c.after b) false)
      (λ u. option_map_or (λ w. shuffles_types c.before t u w literals) (vector_type c.before b) false) false
      (λ u gu hu. by_vector (λ w. shuffles_types c.after t u w literals) (λ w. shuffles_types c.before t u w literals) false
      (λ w gw hw. same_shuffled t u w literals gt gu gw hu hw) b gb) a ga

  module _ (i : Instruction) (uses : UsesWhatStays c.gone i) where
    pub same_vector_operands : vector_operands_fit c.after i ≡ vector_operands_fit c.before i
    unfolding vector_operands_fit row_of
    same_vector_operands =
        where_true (opcode i == op.VECTOR_EXTRACT_DYNAMIC) _ _ _ _
        (λ h. same_takes (slice_index i.words 3) (slice_index i.words 4)
        (word c i uses 2 op.VECTOR_EXTRACT_DYNAMIC refl h) (word c i uses 3 op.VECTOR_EXTRACT_DYNAMIC refl h))
        (where_true (opcode i == op.VECTOR_INSERT_DYNAMIC) _ _ _ _
        (λ h. same_sets (slice_index i.words 1) (slice_index i.words 3) (slice_index i.words 4) (slice_index i.words 5)
        (word c i uses 0 op.VECTOR_INSERT_DYNAMIC refl h) (word c i uses 2 op.VECTOR_INSERT_DYNAMIC refl h)
        (word c i uses 3 op.VECTOR_INSERT_DYNAMIC refl h) (word c i uses 4 op.VECTOR_INSERT_DYNAMIC refl h))
        (where_true (opcode i == op.VECTOR_SHUFFLE) _ _ _ _
        (λ h. same_shuffles (slice_index i.words 1) (slice_index i.words 3) (slice_index i.words 4) (drop 5 i.words)
        (word c i uses 0 op.VECTOR_SHUFFLE refl h) (word c i uses 2 op.VECTOR_SHUFFLE refl h) (word c i uses 3 op.VECTOR_SHUFFLE refl h))
        refl))

    pub same_vector_result : vector_result_fits c.after i ≡ vector_result_fits c.before i
    unfolding vector_result_fits row_of
    same_vector_result =
        where_true (opcode i == op.VECTOR_EXTRACT_DYNAMIC) _ _ _ _
        (λ h. same_component_of (slice_index i.words 3) (slice_index i.words 1) (word c i uses 2 op.VECTOR_EXTRACT_DYNAMIC refl h))
        (where_true (opcode i == op.VECTOR_INSERT_DYNAMIC) _ _ _ _
        (λ h. same_vector c (slice_index i.words 1) (word c i uses 0 op.VECTOR_INSERT_DYNAMIC refl h))
        (where_true (opcode i == op.VECTOR_SHUFFLE) _ _ _ _
        (λ h. same_vector c (slice_index i.words 1) (word c i uses 0 op.VECTOR_SHUFFLE refl h))
        refl))
