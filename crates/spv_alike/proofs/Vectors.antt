-- Rules on vectors are broken alike.
use Rattle.std.proofs.Common.{◌≡◌, ℕ, ◌+◌, Bool, true, false, cond, ◌==◌, ◌&&◌, ◌||◌, not, List, length, drop, Option, is_some, refl, ap, ap₂, ◌∙◌}
use Rattle.std.proofs.Math.Path.{fun_ext}
use Rattle.std.specs.List.{slice_index}
use Rattle.std.specs.Option.{option_map_or}
use Rattle.spv_opcodes.specs.declared.op.TheConstants as op
use Rattle.spv_module.specs.Instruction.{Instruction, opcode}
use Rattle.spv_typing.specs.Kinds.{is_vector, component, component_count}
use Rattle.spv_typing.specs.Operations.{all_pick}
use Rattle.spv_values.specs.Values.{is_value, is_value_of}
use Rattle.spv_composites.specs.Vectors.{vector_type, takes_component, is_component_of, is_component_for, sets_component, suits_shuffle, shuffles_types, shuffles}
use Rattle.spv_composites.specs.Vectors.{vector_operands_fit, vector_result_fits}
use Rattle.spv_alike.specs.Alike.{AreAlike}
use Rattle.spv_alike.proofs.Lookups.{by_one, by_both, same_vector, same_component, same_component_count, same_ints, same_is_value, same_value_of}
use Rattle.spv_alike.proofs.Guarded.{branch, same_vector_type, by_vector}

module _ (before after : List Instruction) (alike : AreAlike before after) where
  same_takes : (v index : ℕ) → takes_component after v index ≡ takes_component before v index
  same_takes v index =
      ap₂ (λ (o : Option ℕ) (b : Bool). is_some o && b) (same_vector_type before after alike v) (same_ints before after alike 1 index)

  same_component_of : (v t : ℕ) → is_component_of after v t ≡ is_component_of before v t
  same_component_of v t =
      by_vector before after alike (λ u. component after u == t) (λ u. component before u == t) false
      (λ u h. ap (λ (x : ℕ). x == t) (same_component before after alike u h)) v

  same_component_for : (t id : ℕ) → is_component_for after t id ≡ is_component_for before t id
  same_component_for t id =
      ap (λ (b : Bool). cond (is_vector after t) (is_value_of after (component after t) id) b) (same_is_value before after alike id)
      ∙ by_both before after alike (λ (r : ℕ → Bool) k w ws. cond (k == op.TYPE_VECTOR) (r (w 2)) (is_value before id)) (is_value before id)
      (λ u. is_value_of after u id) (λ u. is_value_of before u id) (fun_ext (λ u. same_value_of before after alike u id))
      (λ w ws. (refl, refl, refl, refl)) t

  same_sets : (t v x index : ℕ) → sets_component after t v x index ≡ sets_component before t v x index
  same_sets t v x index =
      ap₂ (λ (a b : Bool). a && b) (same_value_of before after alike t v)
      (ap₂ (λ (a b : Bool). a && b) (same_component_for t x) (same_ints before after alike 1 index))

  same_suits : (t x n : ℕ) → suits_shuffle after t x n ≡ suits_shuffle before t x n
  same_suits t x n =
      by_one before after alike (λ k w ws. not (k == op.TYPE_VECTOR) || (w 2 == x && w 3 == n)) true (λ w ws. (refl, refl, refl, refl)) t

  same_shuffled : (t u w : ℕ) (literals : List ℕ) → is_vector before u ≡ true → is_vector before w ≡ true →
      shuffles_types after t u w literals ≡ shuffles_types before t u w literals
  same_shuffled t u w literals hu hw =
      ap (λ (b : Bool). component after u == component after w && (all_pick (component_count after u + component_count after w) literals && b))
      (same_suits t (component after u) (length literals))
      ∙ ap₂ (λ (x y : ℕ). x == y && (all_pick (component_count after u + component_count after w) literals && suits_shuffle before t x (length literals)))
      (same_component before after alike u hu) (same_component before after alike w hw)
      ∙ ap₂ (λ (n m : ℕ). component before u == component before w && (all_pick (n + m) literals && suits_shuffle before t (component before u) (length literals)))
      (same_component_count before after alike u hu) (same_component_count before after alike w hw)

  same_shuffles : (t a b : ℕ) (literals : List ℕ) → shuffles after t a b literals ≡ shuffles before t a b literals
  same_shuffles t a b literals =
      by_vector before after alike
      (λ u. option_map_or (λ w. shuffles_types after t u w literals) (vector_type after b) false)
      (λ u. option_map_or (λ w. shuffles_types before t u w literals) (vector_type before b) false) false
      (λ u hu. by_vector before after alike (λ w. shuffles_types after t u w literals) (λ w. shuffles_types before t u w literals) false
      (λ w hw. same_shuffled t u w literals hu hw) b) a

  pub same_vector_operands : (i : Instruction) → vector_operands_fit after i ≡ vector_operands_fit before i
  unfolding vector_operands_fit
  same_vector_operands i =
      branch (opcode i == op.VECTOR_EXTRACT_DYNAMIC) _ _ _ _ (same_takes (slice_index i.words 3) (slice_index i.words 4))
      (branch (opcode i == op.VECTOR_INSERT_DYNAMIC) _ _ _ _
      (same_sets (slice_index i.words 1) (slice_index i.words 3) (slice_index i.words 4) (slice_index i.words 5))
      (branch (opcode i == op.VECTOR_SHUFFLE) _ _ _ _ (same_shuffles (slice_index i.words 1) (slice_index i.words 3) (slice_index i.words 4) (drop 5 i.words))
      refl))

  pub same_vector_result : (i : Instruction) → vector_result_fits after i ≡ vector_result_fits before i
  unfolding vector_result_fits
  same_vector_result i =
      branch (opcode i == op.VECTOR_EXTRACT_DYNAMIC) _ _ _ _ (same_component_of (slice_index i.words 3) (slice_index i.words 1))
      (branch (opcode i == op.VECTOR_INSERT_DYNAMIC) _ _ _ _ (same_vector before after alike (slice_index i.words 1))
      (branch (opcode i == op.VECTOR_SHUFFLE) _ _ _ _ (same_vector before after alike (slice_index i.words 1))
      refl))
