-- Rules on loads, stores, pointers into pointers' targets and atomics are broken alike.
use Rattle.std.proofs.Common.{◌≡◌, ℕ, ◌+◌, Bool, false, cond, ◌==◌, ◌&&◌, ◌||◌, not, is_some, List, [], ◌∷◌, length, drop, Option, Some, None, refl, ap, ap₂}
use Rattle.std.proofs.Math.Path.{fun_ext}
use Rattle.std.specs.List.{list_all, slice_get, slice_index}
use Rattle.std.specs.Option.{option_and_then, option_map_or}
use Rattle.spv_opcodes.specs.declared.op.TheConstants as op
use Rattle.spv_module.specs.Instruction.{Instruction, opcode}
use Rattle.spv_ids.specs.Ids.{kind, word_of}
use Rattle.spv_typing.specs.Kinds.{is_one_of, is_runtime_array, is_int, pointer_class, last_id, ends_open, members}
use Rattle.spv_typing.specs.Operations.{leads_to, part_behind}
use Rattle.spv_values.specs.Values.{is_value_of}
use Rattle.spv_composites.specs.Memory.{target_of, has_runtime_array, loads, stores, part_picked, part_indexed, chain_along, chain_target, has_class}
use Rattle.spv_composites.specs.Memory.{is_chain_to, measures, is_unsigned, acts, atomics, memory_operands_fit, atomic_operands_fit, memory_result_fits, atomic_result_fits}
use Rattle.spv_alike.specs.Alike.{AreAlike}
use Rattle.spv_alike.proofs.Lookups.{by_one, by_both, same_runtime_array, same_ends_open, same_closed, same_pointer_class, same_ints, same_int, same_value_of}
use Rattle.spv_alike.proofs.Guarded.{branch, by_pointer, same_target}

module _ (before after : List Instruction) (alike : AreAlike before after) where
  same_has_runtime : (t : ℕ) → has_runtime_array after t ≡ has_runtime_array before t
  same_has_runtime t = ap₂ (λ (a b : Bool). a || b) (same_runtime_array before after alike t) (same_ends_open before after alike t)

  same_loads : (t p : ℕ) → loads after t p ≡ loads before t p
  same_loads t p = ap₂ (λ (o : Option ℕ) (b : Bool). leads_to t o && not b) (same_target before after alike p) (same_has_runtime t)

  -- what is asked of what a pointer points to
  at_target : (f g : ℕ → Bool) → ((u : ℕ) → f u ≡ g u) → (p : ℕ) → option_map_or f (target_of after p) false ≡ option_map_or g (target_of before p) false
  at_target f g h p = ap₂ (λ (q : ℕ → Bool) (o : Option ℕ). option_map_or q o false) (fun_ext h) (same_target before after alike p)

  same_stores : (p v : ℕ) → stores after p v ≡ stores before p v
  same_stores p v = at_target (λ u. is_value_of after u v) (λ u. is_value_of before u v) (λ u. same_value_of before after alike u v) p

  -- the member that a constant picks of some
  picked_of : (insts : List Instruction) → (members : List ℕ) (index : ℕ) → Option ℕ
  picked_of insts ms index = cond (kind insts index == op.CONSTANT) (slice_get ms (word_of insts index 3)) None

  same_picked_of : (ms : List ℕ) (index : ℕ) → picked_of after ms index ≡ picked_of before ms index
  unfolding picked_of
  same_picked_of ms =
      by_one before after alike (λ k w ws. cond (k == op.CONSTANT) (slice_get ms (w 3)) None) None (λ w ws. (refl, refl, refl, refl))

  same_part_picked : (t index : ℕ) → part_picked after t index ≡ part_picked before t index
  unfolding picked_of
  same_part_picked t index =
      by_both before after alike (λ (r : List ℕ → Option ℕ) k w ws.
      cond (k == op.TYPE_STRUCT) (r (ws 2))
      (cond (k == op.TYPE_ARRAY || k == op.TYPE_RUNTIME_ARRAY) (Some (w 2))
      (cond (k == op.TYPE_VECTOR) (Some (w 2)) None))) None
      (λ ms. picked_of after ms index) (λ ms. picked_of before ms index) (fun_ext (λ ms. same_picked_of ms index))
      (λ w ws. (refl, refl, refl, refl)) t

  same_part_indexed : (t index : ℕ) → part_indexed after t index ≡ part_indexed before t index
  same_part_indexed t index =
      ap₂ (λ (b : Bool) (o : Option ℕ). cond b o None) (same_ints before after alike 1 index) (same_part_picked t index)

  -- induction on the indexes
  same_chain_along : (indexes : List ℕ) (t : ℕ) → chain_along after indexes t ≡ chain_along before indexes t
  same_chain_along [] t = refl
  same_chain_along (index ∷ rest) t = ap₂ part_behind (fun_ext (same_chain_along rest)) (same_part_indexed t index)

  same_chain_target : (base : ℕ) (indexes : List ℕ) → chain_target after base indexes ≡ chain_target before base indexes
  same_chain_target base indexes =
      ap₂ (λ (f : ℕ → Option ℕ) (o : Option ℕ). option_and_then f o) (fun_ext (same_chain_along indexes)) (same_target before after alike base)

  same_has_class : (class base : ℕ) → has_class after class base ≡ has_class before class base
  same_has_class class base =
      by_pointer before after alike (λ u. pointer_class after u == class) (λ u. pointer_class before u == class) false
      (λ u h. ap (λ (x : ℕ). x == class) (same_pointer_class before after alike u h)) base

  same_chain_to : (t base : ℕ) (indexes : List ℕ) → is_chain_to after t base indexes ≡ is_chain_to before t base indexes
  same_chain_to t base indexes =
      by_both before after alike (λ (r : ℕ → ℕ → Bool) k w ws. k == op.TYPE_POINTER && r (w 2) (w 3)) false
      (λ c p. has_class after c base && leads_to p (chain_target after base indexes))
      (λ c p. has_class before c base && leads_to p (chain_target before base indexes))
      (fun_ext (λ c. fun_ext (λ p. ap₂ (λ (b : Bool) (o : Option ℕ). b && leads_to p o) (same_has_class c base) (same_chain_target base indexes))))
      (λ w ws. (refl, refl, refl, refl)) t

  same_measured : (m u : ℕ) → (ends_open after u && m + 1 == length (members after u)) ≡ (ends_open before u && m + 1 == length (members before u))
  same_measured m =
      by_both before after alike (λ (r : ℕ → Bool) k w ws. (k == op.TYPE_STRUCT && r (last_id (ws 2))) && m + 1 == length (ws 2)) false
      (is_runtime_array after) (is_runtime_array before) (fun_ext (same_runtime_array before after alike)) (λ w ws. (refl, refl, refl, refl))

  same_measures : (p m : ℕ) → measures after p m ≡ measures before p m
  same_measures p m =
      at_target (λ u. ends_open after u && m + 1 == length (members after u)) (λ u. ends_open before u && m + 1 == length (members before u))
      (same_measured m) p

  same_unsigned : (t : ℕ) → is_unsigned after t ≡ is_unsigned before t
  same_unsigned = by_one before after alike (λ k w ws. k == op.TYPE_INT && w 3 == 0) false (λ w ws. (refl, refl, refl, refl))

  same_acts : (p : ℕ) (vs : List ℕ) → acts after p vs ≡ acts before p vs
  same_acts p vs =
      at_target (λ u. is_int after u && list_all (is_value_of after u) vs) (λ u. is_int before u && list_all (is_value_of before u) vs)
      (λ u. ap₂ (λ (b : Bool) (f : ℕ → Bool). b && list_all f vs) (same_int before after alike u) (fun_ext (same_value_of before after alike u))) p

  pub same_memory_operands : (i : Instruction) → memory_operands_fit after i ≡ memory_operands_fit before i
  unfolding memory_operands_fit
  same_memory_operands i =
      branch (opcode i == op.LOAD) _ _ _ _ (same_loads (slice_index i.words 1) (slice_index i.words 3))
      (branch (opcode i == op.STORE) _ _ _ _ (same_stores (slice_index i.words 1) (slice_index i.words 2))
      (branch (is_one_of (op.ACCESS_CHAIN ∷ op.IN_BOUNDS_ACCESS_CHAIN ∷ []) (opcode i)) _ _ _ _
      (ap (λ (o : Option ℕ). is_some o) (same_chain_target (slice_index i.words 3) (drop 4 i.words)))
      (branch (opcode i == op.ARRAY_LENGTH) _ _ _ _ (same_measures (slice_index i.words 3) (slice_index i.words 4))
      refl)))

  pub same_atomic_operands : (i : Instruction) → atomic_operands_fit after i ≡ atomic_operands_fit before i
  unfolding atomic_operands_fit
  same_atomic_operands i =
      branch (is_one_of atomics (opcode i)) _ _ _ _ (same_acts (slice_index i.words 3) (drop 6 i.words))
      (branch (opcode i == op.ATOMIC_COMPARE_EXCHANGE) _ _ _ _ (same_acts (slice_index i.words 3) (drop 7 i.words))
      (branch (opcode i == op.ATOMIC_STORE) _ _ _ _ (same_acts (slice_index i.words 1) (drop 4 i.words))
      refl))

  pub same_memory_result : (i : Instruction) → memory_result_fits after i ≡ memory_result_fits before i
  unfolding memory_result_fits
  same_memory_result i =
      branch (opcode i == op.LOAD) _ _ _ _ (same_closed before after alike (slice_index i.words 1))
      (branch (is_one_of (op.ACCESS_CHAIN ∷ op.IN_BOUNDS_ACCESS_CHAIN ∷ []) (opcode i)) _ _ _ _
      (same_chain_to (slice_index i.words 1) (slice_index i.words 3) (drop 4 i.words))
      (branch (opcode i == op.ARRAY_LENGTH) _ _ _ _ (same_unsigned (slice_index i.words 1))
      refl))

  pub same_atomic_result : (i : Instruction) → atomic_result_fits after i ≡ atomic_result_fits before i
  unfolding atomic_result_fits
  same_atomic_result i =
      branch (is_one_of (op.ATOMIC_COMPARE_EXCHANGE ∷ atomics) (opcode i)) _ _ _ _
      (ap (leads_to (slice_index i.words 1)) (same_target before after alike (slice_index i.words 3))) refl
