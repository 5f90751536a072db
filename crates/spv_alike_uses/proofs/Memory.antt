-- Rules on loads, stores, pointers into pointers' targets and atomics are broken alike.
use Rattle.std.proofs.Common.{◌≡◌, ℕ, ◌+◌, Bool, true, false, cond, ◌==◌, ◌&&◌, ◌||◌, not, is_some, List, [], ◌∷◌, length, drop, Option, Some, None, refl, ap, ap₂, subst, ◌∙◌}
use Rattle.std.specs.List.{AllByRecursion, list_all, slice_get, slice_index}
use Rattle.std.specs.Option.{option_and_then}
use Rattle.spv_opcodes.specs.declared.op.TheConstants as op
use Rattle.spv_grammar.specs.Table.{row_of}
use Rattle.spv_module.specs.Instruction.{Instruction, opcode}
use Rattle.spv_ids.specs.Ids.{kind, word_of}
use Rattle.spv_typing.specs.Kinds.{is_one_of, is_vector, is_array, is_runtime_array, is_struct, is_pointer, is_int, pointer_class, pointee, component, element, ends_open, members}
use Rattle.spv_typing.specs.Operations.{leads_to, part_behind}
use Rattle.spv_values.specs.Values.{is_value_of, is_ints}
use Rattle.spv_composites.specs.Memory.{target_of, has_runtime_array, loads, stores, member_picked, part_picked, part_indexed, chain_along, chain_target, has_class}
use Rattle.spv_composites.specs.Memory.{is_chain_to, measures, is_unsigned, acts, atomics, memory_operands_fit, atomic_operands_fit, memory_result_fits, atomic_result_fits}
use Rattle.spv_alike.proofs.Lookups.{and_left}
use Rattle.spv_alike_uses.specs.Laws.{UsesWhatStays}
use Rattle.spv_alike_uses.proofs.Lookups.{Case, In, then_on, behind_on, and_on, where_true, all_on, by_one, by_pointer, same_runtime_array, same_ends_open, same_closed, same_pointer}
use Rattle.spv_alike_uses.proofs.Lookups.{same_pointer_class, same_pointee, same_members, same_ints, same_int, same_value_of, same_target, target_stays, at_target}
use Rattle.spv_alike_uses.proofs.Lookups.{component_stays, element_stays, open_element_stays, members_stay, get_stays}
use Rattle.spv_alike_uses.proofs.Words.{word, words, one_word, one_words}

module _ (c : Case) where
  abbrev All : List ℕ → Type 0
  All ids = AllByRecursion (In c) ids

  same_has_runtime : (t : ℕ) → In c t → has_runtime_array c.after t ≡ has_runtime_array c.before t
  same_has_runtime t g = ap₂ (λ (a b : Bool). a || b) (same_runtime_array c t g) (same_ends_open c t g)

  same_loads : (t p : ℕ) → In c t → In c p → loads c.after t p ≡ loads c.before t p
  same_loads t p gt gp = ap₂ (λ (o : Option ℕ) (b : Bool). leads_to t o && not b) (same_target c p gp) (same_has_runtime t gt)

  same_stores : (p v : ℕ) → In c p → In c v → stores c.after p v ≡ stores c.before p v
  same_stores p v gp gv = at_target c (λ u. is_value_of c.after u v) (λ u. is_value_of c.before u v) (λ u g. same_value_of c u v gv) p gp

  -- ---- indexes

  -- the member that a constant picks of some
  picked_of : (insts : List Instruction) → (members : List ℕ) (index : ℕ) → Option ℕ
  picked_of insts ms index = cond (kind insts index == op.CONSTANT) (slice_get ms (word_of insts index 3)) None

  same_picked_of : (ms : List ℕ) (index : ℕ) → In c index → picked_of c.after ms index ≡ picked_of c.before ms index
  unfolding picked_of
  same_picked_of ms = by_one c (λ test w ws. cond (test op.CONSTANT) (slice_get ms (w 3)) None) None (λ w ws. refl)

  same_part_picked : (t index : ℕ) → In c t → In c index → part_picked c.after t index ≡ part_picked c.before t index
  unfolding picked_of
  same_part_picked t index gt gi =
      by_one c (λ test w ws. cond (test op.TYPE_STRUCT) (picked_of c.after (ws 2) index)
      (cond (test op.TYPE_ARRAY || test op.TYPE_RUNTIME_ARRAY) (Some (w 2)) (cond (test op.TYPE_VECTOR) (Some (w 2)) None))) None (λ w ws. refl) t gt
      ∙ ap (λ (o : Option ℕ). cond (is_struct c.before t) o
      (cond (is_array c.before t || is_runtime_array c.before t) (Some (element c.before t)) (cond (is_vector c.before t) (Some (component c.before t)) None)))
      (same_picked_of (members c.before t) index gi)

  member_stays : (b : Bool) (ms : List ℕ) (k u : ℕ) → All ms → cond b (slice_get ms k) None ≡ Some u → In c u
  member_stays true ms k u all h = get_stays c ms k u all h
  member_stays false ms k u all h = absurd (cc h)

  picked_stays : (t index u : ℕ) → In c t → part_picked c.before t index ≡ Some u → In c u
  picked_stays t index u g h = by (is_struct c.before t) (is_array c.before t) (is_runtime_array c.before t) (is_vector c.before t) refl refl refl refl h
    where
      by : (a b d e : Bool) → is_struct c.before t ≡ a → is_array c.before t ≡ b → is_runtime_array c.before t ≡ d → is_vector c.before t ≡ e
          → cond a (member_picked c.before t index) (cond (b || d) (Some (element c.before t)) (cond e (Some (component c.before t)) None)) ≡ Some u → In c u
      by true b d e ha hb hd he h =
          member_stays (kind c.before index == op.CONSTANT) (members c.before t) (word_of c.before index 3) u (members_stay c t g ha) h
      by false true d e ha hb hd he h = let same : element c.before t ≡ u = cc h in subst (In c) same (element_stays c t g hb)
      by false false true e ha hb hd he h = let same : element c.before t ≡ u = cc h in subst (In c) same (open_element_stays c t g hd)
      by false false false true ha hb hd he h = let same : component c.before t ≡ u = cc h in subst (In c) same (component_stays c t g he)
      by false false false false ha hb hd he h = absurd (cc h)

  same_part_indexed : (t index : ℕ) → In c t → In c index → part_indexed c.after t index ≡ part_indexed c.before t index
  same_part_indexed t index gt gi =
      ap₂ (λ (b : Bool) (o : Option ℕ). cond b o None) (same_ints c 1 index gi) (same_part_picked t index gt gi)

  indexed_stays : (t index u : ℕ) → In c t → part_indexed c.before t index ≡ Some u → In c u
  indexed_stays t index u g h = by (is_ints c.before 1 index) h
    where
      by : (b : Bool) → cond b (part_picked c.before t index) None ≡ Some u → In c u
      by true h = picked_stays t index u g h
      by false h = absurd (cc h)

  -- induction on the indexes
  same_chain_along : (indexes : List ℕ) (t : ℕ) → All indexes → In c t → chain_along c.after indexes t ≡ chain_along c.before indexes t
  same_chain_along [] t all g = refl
  same_chain_along (index ∷ rest) t all g =
      ap (part_behind (chain_along c.after rest)) (same_part_indexed t index g all.0)
      ∙ behind_on (chain_along c.after rest) (chain_along c.before rest) (part_indexed c.before t index)
      (λ u e. same_chain_along rest u all.1 (indexed_stays t index u g e))

  same_chain_target : (base : ℕ) (indexes : List ℕ) → In c base → All indexes → chain_target c.after base indexes ≡ chain_target c.before base indexes
  same_chain_target base indexes g all =
      ap (option_and_then (chain_along c.after indexes)) (same_target c base g)
      ∙ then_on (chain_along c.after indexes) (chain_along c.before indexes) (target_of c.before base)
      (λ u e. same_chain_along indexes u all (target_stays c base u g e))

  same_has_class : (class base : ℕ) → In c base → has_class c.after class base ≡ has_class c.before class base
  same_has_class class base =
      by_pointer c (λ u. pointer_class c.after u == class) (λ u. pointer_class c.before u == class) false
      (λ u g h. ap (λ (x : ℕ). x == class) (same_pointer_class c u g h)) base

  same_chain_to : (t base : ℕ) (indexes : List ℕ) → In c t → In c base → All indexes → is_chain_to c.after t base indexes ≡ is_chain_to c.before t base indexes
  same_chain_to t base indexes gt gb all =
      and_on (is_pointer c.after t) (is_pointer c.before t) _ _ (same_pointer c t gt)
      (λ h. ap₂ (λ (class p : ℕ). has_class c.after class base && leads_to p (chain_target c.after base indexes)) (same_pointer_class c t gt h) (same_pointee c t gt h)
      ∙ ap₂ (λ (b : Bool) (o : Option ℕ). b && leads_to (pointee c.before t) o) (same_has_class (pointer_class c.before t) base gb)
      (same_chain_target base indexes gb all))

  -- ---- lengths and atomics

  same_measured : (m u : ℕ) → In c u → (ends_open c.after u && m + 1 == length (members c.after u)) ≡ (ends_open c.before u && m + 1 == length (members c.before u))
  same_measured m u g =
      and_on (ends_open c.after u) (ends_open c.before u) _ _ (same_ends_open c u g)
      (λ h. ap (λ (ms : List ℕ). m + 1 == length ms) (same_members c u g (and_left (is_struct c.before u) _ h)))

  same_measures : (p m : ℕ) → In c p → measures c.after p m ≡ measures c.before p m
  same_measures p m =
      at_target c (λ u. ends_open c.after u && m + 1 == length (members c.after u)) (λ u. ends_open c.before u && m + 1 == length (members c.before u))
      (same_measured m) p

  same_unsigned : (t : ℕ) → In c t → is_unsigned c.after t ≡ is_unsigned c.before t
  same_unsigned = by_one c (λ test w ws. test op.TYPE_INT && w 3 == 0) false (λ w ws. refl)

  same_acts : (p : ℕ) (vs : List ℕ) → In c p → All vs → acts c.after p vs ≡ acts c.before p vs
  same_acts p vs g all =
      at_target c (λ u. is_int c.after u && list_all (is_value_of c.after u) vs) (λ u. is_int c.before u && list_all (is_value_of c.before u) vs)
      (λ u gu. ap₂ (λ (a b : Bool). a && b) (same_int c u gu) (all_on (In c) (is_value_of c.after u) (is_value_of c.before u) (same_value_of c u) vs all)) p g

  -- ---- by the instruction

  chains : List ℕ
  chains = op.ACCESS_CHAIN ∷ op.IN_BOUNDS_ACCESS_CHAIN ∷ []

  module _ (i : Instruction) (uses : UsesWhatStays c.gone i) where
    pub same_memory_operands : memory_operands_fit c.after i ≡ memory_operands_fit c.before i
    unfolding memory_operands_fit row_of chains
    same_memory_operands =
        where_true (opcode i == op.LOAD) _ _ _ _
        (λ h. same_loads (slice_index i.words 1) (slice_index i.words 3) (word c i uses 0 op.LOAD refl h) (word c i uses 2 op.LOAD refl h))
        (where_true (opcode i == op.STORE) _ _ _ _
        (λ h. same_stores (slice_index i.words 1) (slice_index i.words 2) (word c i uses 0 op.STORE refl h) (word c i uses 1 op.STORE refl h))
        (where_true (is_one_of chains (opcode i)) _ _ _ _
        (λ h. ap (λ (o : Option ℕ). is_some o)
        (same_chain_target (slice_index i.words 3) (drop 4 i.words) (one_word c i uses 2 chains refl h) (one_words c i uses 3 chains refl h)))
        (where_true (opcode i == op.ARRAY_LENGTH) _ _ _ _
        (λ h. same_measures (slice_index i.words 3) (slice_index i.words 4) (word c i uses 2 op.ARRAY_LENGTH refl h))
        refl)))

    pub same_atomic_operands : atomic_operands_fit c.after i ≡ atomic_operands_fit c.before i
    unfolding atomic_operands_fit row_of
    same_atomic_operands =
        where_true (is_one_of atomics (opcode i)) _ _ _ _
        (λ h. same_acts (slice_index i.words 3) (drop 6 i.words) (one_word c i uses 2 atomics refl h) (one_words c i uses 5 atomics refl h))
        (where_true (opcode i == op.ATOMIC_COMPARE_EXCHANGE) _ _ _ _
        (λ h. same_acts (slice_index i.words 3) (drop 7 i.words)
        (word c i uses 2 op.ATOMIC_COMPARE_EXCHANGE refl h) (words c i uses 6 op.ATOMIC_COMPARE_EXCHANGE refl h))
        (where_true (opcode i == op.ATOMIC_STORE) _ _ _ _
        (λ h. same_acts (slice_index i.words 1) (drop 4 i.words) (word c i uses 0 op.ATOMIC_STORE refl h) (words c i uses 3 op.ATOMIC_STORE refl h))
        refl))

    pub same_memory_result : memory_result_fits c.after i ≡ memory_result_fits c.before i
    unfolding memory_result_fits row_of chains
    same_memory_result =
        where_true (opcode i == op.LOAD) _ _ _ _ (λ h. same_closed c (slice_index i.words 1) (word c i uses 0 op.LOAD refl h))
        (where_true (is_one_of chains (opcode i)) _ _ _ _
        (λ h. same_chain_to (slice_index i.words 1) (slice_index i.words 3) (drop 4 i.words)
        (one_word c i uses 0 chains refl h) (one_word c i uses 2 chains refl h) (one_words c i uses 3 chains refl h))
        (where_true (opcode i == op.ARRAY_LENGTH) _ _ _ _ (λ h. same_unsigned (slice_index i.words 1) (word c i uses 0 op.ARRAY_LENGTH refl h))
        refl))

    pub same_atomic_result : atomic_result_fits c.after i ≡ atomic_result_fits c.before i
    unfolding atomic_result_fits row_of
    same_atomic_result =
        where_true (is_one_of (op.ATOMIC_COMPARE_EXCHANGE ∷ atomics) (opcode i)) _ _ _ _
        (λ h. ap (leads_to (slice_index i.words 1)) (same_target c (slice_index i.words 3) (one_word c i uses 2 (op.ATOMIC_COMPARE_EXCHANGE ∷ atomics) refl h))) refl
