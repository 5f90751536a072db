-- Loads, stores, pointers into pointers' targets and atomics fit where they fit before values are replaced.
use Rattle.std.proofs.Common.{◌≡◌, ℕ, ◌+◌, Bool, true, false, cond, ◌==◌, ◌&&◌, ◌||◌, not, List, [], ◌∷◌, length, drop, Option, Some, None, refl, sym, ap, ap₂, ◌∙◌, true≢false, eqb-true}
use Rattle.std.specs.List.{list_all, slice_get, slice_index}
use Rattle.std.specs.Option.{option_and_then, option_map, option_map_or}
use Rattle.spv_opcodes.specs.declared.op.TheConstants as op
use Rattle.spv_grammar.specs.Table.{row_of}
use Rattle.spv_module.specs.Instruction.{Instruction, opcode}
use Rattle.spv_ids.specs.Ids.{kind, word_of}
use Rattle.spv_typing.specs.Kinds.{component, constants, element, ends_open, is_array, is_closed, is_constant, is_int, is_one_of, is_outside, is_pointer, is_runtime_array, is_struct}
use Rattle.spv_typing.specs.Kinds.{is_vector, members, pointee, pointer_class}
use Rattle.spv_typing.specs.Operations.{leads_to, part_behind}
use Rattle.spv_values.specs.Values.{is_ints, is_value_of}
use Rattle.spv_composites.specs.Memory.{acts, atomics, chain_along, chain_target, has_class, has_runtime_array, is_chain_to, is_unsigned, loads, measures, member_picked}
use Rattle.spv_composites.specs.Memory.{part_indexed, part_picked, stores, target_of, memory_operands_fit, memory_result_fits, atomic_operands_fit, atomic_result_fits}
use Rattle.spv_alike_uses.proofs.Lookups.{on}
use Rattle.spv_typed_trees.specs.Typed.{as_instruction}
use Rattle.spv_replaced_values.proofs.Standing.{Near, NearAll, constant_stays, near_at, near_drop, none, same_all, same_ints, same_pointer, same_value_of}
use Rattle.spv_replaced_values.proofs.Fixed.{Case, code, near_words, same_code, one_word, word}
use Rattle.spv_replaced_values.proofs.Keeping.{Leads, keeps_and, keeps_leads, keeps_on, keeps_some}

module _ (insts : List Instruction) where
  abbrev All : (ids others : List ℕ) → Type 0
  All = NearAll insts

  same_target : (x y : ℕ) → Near insts x y → target_of insts y ≡ target_of insts x
  same_target x y h = ap (λ (o : Option ℕ). option_map (pointee insts) o) (same_pointer insts x y h)

  same_loads : (t p q : ℕ) → Near insts p q → loads insts t q ≡ loads insts t p
  same_loads t p q h = ap (λ (o : Option ℕ). leads_to t o && not (has_runtime_array insts t)) (same_target p q h)

  same_stores : (p v q w : ℕ) → Near insts p q → Near insts v w → stores insts q w ≡ stores insts p v
  same_stores p v q w g h = ap (λ (o : Option ℕ). option_map_or (λ u. is_value_of insts u w) o false) (same_target p q g) ∙ by (target_of insts p)
    where
      by : (o : Option ℕ) → option_map_or (λ u. is_value_of insts u w) o false ≡ option_map_or (λ u. is_value_of insts u v) o false
      by None = refl
      by (Some u) = same_value_of insts u v w h

  same_acts : (p q : ℕ) (vs ws : List ℕ) → Near insts p q → All vs ws → acts insts q ws ≡ acts insts p vs
  same_acts p q vs ws g n =
      ap (λ (o : Option ℕ). option_map_or (λ u. is_int insts u && list_all (is_value_of insts u) ws) o false) (same_target p q g) ∙ by (target_of insts p)
    where
      by : (o : Option ℕ) → option_map_or (λ u. is_int insts u && list_all (is_value_of insts u) ws) o false
          ≡ option_map_or (λ u. is_int insts u && list_all (is_value_of insts u) vs) o false
      by None = refl
      by (Some u) = ap (λ (b : Bool). is_int insts u && b) (same_all insts (is_value_of insts u) (λ x y h. same_value_of insts u x y h) vs ws n)

  same_measures : (m p q : ℕ) → Near insts p q → measures insts q m ≡ measures insts p m
  same_measures m p q h =
      ap (λ (o : Option ℕ). option_map_or (λ u. ends_open insts u && m + 1 == length (members insts u)) o false) (same_target p q h)

  same_has_class : (class p q : ℕ) → Near insts p q → has_class insts class q ≡ has_class insts class p
  same_has_class class p q h = ap (λ (o : Option ℕ). option_map_or (λ u. pointer_class insts u == class) o false) (same_pointer insts p q h)

  -- ---- indexes: one that picks a member is a constant, and stays

  or_true : (a b : Bool) → a ≡ true → (a || b) ≡ true
  or_true true b e = refl
  or_true false b e = absurd (true≢false (sym e))

  picks_constant : (t index u : ℕ) → member_picked insts t index ≡ Some u → is_constant insts index ≡ true
  picks_constant t index u h = by (kind insts index == op.CONSTANT) refl h
    where
      by : (b : Bool) → (kind insts index == op.CONSTANT) ≡ b → cond b (slice_get (members insts t) (word_of insts index 3)) None ≡ Some u → is_constant insts index ≡ true
      by true e k =
          or_true (is_one_of constants (kind insts index)) (kind insts index == op.UNDEF && is_outside insts index)
          (ap (is_one_of constants) (eqb-true (kind insts index) op.CONSTANT e))
      by false e k = absurd (cc k)

  -- what an index leads to where it picks no member
  part_unpicked : (t : ℕ) → Option ℕ
  part_unpicked t = cond (is_array insts t || is_runtime_array insts t) (Some (element insts t)) (cond (is_vector insts t) (Some (component insts t)) None)

  keeps_picked : (t a x : ℕ) → Near insts a x → Leads (part_picked insts t a) (part_picked insts t x)
  unfolding part_unpicked
  keeps_picked t a x g u h = by (is_struct insts t) refl h
    where
      by : (b : Bool) → is_struct insts t ≡ b → cond b (member_picked insts t a) (part_unpicked t) ≡ Some u → part_picked insts t x ≡ Some u
      by true e k = ap (part_picked insts t) (constant_stays insts a x (picks_constant t a u k) g) ∙ h
      by false e k = ap (λ (b : Bool). cond b (member_picked insts t x) (part_unpicked t)) e ∙ k

  keeps_indexed : (t a x : ℕ) → Near insts a x → Leads (part_indexed insts t a) (part_indexed insts t x)
  keeps_indexed t a x g u h = ap (λ (b : Bool). cond b (part_picked insts t x) None) (same_ints insts 1 a x g) ∙ by (is_ints insts 1 a) h
    where
      by : (b : Bool) → cond b (part_picked insts t a) None ≡ Some u → cond b (part_picked insts t x) None ≡ Some u
      by true k = keeps_picked t a x g u k
      by false k = absurd (cc k)

  -- induction on the indexes
  keeps_along : (ids xs : List ℕ) (t : ℕ) → All ids xs → Leads (chain_along insts ids t) (chain_along insts xs t)
  keeps_along [] xs t n u h = ap (λ (xs : List ℕ). chain_along insts xs t) (none insts xs n) ∙ h
  keeps_along (a ∷ ids) [] t n u h = absurd n
  keeps_along (a ∷ ids) (x ∷ xs) t n u h = by (part_indexed insts t a) refl h (keeps_along ids xs)
    where
      by : (o : Option ℕ) → part_indexed insts t a ≡ o → part_behind (chain_along insts ids) o ≡ Some u
          → ((v : ℕ) → All ids xs → Leads (chain_along insts ids v) (chain_along insts xs v)) → chain_along insts (x ∷ xs) t ≡ Some u
      by None e k rest = absurd (cc k)
      by (Some v) e k rest = ap (part_behind (chain_along insts xs)) (keeps_indexed t a x n.0 v e) ∙ rest v n.1 u k

  keeps_target : (p q : ℕ) (ids xs : List ℕ) → Near insts p q → All ids xs → Leads (chain_target insts p ids) (chain_target insts q xs)
  keeps_target p q ids xs g n u h = ap (option_and_then (chain_along insts xs)) (same_target p q g) ∙ by (target_of insts p) h
    where
      by : (o : Option ℕ) → option_and_then (chain_along insts ids) o ≡ Some u → option_and_then (chain_along insts xs) o ≡ Some u
      by None k = absurd (cc k)
      by (Some t) k = keeps_along ids xs t n u k

  keeps_chain_to : (t p q : ℕ) (ids xs : List ℕ) → Near insts p q → All ids xs → is_chain_to insts t p ids ≡ true → is_chain_to insts t q xs ≡ true
  keeps_chain_to t p q ids xs g n =
      keeps_and (is_pointer insts t) (has_class insts (pointer_class insts t) p && leads_to (pointee insts t) (chain_target insts p ids)) _ _ (λ h. h)
      (keeps_and (has_class insts (pointer_class insts t) p) (leads_to (pointee insts t) (chain_target insts p ids)) _ _
      (λ h. same_has_class (pointer_class insts t) p q g ∙ h)
      (keeps_leads (pointee insts t) (chain_target insts p ids) (chain_target insts q xs) (keeps_target p q ids xs g n)))

-- ---- by the instruction

chains : List ℕ
chains = op.ACCESS_CHAIN ∷ op.IN_BOUNDS_ACCESS_CHAIN ∷ []

module _ (c : Case) where
  abbrev at : ℕ → ℕ
  at k = slice_index c.words k

  abbrev put : ℕ → ℕ
  put k = slice_index c.others k

  near : (k : ℕ) → Near c.insts (at k) (put k)
  near k = near_at c.insts k c.words c.others (near_words c)

  near_behind : (k : ℕ) → NearAll c.insts (drop k c.words) (drop k c.others)
  near_behind k = near_drop c.insts k c.words c.others (near_words c)

  is : (o : ℕ) → (opcode (as_instruction c.others) == o) ≡ (code c == o)
  is o = ap (λ (n : ℕ). n == o) (same_code c)

  is_one : (os : List ℕ) → is_one_of os (opcode (as_instruction c.others)) ≡ is_one_of os (code c)
  is_one os = ap (is_one_of os) (same_code c)

  pub keeps_memory_operands : memory_operands_fit c.insts (as_instruction c.words) ≡ true → memory_operands_fit c.insts (as_instruction c.others) ≡ true
  unfolding memory_operands_fit row_of chains
  keeps_memory_operands =
      keeps_on _ _ _ _ _ _ (is op.LOAD)
      (λ h k. ap (λ (t : ℕ). loads c.insts t (put 3)) (word c 0 op.LOAD refl h) ∙ same_loads c.insts (at 1) (at 3) (put 3) (near 3) ∙ k)
      (keeps_on _ _ _ _ _ _ (is op.STORE) (λ h k. same_stores c.insts (at 1) (at 2) (put 1) (put 2) (near 1) (near 2) ∙ k)
      (keeps_on _ _ _ _ _ _ (is_one chains)
      (λ h. keeps_some (chain_target c.insts (at 3) (drop 4 c.words)) (chain_target c.insts (put 3) (drop 4 c.others))
      (keeps_target c.insts (at 3) (put 3) (drop 4 c.words) (drop 4 c.others) (near 3) (near_behind 4)))
      (keeps_on _ _ _ _ _ _ (is op.ARRAY_LENGTH)
      (λ h k. ap (measures c.insts (put 3)) (word c 3 op.ARRAY_LENGTH refl h) ∙ same_measures c.insts (at 4) (at 3) (put 3) (near 3) ∙ k)
      (λ h. h))))

  pub keeps_memory_result : memory_result_fits c.insts (as_instruction c.words) ≡ true → memory_result_fits c.insts (as_instruction c.others) ≡ true
  unfolding memory_result_fits row_of chains
  keeps_memory_result =
      keeps_on _ _ _ _ _ _ (is op.LOAD) (λ h k. ap (is_closed c.insts) (word c 0 op.LOAD refl h) ∙ k)
      (keeps_on _ _ _ _ _ _ (is_one chains)
      (λ h k. ap (λ (t : ℕ). is_chain_to c.insts t (put 3) (drop 4 c.others)) (one_word c 0 chains refl h)
      ∙ keeps_chain_to c.insts (at 1) (at 3) (put 3) (drop 4 c.words) (drop 4 c.others) (near 3) (near_behind 4) k)
      (keeps_on _ _ _ _ _ _ (is op.ARRAY_LENGTH) (λ h k. ap (is_unsigned c.insts) (word c 0 op.ARRAY_LENGTH refl h) ∙ k)
      (λ h. h)))

  pub same_atomic_operands : atomic_operands_fit c.insts (as_instruction c.others) ≡ atomic_operands_fit c.insts (as_instruction c.words)
  unfolding atomic_operands_fit
  same_atomic_operands =
      on _ _ _ _ _ _ (is_one atomics) (λ h. same_acts c.insts (at 3) (put 3) (drop 6 c.words) (drop 6 c.others) (near 3) (near_behind 6))
      (on _ _ _ _ _ _ (is op.ATOMIC_COMPARE_EXCHANGE) (λ h. same_acts c.insts (at 3) (put 3) (drop 7 c.words) (drop 7 c.others) (near 3) (near_behind 7))
      (on _ _ _ _ _ _ (is op.ATOMIC_STORE) (λ h. same_acts c.insts (at 1) (put 1) (drop 4 c.words) (drop 4 c.others) (near 1) (near_behind 4))
      refl))

  pub same_atomic_result : atomic_result_fits c.insts (as_instruction c.others) ≡ atomic_result_fits c.insts (as_instruction c.words)
  unfolding atomic_result_fits row_of
  same_atomic_result =
      on _ _ _ _ _ _ (is_one (op.ATOMIC_COMPARE_EXCHANGE ∷ atomics))
      (λ h. ap₂ leads_to (one_word c 0 (op.ATOMIC_COMPARE_EXCHANGE ∷ atomics) refl h) (same_target c.insts (at 3) (put 3) (near 3))) refl
