-- Rules on vectors, composites and copies are broken alike where values are replaced.
use Rattle.std.proofs.Common.{◌≡◌, ℕ, ◌+◌, Bool, false, cond, ◌==◌, ◌&&◌, not, nat_le, nat_lt, is_some, List, [], ◌∷◌, length, drop, Option, refl, ap, ap₂, ◌∙◌}
use Rattle.std.specs.List.{list_all, slice_index, zip}
use Rattle.std.specs.Option.{option_and_then, option_map, option_map_or}
use Rattle.spv_opcodes.specs.declared.op.TheConstants as op
use Rattle.spv_grammar.specs.Table.{row_of}
use Rattle.spv_module.specs.Instruction.{Instruction, opcode}
use Rattle.spv_typing.specs.Kinds.{component, component_count, element, is_array, is_closed, is_vector, length_id, members}
use Rattle.spv_typing.specs.Operations.{leads_to, literals_lead, part_along}
use Rattle.spv_values.specs.Values.{is_value, is_value_of}
use Rattle.spv_composites.specs.Vectors.{as_vector, is_component_for, is_component_of, sets_component, shuffles, shuffles_types, takes_component, vector_type}
use Rattle.spv_composites.specs.Vectors.{vector_operands_fit, vector_result_fits}
use Rattle.spv_composites.specs.Lengths.{has_known_length}
use Rattle.spv_composites.specs.Forms.{match_types}
use Rattle.spv_composites.specs.Composites.{components_in, components_of, constructs, copies_logically, extracts, inserts, is_closed_struct, is_composite}
use Rattle.spv_composites.specs.Composites.{make_array, make_struct, make_vector, merges, part_of_value, composite_operands_fit, composite_result_fits}
use Rattle.spv_alike_uses.proofs.Lookups.{on}
use Rattle.spv_typed_trees.specs.Typed.{as_instruction}
use Rattle.spv_replaced_values.proofs.Standing.{Near, NearAll, near_at, near_drop, near_length, none, same_all, same_ints, same_type, same_value_of}
use Rattle.spv_replaced_values.proofs.Fixed.{Case, code, near_words, same_code, word, words}

module _ (insts : List Instruction) where
  abbrev All : (ids others : List ℕ) → Type 0
  All = NearAll insts

  same_is_value : (x y : ℕ) → Near insts x y → is_value insts y ≡ is_value insts x
  same_is_value x y h = ap (λ (o : Option ℕ). is_some o) (same_type insts x y h)

  -- ---- vectors

  same_vector_type : (x y : ℕ) → Near insts x y → vector_type insts y ≡ vector_type insts x
  same_vector_type x y h = ap (λ (o : Option ℕ). option_and_then (as_vector insts) o) (same_type insts x y h)

  same_takes : (a b x y : ℕ) → Near insts a x → Near insts b y → takes_component insts x y ≡ takes_component insts a b
  same_takes a b x y g h = ap₂ (λ (o : Option ℕ) (p : Bool). is_some o && p) (same_vector_type a x g) (same_ints insts 1 b y h)

  same_component_of : (t a x : ℕ) → Near insts a x → is_component_of insts x t ≡ is_component_of insts a t
  same_component_of t a x g = ap (λ (o : Option ℕ). option_map_or (λ u. component insts u == t) o false) (same_vector_type a x g)

  same_component_for : (t a x : ℕ) → Near insts a x → is_component_for insts t x ≡ is_component_for insts t a
  same_component_for t a x g = ap₂ (λ (p q : Bool). cond (is_vector insts t) p q) (same_value_of insts (component insts t) a x g) (same_is_value a x g)

  same_sets : (t a b c x y z : ℕ) → Near insts a x → Near insts b y → Near insts c z → sets_component insts t x y z ≡ sets_component insts t a b c
  same_sets t a b c x y z f g h =
      ap₂ (λ (p q : Bool). p && q) (same_value_of insts t a x f) (ap₂ (λ (p q : Bool). p && q) (same_component_for t b y g) (same_ints insts 1 c z h))

  same_shuffles : (t a b x y : ℕ) (literals : List ℕ) → Near insts a x → Near insts b y → shuffles insts t x y literals ≡ shuffles insts t a b literals
  same_shuffles t a b x y literals g h =
      ap₂ (λ (o p : Option ℕ). option_map_or (λ u. option_map_or (λ w. shuffles_types insts t u w literals) p false) o false)
      (same_vector_type a x g) (same_vector_type b y h)

  -- ---- composites

  -- induction on the values
  same_components_of : (x : ℕ) (ids others : List ℕ) → All ids others → components_of insts x others ≡ components_of insts x ids
  same_components_of x [] others n = ap (components_of insts x) (none insts others n)
  same_components_of x (id ∷ ids) [] n = absurd n
  same_components_of x (id ∷ ids) (y ∷ ys) n =
      ap₂ (λ (r o : Option ℕ). option_and_then (λ n. option_map (λ m. n + m) r) (option_and_then (components_in insts x) o))
      (same_components_of x ids ys n.1) (same_type insts id y n.0)

  same_make_vector : (t : ℕ) (ids others : List ℕ) → All ids others → make_vector insts t others ≡ make_vector insts t ids
  same_make_vector t ids others n =
      ap₂ (λ (m : ℕ) (o : Option ℕ). nat_le 2 m && leads_to (component_count insts t) o)
      (near_length insts ids others n) (same_components_of (component insts t) ids others n)

  same_make_array : (t : ℕ) (ids others : List ℕ) → All ids others → make_array insts t others ≡ make_array insts t ids
  same_make_array t ids others n =
      ap₂ (λ (m : ℕ) (b : Bool). has_known_length insts (length_id insts t) m && b)
      (near_length insts ids others n) (same_all insts (is_value_of insts (element insts t)) (λ x y h. same_value_of insts (element insts t) x y h) ids others n)

  -- a value for each member; induction on these
  same_members : (ms ids others : List ℕ) → All ids others
      → list_all (λ pair. is_value_of insts pair.0 pair.1) (zip ms others) ≡ list_all (λ pair. is_value_of insts pair.0 pair.1) (zip ms ids)
  same_members ms [] others n = ap (λ (ys : List ℕ). list_all (λ pair. is_value_of insts pair.0 pair.1) (zip ms ys)) (none insts others n)
  same_members ms (id ∷ ids) [] n = absurd n
  same_members [] (id ∷ ids) (y ∷ ys) n = refl
  same_members (m ∷ ms) (id ∷ ids) (y ∷ ys) n = ap₂ (λ (a b : Bool). a && b) (same_value_of insts m id y n.0) (same_members ms ids ys n.1)

  same_make_struct : (t : ℕ) (ids others : List ℕ) → All ids others → make_struct insts t others ≡ make_struct insts t ids
  same_make_struct t ids others n =
      ap₂ (λ (m : ℕ) (b : Bool). length (members insts t) == m && b) (near_length insts ids others n) (same_members (members insts t) ids others n)

  same_constructs : (t : ℕ) (ids others : List ℕ) → All ids others → constructs insts t others ≡ constructs insts t ids
  same_constructs t ids others n =
      ap₂ (λ (p q : Bool). cond (is_vector insts t) p q) (same_make_vector t ids others n)
      (ap₂ (λ (p q : Bool). cond (is_array insts t) p q) (same_make_array t ids others n)
      (ap₂ (λ (p q : Bool). cond (is_closed_struct insts t) p q) (same_make_struct t ids others n)
      (same_all insts (is_value insts) same_is_value ids others n)))

  same_part : (a x : ℕ) (literals : List ℕ) → Near insts a x → part_of_value insts x literals ≡ part_of_value insts a literals
  same_part a x literals g = ap (λ (o : Option ℕ). option_and_then (part_along insts literals) o) (same_type insts a x g)

  same_extracts : (a x : ℕ) (literals : List ℕ) → Near insts a x → extracts insts x literals ≡ extracts insts a literals
  same_extracts a x literals g = ap (λ (o : Option ℕ). nat_lt 0 (length literals) && is_some o) (same_part a x literals g)

  same_inserts : (a b x y : ℕ) (literals : List ℕ) → Near insts a x → Near insts b y → inserts insts x y literals ≡ inserts insts a b literals
  same_inserts a b x y literals g h =
      ap₂ (λ (o p : Option ℕ). option_map_or (λ u. option_map_or (λ w. literals_lead insts literals w u) p false) o false)
      (same_type insts a x g) (same_type insts b y h)

  same_copies : (t a x : ℕ) → Near insts a x → copies_logically insts t x ≡ copies_logically insts t a
  same_copies t a x g = ap (λ (o : Option ℕ). option_map_or (λ u. not (u == t) && match_types insts u t) o false) (same_type insts a x g)

  -- the first of each two
  same_merges : (t : ℕ) (ids others : List ℕ) → All ids others → merges insts t others ≡ merges insts t ids
  same_merges t [] others n = ap (merges insts t) (none insts others n)
  same_merges t (a ∷ bs) [] n = absurd n
  same_merges t (a ∷ []) (x ∷ xs) n = ap (λ (ys : List ℕ). merges insts t (x ∷ ys)) (none insts xs n.1)
  same_merges t (a ∷ b ∷ bs) (x ∷ []) n = absurd n.1
  same_merges t (a ∷ b ∷ bs) (x ∷ y ∷ xs) n = ap₂ (λ (p q : Bool). p && q) (same_value_of insts t a x n.0) (same_merges t bs xs n.1.1)

-- ---- by the instruction

module _ (c : Case) where
  abbrev at : ℕ → ℕ
  at k = slice_index c.words k

  abbrev put : ℕ → ℕ
  put k = slice_index c.others k

  near : (k : ℕ) → Near c.insts (at k) (put k)
  near k = near_at c.insts k c.words c.others (near_words c)

  near_behind : (k : ℕ) → NearAll c.insts (drop k c.words) (drop k c.others)
  near_behind k = near_drop c.insts k c.words c.others (near_words c)

  is : (o : ℕ) → (opcode (as_instruction c.others) == o) ≡ (code c == o)
  is o = ap (λ (n : ℕ). n == o) (same_code c)

  pub same_vector_operands : vector_operands_fit c.insts (as_instruction c.others) ≡ vector_operands_fit c.insts (as_instruction c.words)
  unfolding vector_operands_fit row_of
  same_vector_operands =
      on _ _ _ _ _ _ (is op.VECTOR_EXTRACT_DYNAMIC) (λ h. same_takes c.insts (at 3) (at 4) (put 3) (put 4) (near 3) (near 4))
      (on _ _ _ _ _ _ (is op.VECTOR_INSERT_DYNAMIC)
      (λ h. ap (λ (t : ℕ). sets_component c.insts t (put 3) (put 4) (put 5)) (word c 0 op.VECTOR_INSERT_DYNAMIC refl h)
      ∙ same_sets c.insts (at 1) (at 3) (at 4) (at 5) (put 3) (put 4) (put 5) (near 3) (near 4) (near 5))
      (on _ _ _ _ _ _ (is op.VECTOR_SHUFFLE)
      (λ h. ap₂ (λ (t : ℕ) (literals : List ℕ). shuffles c.insts t (put 3) (put 4) literals) (word c 0 op.VECTOR_SHUFFLE refl h) (words c 4 op.VECTOR_SHUFFLE refl h)
      ∙ same_shuffles c.insts (at 1) (at 3) (at 4) (put 3) (put 4) (drop 5 c.words) (near 3) (near 4))
      refl))

  pub same_vector_result : vector_result_fits c.insts (as_instruction c.others) ≡ vector_result_fits c.insts (as_instruction c.words)
  unfolding vector_result_fits row_of
  same_vector_result =
      on _ _ _ _ _ _ (is op.VECTOR_EXTRACT_DYNAMIC)
      (λ h. ap (is_component_of c.insts (put 3)) (word c 0 op.VECTOR_EXTRACT_DYNAMIC refl h) ∙ same_component_of c.insts (at 1) (at 3) (put 3) (near 3))
      (on _ _ _ _ _ _ (is op.VECTOR_INSERT_DYNAMIC) (λ h. ap (is_vector c.insts) (word c 0 op.VECTOR_INSERT_DYNAMIC refl h))
      (on _ _ _ _ _ _ (is op.VECTOR_SHUFFLE) (λ h. ap (is_vector c.insts) (word c 0 op.VECTOR_SHUFFLE refl h))
      refl))

  pub same_composite_operands : composite_operands_fit c.insts (as_instruction c.others) ≡ composite_operands_fit c.insts (as_instruction c.words)
  unfolding composite_operands_fit row_of
  same_composite_operands =
      on _ _ _ _ _ _ (is op.COMPOSITE_CONSTRUCT)
      (λ h. ap (λ (t : ℕ). constructs c.insts t (drop 3 c.others)) (word c 0 op.COMPOSITE_CONSTRUCT refl h)
      ∙ same_constructs c.insts (at 1) (drop 3 c.words) (drop 3 c.others) (near_behind 3))
      (on _ _ _ _ _ _ (is op.COMPOSITE_EXTRACT)
      (λ h. ap (extracts c.insts (put 3)) (words c 3 op.COMPOSITE_EXTRACT refl h) ∙ same_extracts c.insts (at 3) (put 3) (drop 4 c.words) (near 3))
      (on _ _ _ _ _ _ (is op.COMPOSITE_INSERT)
      (λ h. ap (inserts c.insts (put 3) (put 4)) (words c 4 op.COMPOSITE_INSERT refl h)
      ∙ same_inserts c.insts (at 3) (at 4) (put 3) (put 4) (drop 5 c.words) (near 3) (near 4))
      (on _ _ _ _ _ _ (is op.COPY_OBJECT)
      (λ h. ap (λ (t : ℕ). is_value_of c.insts t (put 3)) (word c 0 op.COPY_OBJECT refl h) ∙ same_value_of c.insts (at 1) (at 3) (put 3) (near 3))
      (on _ _ _ _ _ _ (is op.COPY_LOGICAL)
      (λ h. ap (λ (t : ℕ). copies_logically c.insts t (put 3)) (word c 0 op.COPY_LOGICAL refl h) ∙ same_copies c.insts (at 1) (at 3) (put 3) (near 3))
      (on _ _ _ _ _ _ (is op.PHI)
      (λ h. ap (λ (t : ℕ). merges c.insts t (drop 3 c.others)) (word c 0 op.PHI refl h)
      ∙ same_merges c.insts (at 1) (drop 3 c.words) (drop 3 c.others) (near_behind 3))
      refl)))))

  pub same_composite_result : composite_result_fits c.insts (as_instruction c.others) ≡ composite_result_fits c.insts (as_instruction c.words)
  unfolding composite_result_fits row_of
  same_composite_result =
      on _ _ _ _ _ _ (is op.COMPOSITE_CONSTRUCT) (λ h. ap (is_composite c.insts) (word c 0 op.COMPOSITE_CONSTRUCT refl h))
      (on _ _ _ _ _ _ (is op.COMPOSITE_EXTRACT)
      (λ h. ap₂ (λ (t : ℕ) (literals : List ℕ). leads_to t (part_of_value c.insts (put 3) literals))
      (word c 0 op.COMPOSITE_EXTRACT refl h) (words c 3 op.COMPOSITE_EXTRACT refl h)
      ∙ ap (leads_to (at 1)) (same_part c.insts (at 3) (put 3) (drop 4 c.words) (near 3)))
      (on _ _ _ _ _ _ (is op.COMPOSITE_INSERT)
      (λ h. ap (λ (t : ℕ). is_value_of c.insts t (put 4)) (word c 0 op.COMPOSITE_INSERT refl h) ∙ same_value_of c.insts (at 1) (at 4) (put 4) (near 4))
      (on _ _ _ _ _ _ (is op.COPY_OBJECT) (λ h. ap (is_closed c.insts) (word c 0 op.COPY_OBJECT refl h))
      (on _ _ _ _ _ _ (is op.UNDEF) (λ h. ap (is_closed c.insts) (word c 0 op.UNDEF refl h))
      (on _ _ _ _ _ _ (is op.PHI) (λ h. ap (is_closed c.insts) (word c 0 op.PHI refl h))
      refl)))))
