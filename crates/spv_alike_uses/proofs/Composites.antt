-- Rules on composites and copies are broken alike.
use Rattle.std.proofs.Common.{◌≡◌, ℕ, ◌+◌, Bool, true, false, cond, ◌==◌, ◌&&◌, ◌||◌, not, nat_eq, nat_le, nat_lt, is_some, List, [], ◌∷◌, length, drop, Option, Some, None, refl, ap, ap₂, ◌∙◌}
use Rattle.std.specs.List.{AllByRecursion, list_all, zip, slice_index}
use Rattle.std.specs.Option.{option_and_then, option_map, option_map_or}
use Rattle.spv_opcodes.specs.declared.op.TheConstants as op
use Rattle.spv_grammar.specs.Table.{row_of}
use Rattle.spv_module.specs.Instruction.{Instruction, opcode}
use Rattle.spv_ids.specs.Ids.{word_of}
use Rattle.spv_typing.specs.Kinds.{is_vector, is_array, is_struct, is_int, is_constant, ends_open, component, component_count, element, members, length_id, type_of}
use Rattle.spv_typing.specs.Operations.{leads_to, literals_lead, part_along}
use Rattle.spv_values.specs.Values.{value_type, is_value, is_value_of}
use Rattle.spv_composites.specs.Forms.{Form, same_forms, match_types}
use Rattle.spv_composites.specs.Lengths.{is_signed, some_length, known_length, has_known_length}
use Rattle.spv_composites.specs.Composites.{components_in, components_of_value, components_of, make_vector, make_array, make_struct, is_closed_struct, is_composite}
use Rattle.spv_composites.specs.Composites.{constructs, part_of_value, extracts, inserts, copies_logically, merges, composite_operands_fit, composite_result_fits}
use Rattle.spv_alike.proofs.Lookups.{and_left}
use Rattle.spv_alike.proofs.Lengths.{length_constant}
use Rattle.spv_alike_uses.specs.Laws.{UsesWhatStays}
use Rattle.spv_alike_uses.proofs.Lookups.{Case, In, on, where_true, all_on, by_one, same_vector, same_array, same_struct, same_component, same_component_count, same_element, same_members}
use Rattle.spv_alike_uses.proofs.Lookups.{same_length_id, length_stays, same_ends_open, same_closed, same_part_along, same_literals_lead, same_is_value, same_value_of, then_type, of_type}
use Rattle.spv_alike_uses.proofs.Lookups.{word_at, same_type_of, type_of_stays}
use Rattle.spv_alike_uses.proofs.Words.{word, words, zip_on, any_all, pairs_on}

module _ (c : Case) where
  abbrev All : List ℕ → Type 0
  All ids = AllByRecursion (In c) ids

  -- ---- lengths

  -- the signedness of a constant of a type of integers
  same_signed : (id : ℕ) → In c id → is_constant c.before id ≡ true → is_int c.before (type_of c.before id) ≡ true → is_signed c.after id ≡ is_signed c.before id
  same_signed id g constant int =
      ap (λ (t : ℕ). word_of c.after t 3 == 1) (same_type_of c id g constant)
      ∙ ap (λ (n : ℕ). n == 1) (word_at c op.TYPE_INT 3 refl (type_of c.before id) (type_of_stays c id g constant) int)

  same_known_length : (id : ℕ) → In c id → is_constant c.before id ≡ true → is_int c.before (type_of c.before id) ≡ true
      → known_length c.after id ≡ known_length c.before id
  unfolding known_length
  same_known_length id g constant int =
      ap₂ (λ (signed : Bool) (o : Option ℕ). option_and_then (some_length signed) (cond (nat_lt 0 id) o None)) (same_signed id g constant int) (c.alike.known id 0 g)

  -- the length of an array type
  same_has_length : (t : ℕ) → In c t → is_array c.before t ≡ true → (n : ℕ)
      → has_known_length c.after (length_id c.after t) n ≡ has_known_length c.before (length_id c.before t) n
  same_has_length t g array n =
      let k = length_constant c.before t c.unbroken array in
      ap (λ (id : ℕ). has_known_length c.after id n) (same_length_id c t g array)
      ∙ ap (λ (o : Option ℕ). option_map_or (nat_eq n) o false) (same_known_length (length_id c.before t) (length_stays c t g array) k.0 k.1)

  -- ---- composites

  same_components_in : (x t : ℕ) → In c t → components_in c.after x t ≡ components_in c.before x t
  same_components_in x t =
      by_one c (λ test w ws. cond (t == x) (Some 1) (cond (test op.TYPE_VECTOR && w 2 == x) (Some (w 3)) None)) (cond (t == x) (Some 1) None) (λ w ws. refl) t

  same_of_value : (x id : ℕ) → In c id → components_of_value c.after x id ≡ components_of_value c.before x id
  same_of_value x = then_type c (components_in c.after x) (components_in c.before x) (same_components_in x)

  -- induction on the values
  same_components_of : (x : ℕ) (ids : List ℕ) → All ids → components_of c.after x ids ≡ components_of c.before x ids
  same_components_of x [] all = refl
  same_components_of x (id ∷ ids) all =
      ap₂ (λ (r o : Option ℕ). option_and_then (λ n. option_map (λ m. n + m) r) o) (same_components_of x ids all.1) (same_of_value x id all.0)

  same_make_vector : (t : ℕ) (ids : List ℕ) → In c t → All ids → is_vector c.before t ≡ true → make_vector c.after t ids ≡ make_vector c.before t ids
  same_make_vector t ids g all h =
      ap₂ (λ (n x : ℕ). nat_le 2 (length ids) && leads_to n (components_of c.after x ids)) (same_component_count c t g h) (same_component c t g h)
      ∙ ap (λ (o : Option ℕ). nat_le 2 (length ids) && leads_to (component_count c.before t) o) (same_components_of (component c.before t) ids all)

  same_all_of : (t : ℕ) (ids : List ℕ) → All ids → list_all (is_value_of c.after t) ids ≡ list_all (is_value_of c.before t) ids
  same_all_of t ids all = all_on (In c) (is_value_of c.after t) (is_value_of c.before t) (same_value_of c t) ids all

  same_make_array : (t : ℕ) (ids : List ℕ) → In c t → All ids → is_array c.before t ≡ true → make_array c.after t ids ≡ make_array c.before t ids
  same_make_array t ids g all h =
      ap₂ (λ (a b : Bool). a && b) (same_has_length t g h (length ids))
      (ap (λ (e : ℕ). list_all (is_value_of c.after e) ids) (same_element c t g h) ∙ same_all_of (element c.before t) ids all)

  same_make_struct : (t : ℕ) (ids : List ℕ) → In c t → All ids → is_struct c.before t ≡ true → make_struct c.after t ids ≡ make_struct c.before t ids
  same_make_struct t ids g all h =
      ap (λ (ms : List ℕ). length ms == length ids && list_all (λ pair. is_value_of c.after pair.0 pair.1) (zip ms ids)) (same_members c t g h)
      ∙ ap (λ (b : Bool). length (members c.before t) == length ids && b)
      (zip_on (In c) (λ m. Unit {0}) (is_value_of c.after) (is_value_of c.before) (λ m id u g. same_value_of c m id g) (members c.before t) ids
      (any_all (members c.before t)) all)

  same_closed_struct : (t : ℕ) → In c t → is_closed_struct c.after t ≡ is_closed_struct c.before t
  same_closed_struct t g = ap₂ (λ (a b : Bool). a && not b) (same_struct c t g) (same_ends_open c t g)

  same_composite : (t : ℕ) → In c t → is_composite c.after t ≡ is_composite c.before t
  same_composite t g =
      ap₂ (λ (a b : Bool). a || b) (same_vector c t g) (ap₂ (λ (a b : Bool). a || b) (same_array c t g) (same_closed_struct t g))

  same_constructs : (t : ℕ) (ids : List ℕ) → In c t → All ids → constructs c.after t ids ≡ constructs c.before t ids
  same_constructs t ids g all =
      on (is_vector c.after t) (is_vector c.before t) _ _ _ _ (same_vector c t g) (same_make_vector t ids g all)
      (on (is_array c.after t) (is_array c.before t) _ _ _ _ (same_array c t g) (same_make_array t ids g all)
      (on (is_closed_struct c.after t) (is_closed_struct c.before t) _ _ _ _ (same_closed_struct t g)
      (λ h. same_make_struct t ids g all (and_left (is_struct c.before t) (not (ends_open c.before t)) h))
      (all_on (In c) (is_value c.after) (is_value c.before) (same_is_value c) ids all)))

  same_part : (id : ℕ) (literals : List ℕ) → In c id → part_of_value c.after id literals ≡ part_of_value c.before id literals
  same_part id literals = then_type c (part_along c.after literals) (part_along c.before literals) (same_part_along c literals) id

  same_extracts : (x : ℕ) (literals : List ℕ) → In c x → extracts c.after x literals ≡ extracts c.before x literals
  same_extracts x literals g = ap (λ (o : Option ℕ). nat_lt 0 (length literals) && is_some o) (same_part x literals g)

  same_inserts : (o x : ℕ) (literals : List ℕ) → In c o → In c x → inserts c.after o x literals ≡ inserts c.before o x literals
  same_inserts o x literals go gx =
      of_type c (λ u. option_map_or (λ w. literals_lead c.after literals w u) (value_type c.after x) false)
      (λ u. option_map_or (λ w. literals_lead c.before literals w u) (value_type c.before x) false) false
      (λ u gu. of_type c (λ w. literals_lead c.after literals w u) (λ w. literals_lead c.before literals w u) false
      (λ w gw. same_literals_lead c literals w u gw) x gx) o go

  same_match : (t u : ℕ) → In c t → In c u → match_types c.after t u ≡ match_types c.before t u
  same_match t u gt gu = ap₂ (λ (f g : Option Form). same_forms f g) (c.alike.forms t gt) (c.alike.forms u gu)

  same_copies : (t id : ℕ) → In c t → In c id → copies_logically c.after t id ≡ copies_logically c.before t id
  same_copies t id gt g =
      of_type c (λ u. not (u == t) && match_types c.after u t) (λ u. not (u == t) && match_types c.before u t) false
      (λ u gu. ap (λ (b : Bool). not (u == t) && b) (same_match u t gu gt)) id g

  same_merges : (t : ℕ) (ids : List ℕ) → All ids → merges c.after t ids ≡ merges c.before t ids
  same_merges t ids all = pairs_on (In c) (is_value_of c.after t) (is_value_of c.before t) (same_value_of c t) ids all

  module _ (i : Instruction) (uses : UsesWhatStays c.gone i) where
    pub same_composite_operands : composite_operands_fit c.after i ≡ composite_operands_fit c.before i
    unfolding composite_operands_fit row_of
    same_composite_operands =
        where_true (opcode i == op.COMPOSITE_CONSTRUCT) _ _ _ _
        (λ h. same_constructs (slice_index i.words 1) (drop 3 i.words) (word c i uses 0 op.COMPOSITE_CONSTRUCT refl h) (words c i uses 2 op.COMPOSITE_CONSTRUCT refl h))
        (where_true (opcode i == op.COMPOSITE_EXTRACT) _ _ _ _
        (λ h. same_extracts (slice_index i.words 3) (drop 4 i.words) (word c i uses 2 op.COMPOSITE_EXTRACT refl h))
        (where_true (opcode i == op.COMPOSITE_INSERT) _ _ _ _
        (λ h. same_inserts (slice_index i.words 3) (slice_index i.words 4) (drop 5 i.words)
        (word c i uses 2 op.COMPOSITE_INSERT refl h) (word c i uses 3 op.COMPOSITE_INSERT refl h))
        (where_true (opcode i == op.COPY_OBJECT) _ _ _ _
        (λ h. same_value_of c (slice_index i.words 1) (slice_index i.words 3) (word c i uses 2 op.COPY_OBJECT refl h))
        (where_true (opcode i == op.COPY_LOGICAL) _ _ _ _
        (λ h. same_copies (slice_index i.words 1) (slice_index i.words 3) (word c i uses 0 op.COPY_LOGICAL refl h) (word c i uses 2 op.COPY_LOGICAL refl h))
        (where_true (opcode i == op.PHI) _ _ _ _ (λ h. same_merges (slice_index i.words 1) (drop 3 i.words) (words c i uses 2 op.PHI refl h))
        refl)))))

    pub same_composite_result : composite_result_fits c.after i ≡ composite_result_fits c.before i
    unfolding composite_result_fits row_of
    same_composite_result =
        where_true (opcode i == op.COMPOSITE_CONSTRUCT) _ _ _ _ (λ h. same_composite (slice_index i.words 1) (word c i uses 0 op.COMPOSITE_CONSTRUCT refl h))
        (where_true (opcode i == op.COMPOSITE_EXTRACT) _ _ _ _
        (λ h. ap (leads_to (slice_index i.words 1)) (same_part (slice_index i.words 3) (drop 4 i.words) (word c i uses 2 op.COMPOSITE_EXTRACT refl h)))
        (where_true (opcode i == op.COMPOSITE_INSERT) _ _ _ _
        (λ h. same_value_of c (slice_index i.words 1) (slice_index i.words 4) (word c i uses 3 op.COMPOSITE_INSERT refl h))
        (where_true (opcode i == op.COPY_OBJECT) _ _ _ _ (λ h. same_closed c (slice_index i.words 1) (word c i uses 0 op.COPY_OBJECT refl h))
        (where_true (opcode i == op.UNDEF) _ _ _ _ (λ h. same_closed c (slice_index i.words 1) (word c i uses 0 op.UNDEF refl h))
        (where_true (opcode i == op.PHI) _ _ _ _ (λ h. same_closed c (slice_index i.words 1) (word c i uses 0 op.PHI refl h))
        refl)))))
