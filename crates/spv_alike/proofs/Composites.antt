-- Rules on composites and copies are broken alike.
use Rattle.std.proofs.Common.{◌≡◌, ℕ, ◌+◌, Bool, true, false, cond, ◌==◌, ◌&&◌, ◌||◌, not, nat_le, nat_lt, is_some, List, [], ◌∷◌, length, drop, Option, Some, None, refl, ap, ap₂, ◌∙◌}
use Rattle.std.proofs.Math.Path.{fun_ext}
use Rattle.std.specs.List.{list_all, zip, slice_index}
use Rattle.std.specs.Option.{option_and_then, option_map, option_map_or}
use Rattle.spv_opcodes.specs.declared.op.TheConstants as op
use Rattle.spv_module.specs.Instruction.{Instruction, opcode}
use Rattle.spv_meaning.specs.Statements.{pairs}
use Rattle.spv_typing.specs.Kinds.{is_vector, is_array, is_struct, ends_open, component, component_count, element, members}
use Rattle.spv_typing.specs.Operations.{leads_to, literals_lead}
use Rattle.spv_values.specs.Values.{value_type, is_value_of}
use Rattle.spv_declarations.specs.Laws.{IsUnbroken}
use Rattle.spv_composites.specs.Forms.{FormTable, form_at, same_forms, match_types}
use Rattle.spv_composites.specs.Composites.{components_in, components_of_value, components_of, make_vector, make_array, make_struct, is_closed_struct, is_composite}
use Rattle.spv_composites.specs.Composites.{constructs, part_of_value, extracts, inserts, copies_logically, merges, composite_operands_fit, composite_result_fits}
use Rattle.spv_alike.specs.Alike.{AreAlike}
use Rattle.spv_alike.proofs.Lookups.{and_left, by_one, same_vector, same_array, same_struct, same_component, same_component_count, same_element, same_members}
use Rattle.spv_alike.proofs.Lookups.{same_ends_open, same_closed, same_part_along, same_literals_lead, same_is_value, same_value_of}
use Rattle.spv_alike.proofs.Guarded.{on, branch}
use Rattle.spv_alike.proofs.Lengths.{same_has_length}

module _ (before after : List Instruction) (alike : AreAlike before after) where
  same_components_in : (x t : ℕ) → components_in after x t ≡ components_in before x t
  same_components_in x t =
      by_one before after alike (λ k w ws. cond (t == x) (Some 1) (cond (k == op.TYPE_VECTOR && w 2 == x) (Some (w 3)) None)) (cond (t == x) (Some 1) None)
      (λ w ws. (refl, refl, refl, refl)) t

  same_of_value : (x id : ℕ) → components_of_value after x id ≡ components_of_value before x id
  same_of_value x id = ap₂ (λ (f : ℕ → Option ℕ) (o : Option ℕ). option_and_then f o) (fun_ext (same_components_in x)) (alike.values id)

  -- induction on the values
  same_components_of : (x : ℕ) (ids : List ℕ) → components_of after x ids ≡ components_of before x ids
  same_components_of x [] = refl
  same_components_of x (id ∷ ids) =
      ap₂ (λ (r o : Option ℕ). option_and_then (λ n. option_map (λ m. n + m) r) o) (same_components_of x ids) (same_of_value x id)

  same_make_vector : (t : ℕ) (ids : List ℕ) → is_vector before t ≡ true → make_vector after t ids ≡ make_vector before t ids
  same_make_vector t ids h =
      ap₂ (λ (n x : ℕ). nat_le 2 (length ids) && leads_to n (components_of after x ids)) (same_component_count before after alike t h)
      (same_component before after alike t h)
      ∙ ap (λ (o : Option ℕ). nat_le 2 (length ids) && leads_to (component_count before t) o) (same_components_of (component before t) ids)

  same_make_array : IsUnbroken before → (t : ℕ) (ids : List ℕ) → is_array before t ≡ true → make_array after t ids ≡ make_array before t ids
  same_make_array u t ids h =
      ap₂ (λ (a b : Bool). a && b) (same_has_length before after alike u t h (length ids))
      (ap (λ (e : ℕ). list_all (is_value_of after e) ids) (same_element before after alike t h)
      ∙ ap (λ (f : ℕ → Bool). list_all f ids) (fun_ext (same_value_of before after alike (element before t))))

  same_make_struct : (t : ℕ) (ids : List ℕ) → is_struct before t ≡ true → make_struct after t ids ≡ make_struct before t ids
  same_make_struct t ids h =
      ap (λ (ms : List ℕ). length ms == length ids && list_all (λ pair. is_value_of after pair.0 pair.1) (zip ms ids)) (same_members before after alike t h)
      ∙ ap (λ (f : ℕ → ℕ → Bool). length (members before t) == length ids && list_all (λ pair. f pair.0 pair.1) (zip (members before t) ids))
      (fun_ext (λ m. fun_ext (same_value_of before after alike m)))

  same_closed_struct : (t : ℕ) → is_closed_struct after t ≡ is_closed_struct before t
  same_closed_struct t = ap₂ (λ (a b : Bool). a && not b) (same_struct before after alike t) (same_ends_open before after alike t)

  same_composite : (t : ℕ) → is_composite after t ≡ is_composite before t
  same_composite t =
      ap₂ (λ (a b : Bool). a || b) (same_vector before after alike t)
      (ap₂ (λ (a b : Bool). a || b) (same_array before after alike t) (same_closed_struct t))

  same_constructs : IsUnbroken before → (t : ℕ) (ids : List ℕ) → constructs after t ids ≡ constructs before t ids
  same_constructs u t ids =
      on (is_vector after t) (is_vector before t) _ _ _ _ (same_vector before after alike t) (same_make_vector t ids)
      (on (is_array after t) (is_array before t) _ _ _ _ (same_array before after alike t) (same_make_array u t ids)
      (on (is_closed_struct after t) (is_closed_struct before t) _ _ _ _ (same_closed_struct t)
      (λ h. same_make_struct t ids (and_left (is_struct before t) (not (ends_open before t)) h))
      (ap (λ (f : ℕ → Bool). list_all f ids) (fun_ext (same_is_value before after alike)))))

  same_part : (id : ℕ) (literals : List ℕ) → part_of_value after id literals ≡ part_of_value before id literals
  same_part id literals =
      ap₂ (λ (f : ℕ → Option ℕ) (o : Option ℕ). option_and_then f o) (fun_ext (same_part_along before after alike literals)) (alike.values id)

  same_extracts : (c : ℕ) (literals : List ℕ) → extracts after c literals ≡ extracts before c literals
  same_extracts c literals = ap (λ (o : Option ℕ). nat_lt 0 (length literals) && is_some o) (same_part c literals)

  same_inserts : (o c : ℕ) (literals : List ℕ) → inserts after o c literals ≡ inserts before o c literals
  same_inserts o c literals =
      ap (λ (lead : ℕ → ℕ → Bool). option_map_or (λ u. option_map_or (λ w. lead w u) (value_type after c) false) (value_type after o) false)
      (fun_ext (λ w. fun_ext (same_literals_lead before after alike literals w)))
      ∙ ap₂ (λ (p q : Option ℕ). option_map_or (λ u. option_map_or (λ w. literals_lead before literals w u) p false) q false) (alike.values c) (alike.values o)

  same_match : (t u : ℕ) → match_types after t u ≡ match_types before t u
  same_match t u = ap (λ (table : FormTable). same_forms (form_at table t) (form_at table u)) alike.forms

  same_copies : (t id : ℕ) → copies_logically after t id ≡ copies_logically before t id
  same_copies t id =
      ap₂ (λ (f : ℕ → Bool) (o : Option ℕ). option_map_or f o false) (fun_ext (λ u. ap (λ (b : Bool). not (u == t) && b) (same_match u t))) (alike.values id)

  same_merges : (t : ℕ) (words : List ℕ) → merges after t words ≡ merges before t words
  same_merges t words = ap (λ (f : ℕ → Bool). list_all (λ pair. f pair.0) (pairs words)) (fun_ext (same_value_of before after alike t))

  pub same_composite_operands : IsUnbroken before → (i : Instruction) → composite_operands_fit after i ≡ composite_operands_fit before i
  unfolding composite_operands_fit
  same_composite_operands u i =
      branch (opcode i == op.COMPOSITE_CONSTRUCT) _ _ _ _ (same_constructs u (slice_index i.words 1) (drop 3 i.words))
      (branch (opcode i == op.COMPOSITE_EXTRACT) _ _ _ _ (same_extracts (slice_index i.words 3) (drop 4 i.words))
      (branch (opcode i == op.COMPOSITE_INSERT) _ _ _ _ (same_inserts (slice_index i.words 3) (slice_index i.words 4) (drop 5 i.words))
      (branch (opcode i == op.COPY_OBJECT) _ _ _ _ (same_value_of before after alike (slice_index i.words 1) (slice_index i.words 3))
      (branch (opcode i == op.COPY_LOGICAL) _ _ _ _ (same_copies (slice_index i.words 1) (slice_index i.words 3))
      (branch (opcode i == op.PHI) _ _ _ _ (same_merges (slice_index i.words 1) (drop 3 i.words))
      refl)))))

  pub same_composite_result : (i : Instruction) → composite_result_fits after i ≡ composite_result_fits before i
  unfolding composite_result_fits
  same_composite_result i =
      branch (opcode i == op.COMPOSITE_CONSTRUCT) _ _ _ _ (same_composite (slice_index i.words 1))
      (branch (opcode i == op.COMPOSITE_EXTRACT) _ _ _ _ (ap (leads_to (slice_index i.words 1)) (same_part (slice_index i.words 3) (drop 4 i.words)))
      (branch (opcode i == op.COMPOSITE_INSERT) _ _ _ _ (same_value_of before after alike (slice_index i.words 1) (slice_index i.words 4))
      (branch (opcode i == op.COPY_OBJECT) _ _ _ _ (same_closed before after alike (slice_index i.words 1))
      (branch (opcode i == op.UNDEF) _ _ _ _ (same_closed before after alike (slice_index i.words 1))
      (branch (opcode i == op.PHI) _ _ _ _ (same_closed before after alike (slice_index i.words 1))
      refl)))))
