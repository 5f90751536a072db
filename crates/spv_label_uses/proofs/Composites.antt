-- What instructions on vectors and composites need, and those that copy.
use Rattle.std.proofs.Common.{◌≡◌, ℕ, Bool, true, false, cond, ◌==◌, ◌&&◌, List, drop, Option, Some, None, refl, sym, ap, ◌∙◌}
use Rattle.std.specs.List.{slice_index}
use Rattle.std.specs.Option.{is_some, option_and_then, option_map_or}
use Rattle.std.proofs.lemmas.Bool.{and_parts}
use Rattle.spv_opcodes.specs.declared.op.TheConstants as op
use Rattle.spv_grammar.specs.Table.{row_of}
use Rattle.spv_module.specs.Instruction.{Instruction, IsInstruction, opcode, roles}
use Rattle.spv_typing.specs.Kinds.{is_vector, component}
use Rattle.spv_values.specs.Values.{value_type, is_value, is_value_of, is_ints}
use Rattle.spv_composites.specs.Vectors.{as_vector, vector_type, takes_component, is_component_of, is_component_for, sets_component, shuffles_types, shuffles, vector_operands_fit, vector_result_fits}
use Rattle.spv_declarations.specs.Laws.{IsUnbroken}
use Rattle.spv_label_uses.proofs.Covered.{used_by_row}
use Rattle.spv_label_uses.proofs.Free.{same_by, all_3, all_4, is_free, free_kind, free_made, free_is_value, free_value_of, free_ints}
use Rattle.spv_label_uses.proofs.Types.{NeedsFree, free_component}

-- ---- vectors

free_vector : (insts : List Instruction) (id : ℕ) → is_some (vector_type insts id) ≡ true → is_free insts id ≡ true
free_vector insts id h = free_made insts id (as_vector insts) h

-- what is made of the type of a vector
if_vector : (insts : List Instruction) (id : ℕ) (p : ℕ → Bool) → option_map_or p (vector_type insts id) false ≡ true → is_free insts id ≡ true
if_vector insts id p h = by (vector_type insts id) refl h where
  by : (t : Option ℕ) → vector_type insts id ≡ t → option_map_or p t false ≡ true → is_free insts id ≡ true
  by None e h = absurd (cc h)
  by (Some t) e h = free_vector insts id (ap is_some e)

-- the type of a vector's components
vector_type_is : (insts : List Instruction) (found : Option ℕ) (u : ℕ) → option_and_then (as_vector insts) found ≡ Some u → is_vector insts u ≡ true
vector_type_is insts None u h = absurd (cc h)
vector_type_is insts (Some t) u h = by (is_vector insts t) refl h where
  by : (b : Bool) → is_vector insts t ≡ b → cond b (Some t) None ≡ Some u → is_vector insts u ≡ true
  by true e h = ap (is_vector insts) (sym (some_same t u h)) ∙ e where
    some_same : (a b : ℕ) → Some a ≡ Some b → a ≡ b
    some_same a b h = cc h
  by false e h = absurd (cc h)

free_component_type : (insts : List Instruction) → IsUnbroken insts → (v t : ℕ) → is_component_of insts v t ≡ true → is_free insts t ≡ true
free_component_type insts unbroken v t h = by (vector_type insts v) refl h where
  by : (u : Option ℕ) → vector_type insts v ≡ u → option_map_or (λ u. component insts u == t) u false ≡ true → is_free insts t ≡ true
  by None e h = absurd (cc h)
  by (Some u) e h =
      ap (is_free insts) (sym (same_by (component insts u) t h)) ∙ free_component insts u unbroken (vector_type_is insts (value_type insts v) u e)

pub extract_dynamic_needs : (insts : List Instruction) → IsUnbroken insts → (i : Instruction) → IsInstruction i.words (roles i)
    → opcode i ≡ op.VECTOR_EXTRACT_DYNAMIC
    → vector_operands_fit insts i ≡ true → vector_result_fits insts i ≡ true → NeedsFree insts i
unfolding row_of vector_operands_fit vector_result_fits
extract_dynamic_needs insts unbroken i whole e h k =
    let t : ℕ = slice_index i.words 1 in
    let v : ℕ = slice_index i.words 3 in
    let x : ℕ = slice_index i.words 4 in
    let fits : takes_component insts (slice_index i.words 3) (slice_index i.words 4) ≡ true = rw e at h in
    let gives : is_component_of insts (slice_index i.words 3) (slice_index i.words 1) ≡ true = rw e at k in
    let both = and_parts (is_some (vector_type insts v)) (is_ints insts 1 x) fits in
    used_by_row (is_free insts) i op.VECTOR_EXTRACT_DYNAMIC whole e refl
    (all_3 (is_free insts) t v x (free_component_type insts unbroken v t gives) (free_vector insts v both.0) (free_ints insts 1 x both.1))

free_component_for : (insts : List Instruction) (t id : ℕ) → is_component_for insts t id ≡ true → is_free insts id ≡ true
free_component_for insts t id h = by (is_vector insts t) h where
  by : (b : Bool) → cond b (is_value_of insts (component insts t) id) (is_value insts id) ≡ true → is_free insts id ≡ true
  by true h = free_value_of insts (component insts t) id h
  by false h = free_is_value insts id h

pub insert_dynamic_needs : (insts : List Instruction) (i : Instruction) → IsInstruction i.words (roles i) → opcode i ≡ op.VECTOR_INSERT_DYNAMIC
    → vector_operands_fit insts i ≡ true → vector_result_fits insts i ≡ true → NeedsFree insts i
unfolding row_of vector_operands_fit vector_result_fits
insert_dynamic_needs insts i whole e h k =
    let t : ℕ = slice_index i.words 1 in
    let v : ℕ = slice_index i.words 3 in
    let x : ℕ = slice_index i.words 4 in
    let n : ℕ = slice_index i.words 5 in
    let fits : sets_component insts (slice_index i.words 1) (slice_index i.words 3) (slice_index i.words 4) (slice_index i.words 5) ≡ true = rw e at h in
    let gives : is_vector insts (slice_index i.words 1) ≡ true = rw e at k in
    let both = and_parts (is_value_of insts t v) (is_component_for insts t x && is_ints insts 1 n) fits in
    let others = and_parts (is_component_for insts t x) (is_ints insts 1 n) both.1 in
    used_by_row (is_free insts) i op.VECTOR_INSERT_DYNAMIC whole e refl
    (all_4 (is_free insts) t v x n (free_kind insts t op.TYPE_VECTOR gives refl) (free_value_of insts t v both.0) (free_component_for insts t x others.0)
    (free_ints insts 1 n others.1))

shuffled_free : (insts : List Instruction) (t a b : ℕ) (literals : List ℕ) → shuffles insts t a b literals ≡ true
    → (is_free insts a ≡ true) × (is_free insts b ≡ true)
shuffled_free insts t a b literals h = by (vector_type insts a) refl h where
  by : (u : Option ℕ) → vector_type insts a ≡ u
      → option_map_or (λ u. option_map_or (λ w. shuffles_types insts t u w literals) (vector_type insts b) false) u false ≡ true
      → (is_free insts a ≡ true) × (is_free insts b ≡ true)
  by None e h = absurd (cc h)
  by (Some u) e h = (free_vector insts a (ap is_some e), if_vector insts b (λ w. shuffles_types insts t u w literals) h)

pub shuffle_needs : (insts : List Instruction) (i : Instruction) → IsInstruction i.words (roles i) → opcode i ≡ op.VECTOR_SHUFFLE
    → vector_operands_fit insts i ≡ true → vector_result_fits insts i ≡ true → NeedsFree insts i
unfolding row_of vector_operands_fit vector_result_fits
shuffle_needs insts i whole e h k =
    let t : ℕ = slice_index i.words 1 in
    let a : ℕ = slice_index i.words 3 in
    let b : ℕ = slice_index i.words 4 in
    let fits : shuffles insts (slice_index i.words 1) (slice_index i.words 3) (slice_index i.words 4) (drop 5 i.words) ≡ true = rw e at h in
    let gives : is_vector insts (slice_index i.words 1) ≡ true = rw e at k in
    let both = shuffled_free insts t a b (drop 5 i.words) fits in
    used_by_row (is_free insts) i op.VECTOR_SHUFFLE whole e refl (all_3 (is_free insts) t a b (free_kind insts t op.TYPE_VECTOR gives refl) both.0 both.1)
