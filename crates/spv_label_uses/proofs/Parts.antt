-- What instructions need that make composites, take them apart, change them in one part, or copy values.
use Rattle.std.proofs.Common.{◌≡◌, ℕ, zero, suc, ◌+◌, Bool, true, false, cond, not, ◌==◌, ◌&&◌, ◌||◌, nat_eq, nat_le, nat_lt, List, [], ◌∷◌, length, drop, Option, Some, None, refl, sym, ap, ◌∙◌, arith}
use Rattle.std.specs.List.{list_all, slice_get, slice_index, zip}
use Rattle.std.specs.Option.{is_some, option_and_then, option_map, option_map_or}
use Rattle.std.proofs.lemmas.Bool.{and_parts}
use Rattle.std.proofs.lemmas.Bool.Decides.{nat_tests}
use Rattle.spv_opcodes.specs.declared.op.TheConstants as op
use Rattle.spv_grammar.specs.Table.{row_of}
use Rattle.spv_module.specs.Instruction.{Instruction, IsInstruction, opcode, roles}
use Rattle.spv_typing.specs.Kinds.{is_vector, is_array, is_struct, ends_open, component, component_count, element, length_id, members}
use Rattle.spv_typing.specs.Operations.{part_at, part_behind, part_along, leads_to, literals_lead}
use Rattle.spv_values.specs.Values.{value_type, is_value, is_value_of}
use Rattle.spv_composites.specs.Lengths.{has_known_length}
use Rattle.spv_composites.specs.Composites.{components_in, components_of_value, components_of, make_vector, make_array, make_struct, is_closed_struct, is_composite, constructs, part_of_value, extracts, inserts, composite_operands_fit, composite_result_fits}
use Rattle.spv_declarations.specs.Laws.{IsUnbroken}
use Rattle.spv_label_uses.proofs.Covered.{used_by_row}
use Rattle.spv_label_uses.proofs.Free.{or_cases, same_by, all_2, all_3, all_cons, all_weaker, is_free, free_kind, free_value, free_made, free_is_value, free_value_of}
use Rattle.spv_label_uses.proofs.Types.{NeedsFree, free_component, free_array_element, free_struct_members}

-- ---- made of parts

-- induction on the values
components_free : (insts : List Instruction) (x : ℕ) (ids : List ℕ) → is_some (components_of insts x ids) ≡ true → list_all (is_free insts) ids ≡ true
components_free insts x [] h = refl
components_free insts x (id ∷ ids) h =
    let both = parts (components_of_value insts x id) (components_of insts x ids) h in
    all_cons (is_free insts) id ids (free_made insts id (components_in insts x) both.0) (components_free insts x ids both.1)
  where
    parts : (first others : Option ℕ) → is_some (option_and_then (λ n. option_map (λ m. n + m) others) first) ≡ true
        → (is_some first ≡ true) × (is_some others ≡ true)
    parts None others h = absurd (cc h)
    parts (Some n) None h = absurd (cc h)
    parts (Some n) (Some m) h = (refl, refl)

pub leads_somewhere : (t : ℕ) (found : Option ℕ) → leads_to t found ≡ true → is_some found ≡ true
leads_somewhere t None h = h
leads_somewhere t (Some u) h = refl

vector_free : (insts : List Instruction) (t : ℕ) (ids : List ℕ) → make_vector insts t ids ≡ true → list_all (is_free insts) ids ≡ true
vector_free insts t ids h =
    let leads = (and_parts (nat_le 2 (length ids)) (leads_to (component_count insts t) (components_of insts (component insts t) ids)) h).1 in
    components_free insts (component insts t) ids (leads_somewhere (component_count insts t) (components_of insts (component insts t) ids) leads)

array_free : (insts : List Instruction) (t : ℕ) (ids : List ℕ) → make_array insts t ids ≡ true → list_all (is_free insts) ids ≡ true
array_free insts t ids h =
    all_weaker (is_value_of insts (element insts t)) (is_free insts) ids (free_value_of insts (element insts t))
    (and_parts (has_known_length insts (length_id insts t) (length ids)) (list_all (is_value_of insts (element insts t)) ids) h).1

pub same_count : (n m : ℕ) → (suc n == suc m) ≡ true → (n == m) ≡ true
same_count n m h = grind (arith, nat_tests)

-- as many ids as types, each a value of its type; induction on both
pub members_free : (insts : List Instruction) (ts ids : List ℕ) → (length ts == length ids) ≡ true
    → list_all (λ pair. is_value_of insts pair.0 pair.1) (zip ts ids) ≡ true
    → list_all (is_free insts) ids ≡ true
members_free insts ts [] n h = refl
members_free insts [] (id ∷ ids) n h = absurd (cc (same_by 0 (suc (length ids)) n))
members_free insts (t ∷ ts) (id ∷ ids) n h =
    let both = and_parts (is_value_of insts t id) (list_all (λ pair. is_value_of insts pair.0 pair.1) (zip ts ids)) h in
    all_cons (is_free insts) id ids (free_value_of insts t id both.0) (members_free insts ts ids (same_count (length ts) (length ids) n) both.1)

struct_free : (insts : List Instruction) (t : ℕ) (ids : List ℕ) → make_struct insts t ids ≡ true → list_all (is_free insts) ids ≡ true
struct_free insts t ids h =
    let both = and_parts (length (members insts t) == length ids) (list_all (λ pair. is_value_of insts pair.0 pair.1) (zip (members insts t) ids)) h in
    members_free insts (members insts t) ids both.0 both.1

constructs_free : (insts : List Instruction) (t : ℕ) (ids : List ℕ) → constructs insts t ids ≡ true → list_all (is_free insts) ids ≡ true
constructs_free insts t ids h = by (is_vector insts t) (is_array insts t) (is_closed_struct insts t) h where
  by : (v a s : Bool)
      → cond v (make_vector insts t ids) (cond a (make_array insts t ids) (cond s (make_struct insts t ids) (list_all (is_value insts) ids))) ≡ true
      → list_all (is_free insts) ids ≡ true
  by true a s h = vector_free insts t ids h
  by false true s h = array_free insts t ids h
  by false false true h = struct_free insts t ids h
  by false false false h = all_weaker (is_value insts) (is_free insts) ids (free_is_value insts) h

composite_free : (insts : List Instruction) (t : ℕ) → is_composite insts t ≡ true → is_free insts t ≡ true
composite_free insts t h =
    or_cases (is_vector insts t) (is_array insts t || is_closed_struct insts t) h (λ k. free_kind insts t op.TYPE_VECTOR k refl)
    (λ k. or_cases (is_array insts t) (is_closed_struct insts t) k (λ k. free_kind insts t op.TYPE_ARRAY k refl)
    (λ k. free_kind insts t op.TYPE_STRUCT (and_parts (is_struct insts t) (not (ends_open insts t)) k).0 refl))

pub construct_needs : (insts : List Instruction) (i : Instruction) → IsInstruction i.words (roles i) → opcode i ≡ op.COMPOSITE_CONSTRUCT
    → composite_operands_fit insts i ≡ true → composite_result_fits insts i ≡ true → NeedsFree insts i
unfolding row_of composite_operands_fit composite_result_fits
construct_needs insts i whole e h k =
    let fits : constructs insts (slice_index i.words 1) (drop 3 i.words) ≡ true = rw e at h in
    let gives : is_composite insts (slice_index i.words 1) ≡ true = rw e at k in
    used_by_row (is_free insts) i op.COMPOSITE_CONSTRUCT whole e refl
    (all_cons (is_free insts) (slice_index i.words 1) (drop 3 i.words) (composite_free insts (slice_index i.words 1) gives)
    (constructs_free insts (slice_index i.words 1) (drop 3 i.words) fits))

-- ---- the types of parts

-- what all pass, one passes that is got; induction on the numbers
pub got : (p : ℕ → Bool) (xs : List ℕ) (k x : ℕ) → list_all p xs ≡ true → slice_get xs k ≡ Some x → p x ≡ true
got p [] k x h e = absurd (cc e)
got p (y ∷ ys) zero x h e =
    let same : y ≡ x = cc e in
    ap p (sym same) ∙ (and_parts (p y) (list_all p ys) h).0
got p (y ∷ ys) (suc k) x h e = got p ys k x (and_parts (p y) (list_all p ys) h).1 e

part_free : (insts : List Instruction) → IsUnbroken insts → (t index u : ℕ) → part_at insts t index ≡ Some u → is_free insts u ≡ true
part_free insts unbroken t index u h = by (is_struct insts t) (is_array insts t) (is_vector insts t) refl refl refl h where
  some_same : (a b : ℕ) → Some a ≡ Some b → a ≡ b
  some_same a b h = cc h

  within : (b : Bool) → is_vector insts t ≡ true → cond b (Some (component insts t)) None ≡ Some u → is_free insts u ≡ true
  within true hv h = ap (is_free insts) (sym (some_same (component insts t) u h)) ∙ free_component insts t unbroken hv
  within false hv h = absurd (cc h)

  by : (s a v : Bool) → is_struct insts t ≡ s → is_array insts t ≡ a → is_vector insts t ≡ v
      → cond s (slice_get (members insts t) index) (cond a (Some (element insts t))
      (cond (v && nat_lt index (component_count insts t)) (Some (component insts t)) None)) ≡ Some u
      → is_free insts u ≡ true
  by true a v hs ha hv h = got (is_free insts) (members insts t) index u (free_struct_members insts t unbroken hs) h
  by false true v hs ha hv h = ap (is_free insts) (sym (some_same (element insts t) u h)) ∙ free_array_element insts t unbroken ha
  by false false true hs ha hv h = within (nat_lt index (component_count insts t)) hv h
  by false false false hs ha hv h = absurd (cc h)

-- what has a part is a composite
whole_free : (insts : List Instruction) (t index : ℕ) → is_some (part_at insts t index) ≡ true → is_free insts t ≡ true
whole_free insts t index h = by (is_struct insts t) (is_array insts t) (is_vector insts t) refl refl refl h where
  by : (s a v : Bool) → is_struct insts t ≡ s → is_array insts t ≡ a → is_vector insts t ≡ v
      → is_some (cond s (slice_get (members insts t) index) (cond a (Some (element insts t))
      (cond (v && nat_lt index (component_count insts t)) (Some (component insts t)) None))) ≡ true
      → is_free insts t ≡ true
  by true a v hs ha hv h = free_kind insts t op.TYPE_STRUCT hs refl
  by false true v hs ha hv h = free_kind insts t op.TYPE_ARRAY ha refl
  by false false true hs ha hv h = free_kind insts t op.TYPE_VECTOR hv refl
  by false false false hs ha hv h = absurd (cc h)

-- the type that literals lead to: from a free type to a free one; induction on the literals
along_free : (insts : List Instruction) → IsUnbroken insts → (literals : List ℕ) (t u : ℕ) → is_free insts t ≡ true → part_along insts literals t ≡ Some u
    → is_free insts u ≡ true
along_free insts unbroken [] t u h e =
    let same : t ≡ u = cc e in
    ap (is_free insts) (sym same) ∙ h
along_free insts unbroken (index ∷ rest) t u h e = by (part_at insts t index) refl e (λ v k f. along_free insts unbroken rest v u k f) where
  by : (part : Option ℕ) → part_at insts t index ≡ part → part_behind (part_along insts rest) part ≡ Some u
      → ((v : ℕ) → is_free insts v ≡ true → part_along insts rest v ≡ Some u → is_free insts u ≡ true) → is_free insts u ≡ true
  by None f e more = absurd (cc e)
  by (Some v) f e more = more v (part_free insts unbroken t index v f) e

-- one or more literals lead on from a composite
leads_from : (insts : List Instruction) (literals : List ℕ) (t : ℕ) → nat_lt 0 (length literals) ≡ true → is_some (part_along insts literals t) ≡ true
    → is_free insts t ≡ true
leads_from insts [] t n h = absurd (cc n)
leads_from insts (index ∷ rest) t n h = whole_free insts t index (by (part_at insts t index) h) where
  by : (part : Option ℕ) → is_some (part_behind (part_along insts rest) part) ≡ true → is_some part ≡ true
  by None h = h
  by (Some v) h = refl

pub extract_needs : (insts : List Instruction) → IsUnbroken insts → (i : Instruction) → IsInstruction i.words (roles i) → opcode i ≡ op.COMPOSITE_EXTRACT
    → composite_operands_fit insts i ≡ true → composite_result_fits insts i ≡ true → NeedsFree insts i
unfolding row_of composite_operands_fit composite_result_fits
extract_needs insts unbroken i whole e h k =
    let t : ℕ = slice_index i.words 1 in
    let c : ℕ = slice_index i.words 3 in
    let fits : extracts insts (slice_index i.words 3) (drop 4 i.words) ≡ true = rw e at h in
    let gives : leads_to (slice_index i.words 1) (part_of_value insts (slice_index i.words 3) (drop 4 i.words)) ≡ true = rw e at k in
    let both = and_parts (nat_lt 0 (length (drop 4 i.words))) (is_some (part_of_value insts c (drop 4 i.words))) fits in
    used_by_row (is_free insts) i op.COMPOSITE_EXTRACT whole e refl
    (all_2 (is_free insts) t c (type_free t (drop 4 i.words) (value_type insts c) both.0 gives)
    (free_made insts c (part_along insts (drop 4 i.words)) both.1))
  where
    led : (literals : List ℕ) (u t : ℕ) (found : Option ℕ) → part_along insts literals u ≡ found → leads_to t found ≡ true
        → nat_lt 0 (length literals) ≡ true → is_free insts t ≡ true
    led literals u t None f h n = absurd (cc h)
    led literals u t (Some v) f h n =
        ap (is_free insts) (sym (same_by v t h)) ∙ along_free insts unbroken literals u v (leads_from insts literals u n (ap is_some f)) f

    type_free : (t : ℕ) (literals : List ℕ) (found : Option ℕ) → nat_lt 0 (length literals) ≡ true
        → leads_to t (option_and_then (part_along insts literals) found) ≡ true
        → is_free insts t ≡ true
    type_free t literals None n h = absurd (cc h)
    type_free t literals (Some u) n h = led literals u t (part_along insts literals u) refl h n

-- the types of the object and of the composite that it is put into
record Inserted (insts : List Instruction) (o c : ℕ) (literals : List ℕ) : Type 0 where
  object : is_free insts o ≡ true
  composite : is_free insts c ≡ true
  type : (t : ℕ) → is_value_of insts t c ≡ true → is_free insts t ≡ true

inserted : (insts : List Instruction) (o c : ℕ) (literals : List ℕ) → inserts insts o c literals ≡ true → Inserted insts o c literals
inserted insts o c literals h = by (value_type insts o) (value_type insts c) refl refl h where
  by : (u w : Option ℕ) → value_type insts o ≡ u → value_type insts c ≡ w
      → option_map_or (λ u. option_map_or (λ w. literals_lead insts literals w u) w false) u false ≡ true → Inserted insts o c literals
  by None w hu hw h = absurd (cc h)
  by (Some u) None hu hw h = absurd (cc h)
  by (Some u) (Some w) hu hw h =
      let both = and_parts (nat_lt 0 (length literals)) (leads_to u (part_along insts literals w)) h in
      record {
        object = free_value insts o u hu;
        composite = free_value insts c w hw;
        type = λ t k.
            ap (is_free insts) (same_by t w (sym (ap (λ (x : Option ℕ). option_map_or (nat_eq t) x false) hw) ∙ k))
            ∙ leads_from insts literals w both.0 (leads_somewhere u (part_along insts literals w) both.1);
      }

pub insert_needs : (insts : List Instruction) (i : Instruction) → IsInstruction i.words (roles i) → opcode i ≡ op.COMPOSITE_INSERT
    → composite_operands_fit insts i ≡ true → composite_result_fits insts i ≡ true → NeedsFree insts i
unfolding row_of composite_operands_fit composite_result_fits
insert_needs insts i whole e h k =
    let t : ℕ = slice_index i.words 1 in
    let o : ℕ = slice_index i.words 3 in
    let c : ℕ = slice_index i.words 4 in
    let fits : inserts insts (slice_index i.words 3) (slice_index i.words 4) (drop 5 i.words) ≡ true = rw e at h in
    let gives : is_value_of insts (slice_index i.words 1) (slice_index i.words 4) ≡ true = rw e at k in
    let it = inserted insts o c (drop 5 i.words) fits in
    used_by_row (is_free insts) i op.COMPOSITE_INSERT whole e refl (all_3 (is_free insts) t o c (it.type t gives) it.object it.composite)
