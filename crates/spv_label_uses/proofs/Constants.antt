-- What constants need.
use Rattle.std.proofs.Common.{◌≡◌, ℕ, Bool, true, false, cond, not, ◌==◌, ◌&&◌, nat_eq, List, [], ◌∷◌, length, drop, refl}
use Rattle.std.specs.List.{list_all, slice_index}
use Rattle.std.proofs.lemmas.Bool.{and_parts, not-true}
use Rattle.spv_opcodes.specs.declared.op.TheConstants as op
use Rattle.spv_grammar.specs.Table.{row_of}
use Rattle.spv_module.specs.Instruction.{Instruction, IsInstruction, opcode, roles}
use Rattle.spv_typing.specs.Kinds.{is_one_of, is_bool, is_int, is_vector, is_array, is_struct, is_closed, is_spec, component, component_count, element, length_id, members, has_type}
use Rattle.spv_declarations.specs.Constants.{are_of, has_length, composite_fits, constant_fits}
use Rattle.spv_declarations.specs.Declarations.{Declared}
use Rattle.spv_label_uses.proofs.Free.{or_cases, all_1, all_cons, all_weaker, is_free, free_kind, free_closed, free_typed, one_passes, same_by}
use Rattle.spv_label_uses.proofs.Groups.{AllOf, also, MayNeed, needs}
use Rattle.spv_label_uses.proofs.Types.{NeedsFree}

-- ---- of a type alone

abbrev pub booleans : List ℕ
booleans = op.CONSTANT_TRUE ∷ op.CONSTANT_FALSE ∷ op.SPEC_CONSTANT_TRUE ∷ op.SPEC_CONSTANT_FALSE ∷ []

abbrev pub numbers : List ℕ
numbers = op.CONSTANT ∷ op.SPEC_CONSTANT ∷ []

abbrev pub type_only : List ℕ → List ℕ
type_only words = slice_index words 1 ∷ []

boolean_rows : AllOf (MayNeed type_only) booleans
unfolding row_of
boolean_rows = also (λ ws. refl) (also (λ ws. refl) (also (λ ws. refl) (also (λ ws. refl) tt)))

number_rows : AllOf (MayNeed type_only) numbers
unfolding row_of
number_rows = also (λ ws. refl) (also (λ ws. refl) tt)

pub plain_rows : AllOf (MayNeed type_only) (op.CONSTANT_NULL ∷ op.UNDEF ∷ [])
unfolding row_of
plain_rows = also (λ ws. refl) (also (λ ws. refl) tt)

pub boolean_needs : (insts : List Instruction) (d : Declared) (i : Instruction) → IsInstruction i.words (roles i) → is_one_of booleans (opcode i) ≡ true
    → constant_fits insts d i ≡ true → NeedsFree insts i
boolean_needs insts d i whole m h =
    let fits : is_bool insts (slice_index i.words 1) ≡ true = rw m at h in
    needs (is_free insts) booleans type_only boolean_rows refl i whole m
    (all_1 (is_free insts) (slice_index i.words 1) (free_kind insts (slice_index i.words 1) op.TYPE_BOOL fits refl))

-- an opcode of one list is none of another
pub not_in : (os others : List ℕ) (o : ℕ) → list_all (λ o. not (is_one_of others o)) os ≡ true → is_one_of os o ≡ true → is_one_of others o ≡ false
not_in os others o apart h = not-true (is_one_of others o) (one_passes (λ o. not (is_one_of others o)) os o apart h)

pub number_needs : (insts : List Instruction) (d : Declared) (i : Instruction) → IsInstruction i.words (roles i) → is_one_of numbers (opcode i) ≡ true
    → constant_fits insts d i ≡ true → NeedsFree insts i
number_needs insts d i whole m h =
    let no_boolean = not_in numbers booleans (opcode i) refl m in
    let fits : (is_int insts (slice_index i.words 1) && length (drop 3 i.words) == 1) ≡ true = rw (no_boolean, m) at h in
    needs (is_free insts) numbers type_only number_rows refl i whole m
    (all_1 (is_free insts) (slice_index i.words 1)
    (free_kind insts (slice_index i.words 1) op.TYPE_INT (and_parts (is_int insts (slice_index i.words 1)) (length (drop 3 i.words) == 1) fits).0 refl))

pub closed_needs : (insts : List Instruction) (i : Instruction) → IsInstruction i.words (roles i)
    → is_one_of (op.CONSTANT_NULL ∷ op.UNDEF ∷ []) (opcode i) ≡ true
    → is_closed insts (slice_index i.words 1) ≡ true → NeedsFree insts i
closed_needs insts i whole m h =
    needs (is_free insts) (op.CONSTANT_NULL ∷ op.UNDEF ∷ []) type_only plain_rows refl i whole m
    (all_1 (is_free insts) (slice_index i.words 1) (free_closed insts (slice_index i.words 1) h))

pub null_type : (insts : List Instruction) (d : Declared) (i : Instruction) → opcode i ≡ op.CONSTANT_NULL → constant_fits insts d i ≡ true
    → is_closed insts (slice_index i.words 1) ≡ true
null_type insts d i e h = rw e at h

pub undefined_type : (insts : List Instruction) (d : Declared) (i : Instruction) → opcode i ≡ op.UNDEF → constant_fits insts d i ≡ true
    → is_closed insts (slice_index i.words 1) ≡ true
undefined_type insts d i e h = rw e at h

-- ---- of constituents

abbrev pub composites : List ℕ
composites = op.CONSTANT_COMPOSITE ∷ op.SPEC_CONSTANT_COMPOSITE ∷ []

abbrev pub type_and_parts : List ℕ → List ℕ
type_and_parts words = slice_index words 1 ∷ drop 3 words

composite_rows : AllOf (MayNeed type_and_parts) composites
unfolding row_of
composite_rows = also (λ ws. refl) (also (λ ws. refl) tt)

-- induction on the constituents
free_of : (insts : List Instruction) (ts ids : List ℕ) → are_of insts ts ids ≡ true → list_all (is_free insts) ids ≡ true
free_of insts [] [] h = refl
free_of insts [] (id ∷ ids) h = absurd (cc h)
free_of insts (t ∷ ts) [] h = refl
free_of insts (t ∷ ts) (id ∷ ids) h =
    let both = and_parts (has_type insts t id) (are_of insts ts ids) h in
    all_cons (is_free insts) id ids (free_typed insts t id both.0) (free_of insts ts ids both.1)

free_all_typed : (insts : List Instruction) (t : ℕ) (ids : List ℕ) → list_all (has_type insts t) ids ≡ true → list_all (is_free insts) ids ≡ true
free_all_typed insts t ids h = all_weaker (has_type insts t) (is_free insts) ids (free_typed insts t) h

free_composite : (insts : List Instruction) (d : Declared) (t : ℕ) (ids : List ℕ) → composite_fits insts d t ids ≡ true
    → list_all (is_free insts) (t ∷ ids) ≡ true
free_composite insts d t ids h = by (is_vector insts t) (is_array insts t) refl refl h where
  n : ℕ
  n = length ids

  by : (v a : Bool) → is_vector insts t ≡ v → is_array insts t ≡ a
      → cond v (component_count insts t == n && list_all (has_type insts (component insts t)) ids)
      (cond a (has_length d (length_id insts t) n && list_all (has_type insts (element insts t)) ids)
      (is_struct insts t && are_of insts (members insts t) ids)) ≡ true
      → list_all (is_free insts) (t ∷ ids) ≡ true
  by true a hv ha h =
      all_cons (is_free insts) t ids (free_kind insts t op.TYPE_VECTOR hv refl)
      (free_all_typed insts (component insts t) ids (and_parts (component_count insts t == n) (list_all (has_type insts (component insts t)) ids) h).1)
  by false true hv ha h =
      all_cons (is_free insts) t ids (free_kind insts t op.TYPE_ARRAY ha refl)
      (free_all_typed insts (element insts t) ids (and_parts (has_length d (length_id insts t) n) (list_all (has_type insts (element insts t)) ids) h).1)
  by false false hv ha h =
      let both = and_parts (is_struct insts t) (are_of insts (members insts t) ids) h in
      all_cons (is_free insts) t ids (free_kind insts t op.TYPE_STRUCT both.0 refl) (free_of insts (members insts t) ids both.1)

composite_fits_there : (insts : List Instruction) (d : Declared) (i : Instruction) → is_one_of composites (opcode i) ≡ true → constant_fits insts d i ≡ true
    → composite_fits insts d (slice_index i.words 1) (drop 3 i.words) ≡ true
composite_fits_there insts d i m h =
    or_cases (nat_eq (opcode i) op.CONSTANT_COMPOSITE) (is_one_of (op.SPEC_CONSTANT_COMPOSITE ∷ []) (opcode i)) m
    (λ e. plain (same_by (opcode i) op.CONSTANT_COMPOSITE e) h)
    (λ e. special (same_by (opcode i) op.SPEC_CONSTANT_COMPOSITE
    (or_cases (nat_eq (opcode i) op.SPEC_CONSTANT_COMPOSITE) false e (λ f. f) (λ f. absurd (cc f)))) h)
  where
    plain : opcode i ≡ op.CONSTANT_COMPOSITE → constant_fits insts d i ≡ true → composite_fits insts d (slice_index i.words 1) (drop 3 i.words) ≡ true
    plain e h =
        let both : (composite_fits insts d (slice_index i.words 1) (drop 3 i.words) && list_all (λ id. not (is_spec insts id))
        (drop 3 i.words)) ≡ true = rw e at h in
        (and_parts (composite_fits insts d (slice_index i.words 1) (drop 3 i.words)) (list_all (λ id. not (is_spec insts id)) (drop 3 i.words)) both).0

    special : opcode i ≡ op.SPEC_CONSTANT_COMPOSITE → constant_fits insts d i ≡ true → composite_fits insts d (slice_index i.words 1) (drop 3 i.words) ≡ true
    special e h = rw e at h

pub composite_needs : (insts : List Instruction) (d : Declared) (i : Instruction) → IsInstruction i.words (roles i) → is_one_of composites (opcode i) ≡ true
    → constant_fits insts d i ≡ true → NeedsFree insts i
composite_needs insts d i whole m h =
    needs (is_free insts) composites type_and_parts composite_rows refl i whole m
    (free_composite insts d (slice_index i.words 1) (drop 3 i.words) (composite_fits_there insts d i m h))
