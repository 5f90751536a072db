-- What decorations and the variables outside functions need.
use Rattle.std.proofs.Common.{◌≡◌, ℕ, Bool, true, false, cond, not, ◌==◌, ◌&&◌, ◌||◌, nat_lt, List, [], ◌∷◌, length, drop, take, refl}
use Rattle.std.specs.List.{list_all, slice_index}
use Rattle.std.proofs.lemmas.Bool.{and_parts}
use Rattle.spv_opcodes.specs.declared.op.TheConstants as op
use Rattle.spv_opcodes.specs.declared.builtin.TheConstants as builtin
use Rattle.spv_opcodes.specs.declared.decoration.TheConstants as decoration
use Rattle.spv_opcodes.specs.declared.storage_class.TheConstants as storage_class
use Rattle.spv_grammar.specs.Table.{row_of}
use Rattle.spv_module.specs.Instruction.{Instruction, IsInstruction, opcode, roles}
use Rattle.spv_ids.specs.Ids.{kind}
use Rattle.spv_typing.specs.Kinds.{is_one_of, is_array, is_constant, is_pointer, is_runtime_array, is_struct, is_triple, is_variable_of, members, pointee, pointer_class, has_type, type_of}
use Rattle.spv_decorations.specs.Targets.{memory_decorations, builtin_suits, suits, suits_member, decoration_fits}
use Rattle.spv_decorations.specs.Globals.{class_fits, input_fits, block_fits, length_fits, initialiser_fits, variable_fits, global_fits}
use Rattle.spv_label_uses.proofs.Covered.{used_by_row}
use Rattle.spv_label_uses.proofs.Free.{or_cases, all_1, all_cons, is_free, free_kind, free_kinds, free_constant, free_typed, free_variable}
use Rattle.spv_label_uses.proofs.Types.{NeedsFree}

-- ---- targets of decorations

builtin_target : (insts : List Instruction) (t b : ℕ) (w : Bool)
    → cond w (is_constant insts t && is_triple insts (type_of insts t)) (is_variable_of insts storage_class.INPUT t) ≡ true
    → is_free insts t ≡ true
builtin_target insts t b true h = free_constant insts t (and_parts (is_constant insts t) (is_triple insts (type_of insts t)) h).0
builtin_target insts t b false h = free_variable insts storage_class.INPUT t h

free_target : (insts : List Instruction) (t d literal : ℕ) → suits insts t d literal ≡ true → is_free insts t ≡ true
free_target insts t d literal h =
    by (d == decoration.SPEC_ID) (d == decoration.BLOCK) (d == decoration.ARRAY_STRIDE) (d == decoration.BUILTIN)
    (d == decoration.BINDING || d == decoration.DESCRIPTOR_SET) h
  where
    by : (s b a u l : Bool)
        → cond s (is_one_of (op.SPEC_CONSTANT_TRUE ∷ op.SPEC_CONSTANT_FALSE ∷ op.SPEC_CONSTANT ∷ []) (kind insts t))
        (cond b (is_struct insts t)
        (cond a (is_array insts t || is_runtime_array insts t)
        (cond u (builtin_suits insts t literal)
        (cond l (is_variable_of insts storage_class.UNIFORM t || is_variable_of insts storage_class.STORAGE_BUFFER t)
        (is_one_of memory_decorations d && is_one_of (op.VARIABLE ∷ op.FUNCTION_PARAMETER ∷ []) (kind insts t)))))) ≡ true
        → is_free insts t ≡ true
    by true b a u l h = free_kinds insts t (op.SPEC_CONSTANT_TRUE ∷ op.SPEC_CONSTANT_FALSE ∷ op.SPEC_CONSTANT ∷ []) h refl
    by false true a u l h = free_kind insts t op.TYPE_STRUCT h refl
    by false false true u l h =
        or_cases (is_array insts t) (is_runtime_array insts t) h (λ k. free_kind insts t op.TYPE_ARRAY k refl)
        (λ k. free_kind insts t op.TYPE_RUNTIME_ARRAY k refl)
    by false false false true l h = builtin_target insts t literal (literal == builtin.WORKGROUP_SIZE) h
    by false false false false true h =
        or_cases (is_variable_of insts storage_class.UNIFORM t) (is_variable_of insts storage_class.STORAGE_BUFFER t) h
        (λ k. free_variable insts storage_class.UNIFORM t k) (λ k. free_variable insts storage_class.STORAGE_BUFFER t k)
    by false false false false false h =
        free_kinds insts t (op.VARIABLE ∷ op.FUNCTION_PARAMETER ∷ [])
        (and_parts (is_one_of memory_decorations d) (is_one_of (op.VARIABLE ∷ op.FUNCTION_PARAMETER ∷ []) (kind insts t)) h).1 refl

pub decorate_needs : (insts : List Instruction) (i : Instruction) → IsInstruction i.words (roles i) → opcode i ≡ op.DECORATE
    → decoration_fits insts i ≡ true → NeedsFree insts i
unfolding row_of decoration_fits
decorate_needs insts i whole e h =
    let fits : suits insts (slice_index i.words 1) (slice_index i.words 2) (slice_index i.words 3) ≡ true = rw e at h in
    used_by_row (is_free insts) i op.DECORATE whole e refl
    (all_1 (is_free insts) (slice_index i.words 1) (free_target insts (slice_index i.words 1) (slice_index i.words 2) (slice_index i.words 3) fits))

pub member_decorate_needs : (insts : List Instruction) (i : Instruction) → IsInstruction i.words (roles i) → opcode i ≡ op.MEMBER_DECORATE
    → decoration_fits insts i ≡ true
    → NeedsFree insts i
unfolding row_of decoration_fits
member_decorate_needs insts i whole e h =
    let t : ℕ = slice_index i.words 1 in
    let fits : suits_member insts (slice_index i.words 1) (slice_index i.words 2) (slice_index i.words 3) ≡ true = rw e at h in
    let struct = (and_parts (is_one_of (decoration.OFFSET ∷ memory_decorations) (slice_index i.words 3))
    (is_struct insts t && nat_lt (slice_index i.words 2) (length (members insts t))) fits).1 in
    used_by_row (is_free insts) i op.MEMBER_DECORATE whole e refl
    (all_1 (is_free insts) t (free_kind insts t op.TYPE_STRUCT
    (and_parts (is_struct insts t) (nat_lt (slice_index i.words 2) (length (members insts t))) struct).0 refl))

-- ---- variables

-- its type, and its initialiser, if it has one
pub variable_needs : (insts : List Instruction) (i : Instruction) → IsInstruction i.words (roles i) → opcode i ≡ op.VARIABLE
    → is_pointer insts (slice_index i.words 1) ≡ true
    → list_all (is_free insts) (take 1 (drop 4 i.words)) ≡ true → NeedsFree insts i
unfolding row_of
variable_needs insts i whole e h k =
    used_by_row (is_free insts) i op.VARIABLE whole e refl
    (all_cons (is_free insts) (slice_index i.words 1) (take 1 (drop 4 i.words)) (free_kind insts (slice_index i.words 1) op.TYPE_POINTER h refl) k)

free_initialiser : (insts : List Instruction) (class target : ℕ) (ids : List ℕ) → initialiser_fits insts class target ids ≡ true
    → list_all (is_free insts) (take 1 ids) ≡ true
free_initialiser insts class target [] h = refl
free_initialiser insts class target (id ∷ ids) h =
    all_1 (is_free insts) id (free_typed insts target id (and_parts (class == storage_class.PRIVATE) (has_type insts target id) h).1)

pub global_needs : (insts : List Instruction) (begun : Bool) (i : Instruction) → IsInstruction i.words (roles i) → opcode i ≡ op.VARIABLE → begun ≡ false
    → global_fits insts begun i ≡ true → NeedsFree insts i
unfolding global_fits
global_needs insts begun i whole e outside h =
    let t : ℕ = slice_index i.words 1 in
    let r : ℕ = slice_index i.words 2 in
    let class : ℕ = slice_index i.words 3 in
    let ids : List ℕ = drop 4 i.words in
    let fits : variable_fits insts (slice_index i.words 1) (slice_index i.words 2) (slice_index i.words 3) (drop 4 i.words) ≡ true = rw (outside, e) at h in
    let last : Bool = length_fits insts class (pointee insts t) && initialiser_fits insts class (pointee insts t) ids in
    let blocks : Bool = block_fits insts class (pointee insts t) && last in
    let classes = and_parts (class_fits insts t class) (input_fits insts class r (pointee insts t) && blocks) fits in
    let inputs = and_parts (input_fits insts class r (pointee insts t)) blocks classes.1 in
    let lengths = and_parts (block_fits insts class (pointee insts t)) last inputs.1 in
    let initial = and_parts (length_fits insts class (pointee insts t)) (initialiser_fits insts class (pointee insts t) ids) lengths.1 in
    let pointer = and_parts (not (class == storage_class.FUNCTION)) (is_pointer insts t && pointer_class insts t == class) classes.0 in
    variable_needs insts i whole e (and_parts (is_pointer insts t) (pointer_class insts t == class) pointer.1).0
    (free_initialiser insts class (pointee insts t) ids initial.1)
