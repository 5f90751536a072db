-- Types are made of neither labels nor strings.
use Rattle.std.proofs.Common.{◌≡◌, ℕ, true, false, ◌==◌, ◌&&◌, ◌||◌, nat_le, List, [], ◌∷◌, drop, refl, ap, ◌∙◌}
use Rattle.std.specs.List.{list_all, slice_index}
use Rattle.std.proofs.lemmas.Bool.{and_parts}
use Rattle.spv_opcodes.specs.declared.op.TheConstants as op
use Rattle.spv_grammar.specs.Table.{row_of}
use Rattle.spv_module.specs.Code.{is_line}
use Rattle.spv_module.specs.Instruction.{Instruction, IsInstruction, opcode, roles}
use Rattle.spv_ids.specs.Ids.{kind, used_ids, word_of, words_of}
use Rattle.spv_typing.specs.Kinds.{is_void, is_bool, is_int, is_vector, is_array, is_runtime_array, is_struct, is_pointer, is_data, is_closed, is_constant, component, element, members, type_of}
use Rattle.spv_typing.specs.Types.{type_fits, vector_fits, array_fits, struct_fits, last_fits, pointer_fits, parameter_fits, function_fits}
use Rattle.spv_declarations.specs.Laws.{IsUnbroken}
use Rattle.spv_label_uses.proofs.Covered.{used_by_row}
use Rattle.spv_label_uses.proofs.Declared.{Defined, defined, kept_at, word_is, words_are}
use Rattle.spv_label_uses.proofs.Free.{or_cases, all_1, all_2, all_cons, all_weaker, is_free, free_kind, free_data, free_closed, free_constant}

-- ---- by the rule on types

pub vector_part : (insts : List Instruction) (i : Instruction) → opcode i ≡ op.TYPE_VECTOR → type_fits insts i ≡ true
    → is_free insts (slice_index i.words 2) ≡ true
unfolding type_fits
vector_part insts i e h =
    let fits : vector_fits insts (slice_index i.words 2) (slice_index i.words 3) ≡ true = rw e at h in
    or_cases (is_bool insts (slice_index i.words 2)) (is_int insts (slice_index i.words 2))
    (and_parts (is_bool insts (slice_index i.words 2) || is_int insts (slice_index i.words 2))
    (nat_le 2 (slice_index i.words 3) && nat_le (slice_index i.words 3) 4) fits).0
    (λ b. free_kind insts (slice_index i.words 2) op.TYPE_BOOL b refl) (λ b. free_kind insts (slice_index i.words 2) op.TYPE_INT b refl)

pub array_part : (insts : List Instruction) (i : Instruction) → opcode i ≡ op.TYPE_ARRAY → type_fits insts i ≡ true
    → is_free insts (slice_index i.words 2) ≡ true
unfolding type_fits
array_part insts i e h =
    let fits : array_fits insts (slice_index i.words 2) (slice_index i.words 3) ≡ true = rw e at h in
    free_closed insts (slice_index i.words 2) (and_parts (is_closed insts (slice_index i.words 2)) _ fits).0

array_length : (insts : List Instruction) (i : Instruction) → opcode i ≡ op.TYPE_ARRAY → type_fits insts i ≡ true
    → is_free insts (slice_index i.words 3) ≡ true
unfolding type_fits
array_length insts i e h =
    let fits : array_fits insts (slice_index i.words 2) (slice_index i.words 3) ≡ true = rw e at h in
    let length : (is_constant insts (slice_index i.words 3) && is_int insts (type_of insts (slice_index i.words 3))) ≡ true =
    (and_parts (is_closed insts (slice_index i.words 2)) (is_constant insts (slice_index i.words 3) && is_int insts
    (type_of insts (slice_index i.words 3))) fits).1 in
    free_constant insts (slice_index i.words 3) (and_parts (is_constant insts (slice_index i.words 3))
    (is_int insts (type_of insts (slice_index i.words 3))) length).0

runtime_array_part : (insts : List Instruction) (i : Instruction) → opcode i ≡ op.TYPE_RUNTIME_ARRAY → type_fits insts i ≡ true
    → is_free insts (slice_index i.words 2) ≡ true
unfolding type_fits
runtime_array_part insts i e h =
    let fits : is_closed insts (slice_index i.words 2) ≡ true = rw e at h in
    free_closed insts (slice_index i.words 2) fits

free_last : (insts : List Instruction) (m : ℕ) → last_fits insts m ≡ true → is_free insts m ≡ true
free_last insts m h =
    or_cases (is_closed insts m) (is_runtime_array insts m) h (λ b. free_closed insts m b) (λ b. free_kind insts m op.TYPE_RUNTIME_ARRAY b refl)

-- induction on the members
free_members : (insts : List Instruction) (ms : List ℕ) → struct_fits insts ms ≡ true → list_all (is_free insts) ms ≡ true
free_members insts [] h = refl
free_members insts (m ∷ []) h = all_1 (is_free insts) m (free_last insts m h)
free_members insts (m ∷ n ∷ ms) h =
    let both = and_parts (is_closed insts m) (struct_fits insts (n ∷ ms)) h in
    all_cons (is_free insts) m (n ∷ ms) (free_closed insts m both.0) (free_members insts (n ∷ ms) both.1)

pub struct_parts : (insts : List Instruction) (i : Instruction) → opcode i ≡ op.TYPE_STRUCT → type_fits insts i ≡ true
    → list_all (is_free insts) (drop 2 i.words) ≡ true
unfolding type_fits
struct_parts insts i e h =
    let fits : struct_fits insts (drop 2 i.words) ≡ true = rw e at h in
    free_members insts (drop 2 i.words) fits

pointer_part : (insts : List Instruction) (i : Instruction) → opcode i ≡ op.TYPE_POINTER → type_fits insts i ≡ true
    → is_free insts (slice_index i.words 3) ≡ true
unfolding type_fits
pointer_part insts i e h =
    let fits : pointer_fits insts (slice_index i.words 3) ≡ true = rw e at h in
    or_cases (is_data insts (slice_index i.words 3)) (is_runtime_array insts (slice_index i.words 3)) fits (λ b. free_data insts (slice_index i.words 3) b)
    (λ b. free_kind insts (slice_index i.words 3) op.TYPE_RUNTIME_ARRAY b refl)

free_parameter : (insts : List Instruction) (t : ℕ) → parameter_fits insts t ≡ true → is_free insts t ≡ true
free_parameter insts t h =
    or_cases (is_data insts t) _ h (λ b. free_data insts t b) (λ b. free_kind insts t op.TYPE_POINTER (and_parts (is_pointer insts t) _ b).0 refl)

pub function_result : (insts : List Instruction) (i : Instruction) → opcode i ≡ op.TYPE_FUNCTION → type_fits insts i ≡ true
    → is_free insts (slice_index i.words 2) ≡ true
unfolding type_fits
function_result insts i e h =
    let fits : function_fits insts (slice_index i.words 2) (drop 3 i.words) ≡ true = rw e at h in
    or_cases (is_void insts (slice_index i.words 2)) (is_data insts (slice_index i.words 2))
    (and_parts (is_void insts (slice_index i.words 2) || is_data insts (slice_index i.words 2)) (list_all (parameter_fits insts) (drop 3 i.words)) fits).0
    (λ b. free_kind insts (slice_index i.words 2) op.TYPE_VOID b refl) (λ b. free_data insts (slice_index i.words 2) b)

pub function_parameters : (insts : List Instruction) (i : Instruction) → opcode i ≡ op.TYPE_FUNCTION → type_fits insts i ≡ true
    → list_all (is_free insts) (drop 3 i.words) ≡ true
unfolding type_fits
function_parameters insts i e h =
    let fits : function_fits insts (slice_index i.words 2) (drop 3 i.words) ≡ true = rw e at h in
    all_weaker (parameter_fits insts) (is_free insts) (drop 3 i.words) (free_parameter insts)
    (and_parts (is_void insts (slice_index i.words 2) || is_data insts (slice_index i.words 2)) (list_all (parameter_fits insts) (drop 3 i.words)) fits).1

-- ---- what the instruction of a type needs

abbrev pub NeedsFree : List Instruction → Instruction → Type 0
NeedsFree insts i = list_all (is_free insts) (used_ids i) ≡ true

pub vector_needs : (insts : List Instruction) (i : Instruction) → IsInstruction i.words (roles i) → opcode i ≡ op.TYPE_VECTOR → type_fits insts i ≡ true
    → NeedsFree insts i
unfolding row_of
vector_needs insts i whole e h = used_by_row (is_free insts) i op.TYPE_VECTOR whole e refl
    (all_1 (is_free insts) (slice_index i.words 2) (vector_part insts i e h))

pub array_needs : (insts : List Instruction) (i : Instruction) → IsInstruction i.words (roles i) → opcode i ≡ op.TYPE_ARRAY → type_fits insts i ≡ true
    → NeedsFree insts i
unfolding row_of
array_needs insts i whole e h =
    used_by_row (is_free insts) i op.TYPE_ARRAY whole e refl
    (all_2 (is_free insts) (slice_index i.words 2) (slice_index i.words 3) (array_part insts i e h) (array_length insts i e h))

pub runtime_array_needs : (insts : List Instruction) (i : Instruction) → IsInstruction i.words (roles i) → opcode i ≡ op.TYPE_RUNTIME_ARRAY
    → type_fits insts i ≡ true
    → NeedsFree insts i
unfolding row_of
runtime_array_needs insts i whole e h =
    used_by_row (is_free insts) i op.TYPE_RUNTIME_ARRAY whole e refl (all_1 (is_free insts) (slice_index i.words 2) (runtime_array_part insts i e h))

pub struct_needs : (insts : List Instruction) (i : Instruction) → IsInstruction i.words (roles i) → opcode i ≡ op.TYPE_STRUCT → type_fits insts i ≡ true
    → NeedsFree insts i
unfolding row_of
struct_needs insts i whole e h = used_by_row (is_free insts) i op.TYPE_STRUCT whole e refl (struct_parts insts i e h)

pub pointer_needs : (insts : List Instruction) (i : Instruction) → IsInstruction i.words (roles i) → opcode i ≡ op.TYPE_POINTER → type_fits insts i ≡ true
    → NeedsFree insts i
unfolding row_of
pointer_needs insts i whole e h = used_by_row (is_free insts) i op.TYPE_POINTER whole e refl
    (all_1 (is_free insts) (slice_index i.words 3) (pointer_part insts i e h))

pub function_needs : (insts : List Instruction) (i : Instruction) → IsInstruction i.words (roles i) → opcode i ≡ op.TYPE_FUNCTION → type_fits insts i ≡ true
    → NeedsFree insts i
unfolding row_of
function_needs insts i whole e h =
    used_by_row (is_free insts) i op.TYPE_FUNCTION whole e refl
    (all_cons (is_free insts) (slice_index i.words 2) (drop 3 i.words) (function_result insts i e h) (function_parameters insts i e h))

-- ---- by the ids of types

loud : (o : ℕ) (i : Instruction) → opcode i ≡ o → (o == op.LINE || o == op.NO_LINE) ≡ false → is_line i ≡ false
loud o i e h = ap (λ n. n == op.LINE || n == op.NO_LINE) e ∙ h

fits_there : (insts : List Instruction) (id o : ℕ) → IsUnbroken insts → (d : Defined insts id o) → (o == op.LINE || o == op.NO_LINE) ≡ false
    → type_fits insts d.inst ≡ true
fits_there insts id o h d plain = (kept_at insts h d.place d.inst d.at (loud o d.inst d.is_o plain)).types

pub free_component : (insts : List Instruction) (t : ℕ) → IsUnbroken insts → is_vector insts t ≡ true → is_free insts (component insts t) ≡ true
free_component insts t h k =
    let d = defined insts t op.TYPE_VECTOR refl k in
    ap (is_free insts) (word_is insts t op.TYPE_VECTOR 2 d) ∙ vector_part insts d.inst d.is_o (fits_there insts t op.TYPE_VECTOR h d refl)

pub free_array_element : (insts : List Instruction) (t : ℕ) → IsUnbroken insts → is_array insts t ≡ true → is_free insts (element insts t) ≡ true
free_array_element insts t h k =
    let d = defined insts t op.TYPE_ARRAY refl k in
    ap (is_free insts) (word_is insts t op.TYPE_ARRAY 2 d) ∙ array_part insts d.inst d.is_o (fits_there insts t op.TYPE_ARRAY h d refl)

pub free_struct_members : (insts : List Instruction) (t : ℕ) → IsUnbroken insts → is_struct insts t ≡ true → list_all (is_free insts) (members insts t) ≡ true
free_struct_members insts t h k =
    let d = defined insts t op.TYPE_STRUCT refl k in
    ap (list_all (is_free insts)) (words_are insts t op.TYPE_STRUCT 2 d) ∙ struct_parts insts d.inst d.is_o (fits_there insts t op.TYPE_STRUCT h d refl)

pub free_return_type : (insts : List Instruction) (t : ℕ) → IsUnbroken insts → (kind insts t == op.TYPE_FUNCTION) ≡ true
    → is_free insts (word_of insts t 2) ≡ true
free_return_type insts t h k =
    let d = defined insts t op.TYPE_FUNCTION refl k in
    ap (is_free insts) (word_is insts t op.TYPE_FUNCTION 2 d) ∙ function_result insts d.inst d.is_o (fits_there insts t op.TYPE_FUNCTION h d refl)

pub free_parameter_types : (insts : List Instruction) (t : ℕ) → IsUnbroken insts → (kind insts t == op.TYPE_FUNCTION) ≡ true
    → list_all (is_free insts) (words_of insts t 3) ≡ true
free_parameter_types insts t h k =
    let d = defined insts t op.TYPE_FUNCTION refl k in
    ap (list_all (is_free insts)) (words_are insts t op.TYPE_FUNCTION 3 d) ∙ function_parameters insts d.inst d.is_o
    (fits_there insts t op.TYPE_FUNCTION h d refl)
