-- What entry points and their modes need.
use Rattle.std.proofs.Common.{◌≡◌, ℕ, zero, suc, Bool, true, false, cond, not, ◌==◌, ◌&&◌, ◌||◌, nat_eq, List, [], ◌∷◌, drop, ◌^◌, Option, Some, None, refl, sym, ap, subst, ◌∙◌, arith}
use Rattle.std.specs.List.{list_any, list_all, slice_index, slice_get}
use Rattle.std.proofs.lemmas.Bool.{and_parts, or_parts, not-true, not-false}
use Rattle.std.proofs.lemmas.Bool.Decides.{nat_tests}
use Rattle.spv_opcodes.specs.declared.op.TheConstants as op
use Rattle.spv_opcodes.specs.declared.execution_mode.TheConstants as execution_mode
use Rattle.spv_grammar.specs.declared.kind.Enumerant.TheVariants.{IdMode}
use Rattle.spv_grammar.specs.declared.kind.Kind.{Kind}
use Rattle.spv_grammar.specs.declared.kind.Kind.TheVariants.{Id, One}
use Rattle.spv_grammar.specs.declared.kind.Role.{Role}
use Rattle.spv_grammar.specs.declared.kind.Role.TheVariants.{Opcode, UsedId}
use Rattle.spv_grammar.specs.Enumerants.{is_known}
use Rattle.spv_grammar.specs.Operands.{mark, operand_roles}
use Rattle.spv_grammar.specs.Roles.{is_unknown}
use Rattle.spv_grammar.specs.Table.{row_of}
use Rattle.spv_grammar.specs.Text.{text_words}
use Rattle.spv_module.specs.Instruction.{Instruction, IsInstruction, opcode, roles, bound_rule, string_rule, enumerant_rule, part_rules, roles_rules, instruction_rules}
use Rattle.spv_module.proofs.Ids.{no_bad_part, second_nil}
use Rattle.spv_declarations.proofs.Parts.{one-front, row-words}
use Rattle.spv_module.specs.Layout.{is_entry_point}
use Rattle.spv_ids.specs.Ids.{kind}
use Rattle.spv_typing.specs.Kinds.{is_constant, is_one_of, is_outside, type_of}
use Rattle.spv_typing.specs.Operations.{shape, has_shape}
use Rattle.spv_entries.specs.Functions.{function_fits, may_be_entered}
use Rattle.spv_entries.specs.Sizes.{names, entry_function, literal_function, id_function, is_no_size, sizes_unfit, unfit_function, sizes_all, some_names, two_name, is_sized, is_mode, size_fits}
use Rattle.spv_label_uses.proofs.Begun.{any_second}
use Rattle.spv_label_uses.proofs.Covered.{used_by_row}
use Rattle.spv_label_uses.proofs.Free.{same_by, all_1, all_cons, all_weaker, is_free, free_kind, free_constant}
use Rattle.spv_label_uses.proofs.Fronts.{MayNeedFront, needs_front}
use Rattle.spv_label_uses.proofs.Groups.{AllOf}
use Rattle.spv_label_uses.proofs.Types.{NeedsFree}

-- no instruction breaks a rule on entry points
abbrev pub EntriesFit : List Instruction → Type 0
EntriesFit insts = (k : ℕ) (i : Instruction) → slice_get insts k ≡ Some i → (size_fits insts i ≡ true) × (function_fits insts i ≡ true)

-- an entry point names a function
pub function_named : (insts : List Instruction) (i : Instruction) → is_entry_point i ≡ true → function_fits insts i ≡ true
    → is_free insts (slice_index i.words 2) ≡ true
unfolding function_fits
function_named insts i e h =
    let fits : may_be_entered insts (slice_index i.words 2) ≡ true = rw e at h in
    free_kind insts (slice_index i.words 2) op.FUNCTION (and_parts (kind insts (slice_index i.words 2) == op.FUNCTION) _ fits).0 refl

-- ---- what some instruction of a list names

record Names (insts : List Instruction) (of : Instruction → Option ℕ) (id : ℕ) : Type 0 where
  place : ℕ
  inst : Instruction
  at : slice_get insts place ≡ Some inst
  it : names (of inst) id ≡ true

-- induction on the instructions
one_names : (of : Instruction → Option ℕ) (insts : List Instruction) (id : ℕ) → some_names of insts id ≡ true → Names insts of id
one_names of [] id h = absurd (cc h)
one_names of (i ∷ is) id h = by (names (of i) id) refl h (λ k. one_names of is id k) where
  by : (b : Bool) → names (of i) id ≡ b → (b || some_names of is id) ≡ true → (some_names of is id ≡ true → Names is of id) → Names (i ∷ is) of id
  by true e h more = record { place = 0; inst = i; at = refl; it = e }
  by false e h more = let n = more h in record { place = suc n.place; inst = n.inst; at = n.at; it = n.it }

none_names : (of : Instruction → Option ℕ) (insts : List Instruction) (id k : ℕ) (i : Instruction) → some_names of insts id ≡ false
    → slice_get insts k ≡ Some i
    → names (of i) id ≡ false
none_names of [] id k i h at = absurd (cc at)
none_names of (x ∷ xs) id zero i h at =
    let same : x ≡ i = cc at in
    ap (λ (x : Instruction). names (of x) id) (sym same) ∙ (or_parts (names (of x) id) (some_names of xs id) h).0
none_names of (x ∷ xs) id (suc k) i h at = none_names of xs id k i (or_parts (names (of x) id) (some_names of xs id) h).1 at

-- what an instruction names as the function of an entry point
entry_named : (i : Instruction) (id : ℕ) → names (entry_function i) id ≡ true → (is_entry_point i ≡ true) × (slice_index i.words 2 ≡ id)
entry_named i id h = by (is_entry_point i) refl h where
  by : (b : Bool) → is_entry_point i ≡ b → names (cond b (Some (slice_index i.words 2)) None) id ≡ true
      → (is_entry_point i ≡ true) × (slice_index i.words 2 ≡ id)
  by true e h = (e, sym (same_by id (slice_index i.words 2) h))
  by false e h = absurd (cc h)

-- ---- modes

-- the function of a mode is one of an entry point, which is sized
record Mode (insts : List Instruction) (f : ℕ) : Type 0 where
  function : is_free insts f ≡ true
  sized : is_sized insts f ≡ true

mode_of : (insts : List Instruction) → EntriesFit insts → (i : Instruction) → is_entry_point i ≡ false → is_mode i ≡ true → size_fits insts i ≡ true
    → Mode insts (slice_index i.words 1)
unfolding size_fits
mode_of insts all i e m h =
    let named : some_names entry_function insts (slice_index i.words 1) ≡ true = rw (e, m) at h in
    let n = one_names entry_function insts (slice_index i.words 1) named in
    let entry = entry_named n.inst (slice_index i.words 1) n.it in
    let fits = all n.place n.inst n.at in
    let sized : is_sized insts (slice_index n.inst.words 2) ≡ true = rw (entry.0) at fits.0 in
    record {
      function = subst (λ f. is_free insts f ≡ true) entry.1 (function_named insts n.inst entry.0 fits.1);
      sized = subst (λ f. is_sized insts f ≡ true) entry.1 sized;
    }

pub literal_mode_needs : (insts : List Instruction) → EntriesFit insts → (i : Instruction) → IsInstruction i.words (roles i) → opcode i ≡ op.EXECUTION_MODE
    → size_fits insts i ≡ true
    → NeedsFree insts i
unfolding row_of
literal_mode_needs insts all i whole e h =
    let m = mode_of insts all i (ap (λ o. o == op.ENTRY_POINT) e) (ap (λ o. o == op.EXECUTION_MODE || o == op.EXECUTION_MODE_ID) e) h in
    used_by_row (is_free insts) i op.EXECUTION_MODE whole e refl (all_1 (is_free insts) (slice_index i.words 1) m.function)

-- ---- modes by ids

known_mark : (b : Bool) (others : List Role) → list_any is_unknown (mark b ∷ others) ≡ false → b ≡ true
known_mark true others h = refl
known_mark false others h = absurd (cc h)

part_marks : (strings : List ℕ) (bound : ℕ) (rs : List Role) (words : List ℕ) → part_rules strings bound rs words ≡ [] → list_any is_unknown rs ≡ false
part_marks [] bound rs words h = no_bad_part (list_any is_unknown rs) 109 (second_nil (bound_rule bound rs words) (enumerant_rule rs) h)
part_marks (rule ∷ rules) bound rs words h = absurd (cc h)

-- an instruction has no enumerant that is unknown
marks_known : (words : List ℕ) (rs : List Role) → IsInstruction words rs → list_any is_unknown rs ≡ false
unfolding instruction_rules
marks_known words rs whole =
    part_marks (string_rule rs) (2 ^ 32) rs words (sym (ap (roles_rules (2 ^ 32) words) whole.parted) ∙ whole.unbroken)

abbrev id_mode_kinds : List Kind
id_mode_kinds = Id ∷ Id ∷ Id ∷ []

mode_row : row_of op.EXECUTION_MODE_ID ≡ Some (record { section = 5; kinds = Id ∷ One IdMode ∷ id_mode_kinds })
unfolding row_of
mode_row = refl

-- so the mode is LocalSizeId
local_size_id : (i : Instruction) → IsInstruction i.words (roles i) → opcode i ≡ op.EXECUTION_MODE_ID
    → (slice_index i.words 2 == execution_mode.LOCAL_SIZE_ID) ≡ true
local_size_id i whole e =
    let r = row-words op.EXECUTION_MODE_ID (record { section = 5; kinds = Id ∷ One IdMode ∷ id_mode_kinds }) i.words (roles i) mode_row refl e whole.parted in
    let f = one-front UsedId (One IdMode ∷ id_mode_kinds) r.rest r.others r.fit in
    by f.rest f.others f.fit (r.words_are ∙ ap (λ (ws : List ℕ). r.word ∷ ws) f.words_are)
    (sym (ap (list_any is_unknown) (r.parts_are ∙ ap (λ (rs : List Role). Opcode ∷ rs) f.parts_are)) ∙ marks_known i.words (roles i) whole)
  where
    by : {a b : ℕ} (ws : List ℕ) (rs : List Role) → operand_roles (One IdMode ∷ id_mode_kinds) ws ≡ Some rs → i.words ≡ a ∷ b ∷ ws
        → list_any is_unknown (Opcode ∷ UsedId ∷ rs) ≡ false → (slice_index i.words 2 == execution_mode.LOCAL_SIZE_ID) ≡ true
    by [] rs fit words known = absurd (cc fit)
    by (w ∷ ws) rs fit words known =
        let g = one-front (mark (is_known IdMode w)) id_mode_kinds (w ∷ ws) rs fit in
        ap (λ (words : List ℕ). slice_index words 2 == execution_mode.LOCAL_SIZE_ID) words
        ∙ known_mark (w == execution_mode.LOCAL_SIZE_ID) g.others
        (sym (ap (λ (rs : List Role). list_any is_unknown (Opcode ∷ UsedId ∷ rs)) g.parts_are) ∙ known)

-- the sizes of a mode whose function is sized fit
unfit_cases : (unfit : Bool) (w : ℕ) → names (cond (unfit && true) (Some w) None) w ≡ false → unfit ≡ false
unfit_cases true w h = absurd (wrong (nat_eq w w) (same w) h) where
  same : (w : ℕ) → nat_eq w w ≡ true
  same w = grind (arith, nat_tests)

  wrong : (b : Bool) → b ≡ true → b ≡ false → ⊥
  wrong true h k = cc
  wrong false h k = cc
unfit_cases false w h = refl

sizes_are : (insts : List Instruction) (ids : List ℕ) → list_any (is_no_size insts) ids ≡ false → list_all (is_free insts) ids ≡ true
sizes_are insts [] h = refl
sizes_are insts (id ∷ ids) h =
    let parts = or_parts (is_no_size insts id) (list_any (is_no_size insts) ids) h in
    let fits = and_parts (is_constant insts id) (has_shape false 1 (shape insts (type_of insts id)))
    (not-false (is_constant insts id && has_shape false 1 (shape insts (type_of insts id))) parts.0) in
    all_cons (is_free insts) id ids (free_constant insts id fits.0) (sizes_are insts ids parts.1)

self_named : (w : ℕ) → nat_eq w w ≡ true
self_named w = grind (arith, nat_tests)

mode_sizes : (insts : List Instruction) (k : ℕ) (i : Instruction) → slice_get insts k ≡ Some i → IsInstruction i.words (roles i)
    → opcode i ≡ op.EXECUTION_MODE_ID
    → is_sized insts (slice_index i.words 1) ≡ true → list_all (is_free insts) (drop 3 i.words) ≡ true
mode_sizes insts k i at whole e sized =
    let f : ℕ = slice_index i.words 1 in
    let some : Bool = some_names literal_function insts f || (some_names id_function insts f || list_any (sizes_all insts) insts) in
    let once : Bool = not (two_name id_function insts f) && not (some_names (unfit_function insts) insts f) in
    let both = and_parts some (not (two_name literal_function insts f) && once) sized in
    let onces = and_parts (not (two_name literal_function insts f)) once both.1 in
    let fits = and_parts (not (two_name id_function insts f)) (not (some_names (unfit_function insts) insts f)) onces.1 in
    let none = none_names (unfit_function insts) insts f k i (not-true (some_names (unfit_function insts) insts f) fits.1) at in
    let is_mode_id : id_function i ≡ Some f =
    ap (λ b. cond (b && slice_index i.words 2 == execution_mode.LOCAL_SIZE_ID) (Some f) None) (ap (λ o. o == op.EXECUTION_MODE_ID) e)
    ∙ ap (λ b. cond b (Some f) None) (local_size_id i whole e) in
    let named : (names (literal_function i) f || names (id_function i) f) ≡ true =
    any_second (names (literal_function i) f) (names (id_function i) f) (ap (λ (o : Option ℕ). names o f) is_mode_id ∙ self_named f) in
    let unfit : sizes_unfit insts i ≡ false =
    unfit_cases (sizes_unfit insts i) f (sym (ap (λ b. names (cond (sizes_unfit insts i && b) (Some f) None) f) named) ∙ none) in
    sizes_are insts (drop 3 i.words) (sym (ap (λ o. cond (o == op.EXECUTION_MODE) (list_any (nat_eq 0) (drop 3 i.words))
    (list_any (is_no_size insts) (drop 3 i.words))) e) ∙ unfit)

abbrev mode_uses : List ℕ → List ℕ
mode_uses words = slice_index words 1 ∷ drop 3 words

id_mode_rows : AllOf (MayNeedFront 2 mode_uses) (op.EXECUTION_MODE_ID ∷ [])
unfolding row_of
id_mode_rows = (λ ws. refl, tt)

pub id_mode_needs : (insts : List Instruction) → EntriesFit insts → (k : ℕ) (i : Instruction) → slice_get insts k ≡ Some i → IsInstruction i.words (roles i)
    → opcode i ≡ op.EXECUTION_MODE_ID → size_fits insts i ≡ true → NeedsFree insts i
id_mode_needs insts all k i at whole e h =
    let m = mode_of insts all i (ap (λ o. o == op.ENTRY_POINT) e) (ap (λ o. o == op.EXECUTION_MODE || o == op.EXECUTION_MODE_ID) e) h in
    needs_front (is_free insts) (op.EXECUTION_MODE_ID ∷ []) 2 mode_uses id_mode_rows refl i whole (ap (is_one_of (op.EXECUTION_MODE_ID ∷ [])) e)
    (all_cons (is_free insts) (slice_index i.words 1) (drop 3 i.words) m.function (mode_sizes insts k i at whole e m.sized))

-- ---- interfaces

-- an entry point's interface is of global variables
pub entry_needs : (insts : List Instruction) (i : Instruction) → IsInstruction i.words (roles i) → opcode i ≡ op.ENTRY_POINT → function_fits insts i ≡ true
    → list_all (λ id. kind insts id == op.VARIABLE && is_outside insts id) (drop (text_words (drop 3 i.words)) (drop 3 i.words)) ≡ true → NeedsFree insts i
unfolding row_of
entry_needs insts i whole e h k =
    let ids : List ℕ = drop (text_words (drop 3 i.words)) (drop 3 i.words) in
    used_by_row (is_free insts) i op.ENTRY_POINT whole e refl
    (all_cons (is_free insts) (slice_index i.words 2) ids (function_named insts i (ap (λ o. o == op.ENTRY_POINT) e) h)
    (all_weaker (λ id. kind insts id == op.VARIABLE && is_outside insts id) (is_free insts) ids
    (λ id v. free_kind insts id op.VARIABLE (and_parts (kind insts id == op.VARIABLE) (is_outside insts id) v).0 refl) k))
