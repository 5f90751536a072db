-- What functions, their parameters, calls and returns need.
use Rattle.std.proofs.Common.{◌≡◌, ℕ, zero, suc, Bool, true, false, cond, not, ◌==◌, ◌&&◌, ◌||◌, nat_eq, List, [], ◌∷◌, length, drop, take, Option, Some, None, refl, sym, ap, ◌∙◌}
use Rattle.std.specs.List.{fold, list_all, slice_get, slice_index, zip}
use Rattle.std.specs.Option.{option_map_or}
use Rattle.std.proofs.lemmas.Bool.{and_parts}
use Rattle.spv_opcodes.specs.declared.op.TheConstants as op
use Rattle.spv_grammar.specs.Table.{row_of}
use Rattle.spv_module.specs.Code.{is_function}
use Rattle.spv_module.specs.Instruction.{Instruction, IsInstruction, opcode, roles}
use Rattle.spv_ids.specs.Ids.{kind}
use Rattle.spv_typing.specs.Kinds.{is_pointer, is_void, type_of}
use Rattle.spv_values.specs.Values.{is_value_of}
use Rattle.spv_signatures.specs.declared.parameters.Parameter.{Parameter}
use Rattle.spv_signatures.specs.Functions.{is_function_type, parameter_types, parameters_of, return_type, names_function, function_fits}
use Rattle.spv_signatures.specs.Contexts.{latest, function_of, types_in, parameters_before, next_type_at, result_fits, return_fits}
use Rattle.spv_signatures.specs.Calls.{pointer_fits, argument_fits, arguments_fit, call_fits}
use Rattle.spv_declarations.specs.Laws.{IsUnbroken}
use Rattle.spv_label_uses.proofs.Covered.{used_by_row}
use Rattle.spv_label_uses.proofs.Declared.{defined, word_is}
use Rattle.spv_label_uses.proofs.Free.{same_by, all_1, all_2, all_cons, is_free, free_kind, free_value_of}
use Rattle.spv_label_uses.proofs.Parts.{got, same_count}
use Rattle.spv_label_uses.proofs.Types.{NeedsFree, free_return_type, free_parameter_types}

-- ---- functions

-- each OpFunction fits
abbrev pub FunctionsFit : List Instruction → Type 0
FunctionsFit insts =
    (k : ℕ) (i : Instruction) → slice_get insts k ≡ Some i → opcode i ≡ op.FUNCTION → (function_fits insts i ≡ true) ×
    (result_fits insts (next_type_at insts k) i ≡ true)

-- its type is a function type
function_type : (insts : List Instruction) (i : Instruction) → opcode i ≡ op.FUNCTION → function_fits insts i ≡ true
    → (kind insts (slice_index i.words 4) == op.TYPE_FUNCTION) ≡ true
unfolding function_fits
function_type insts i e h =
    let count : Bool = length (parameter_types insts (slice_index i.words 4)) == length (parameters_of insts (slice_index i.words 2)) in
    let fits : (is_function_type insts (slice_index i.words 4) && length (parameter_types insts (slice_index i.words 4)) == length
    (parameters_of insts (slice_index i.words 2))) ≡ true = rw e at h in
    (and_parts (is_function_type insts (slice_index i.words 4)) count fits).0

-- and its result type is the one that this returns
result_type_free : (insts : List Instruction) → IsUnbroken insts → (next : Option ℕ) (i : Instruction) → opcode i ≡ op.FUNCTION → function_fits insts i ≡ true
    → result_fits insts next i ≡ true → is_free insts (slice_index i.words 1) ≡ true
unfolding result_fits
result_type_free insts unbroken next i e h k =
    let t : ℕ = slice_index i.words 4 in
    let same : (return_type insts (slice_index i.words 4) == slice_index i.words 1) ≡ true = rw e at k in
    ap (is_free insts) (sym (same_by (return_type insts t) (slice_index i.words 1) same)) ∙ free_return_type insts t unbroken (function_type insts i e h)

pub function_needs : (insts : List Instruction) → IsUnbroken insts → (next : Option ℕ) (i : Instruction) → IsInstruction i.words (roles i)
    → opcode i ≡ op.FUNCTION
    → function_fits insts i ≡ true → result_fits insts next i ≡ true → NeedsFree insts i
unfolding row_of
function_needs insts unbroken next i whole e h k =
    used_by_row (is_free insts) i op.FUNCTION whole e refl
    (all_2 (is_free insts) (slice_index i.words 1) (slice_index i.words 4) (result_type_free insts unbroken next i e h k)
    (free_kind insts (slice_index i.words 4) op.TYPE_FUNCTION (function_type insts i e h) refl))

-- ---- parameters

-- the function that instructions stand in is one of them
abbrev IsOne : List Instruction → Option Instruction → Type 0
IsOne insts None = Unit {0}
IsOne insts (Some f) = (j : ℕ) × (slice_get insts j ≡ Some f) × (opcode f ≡ op.FUNCTION)

taken_at : (insts : List Instruction) (k j : ℕ) (i : Instruction) → slice_get (take k insts) j ≡ Some i → slice_get insts j ≡ Some i
taken_at [] zero j i h = h
taken_at [] (suc k) j i h = h
taken_at (x ∷ xs) zero j i h = absurd (cc h)
taken_at (x ∷ xs) (suc k) zero i h = h
taken_at (x ∷ xs) (suc k) (suc j) i h = taken_at xs k j i h

-- induction on the instructions
latest_is : (insts is : List Instruction) (before : Option Instruction) → IsOne insts before
    → ((j : ℕ) (i : Instruction) → slice_get is j ≡ Some i → (place : ℕ) × (slice_get insts place ≡ Some i)) → IsOne insts (fold latest before is)
latest_is insts [] before h each = h
latest_is insts (i ∷ is) before h each = latest_is insts is (latest before i) (by (is_function i) refl) (λ j x at. each (suc j) x at) where
  by : (b : Bool) → is_function i ≡ b → IsOne insts (cond b (Some i) before)
  by true e = let there = each 0 i refl in (there.0, there.1, same_by (opcode i) op.FUNCTION e)
  by false e = h

function_is : (insts : List Instruction) (k : ℕ) → IsOne insts (function_of insts k)
function_is insts k = latest_is insts (take k insts) None tt (λ j i at. (j, taken_at insts k j i at))

next_free : (insts : List Instruction) → IsUnbroken insts → FunctionsFit insts → (k t : ℕ) → option_map_or (nat_eq t) (next_type_at insts k) false ≡ true
    → is_free insts t ≡ true
next_free insts unbroken fit k t h = by (function_of insts k) (function_is insts k) h where
  named : (types : List ℕ) → list_all (is_free insts) types ≡ true → (next : Option ℕ) → slice_get types (parameters_before insts k) ≡ next
      → option_map_or (nat_eq t) next false ≡ true → is_free insts t ≡ true
  named types free None e h = absurd (cc h)
  named types free (Some u) e h = ap (is_free insts) (same_by t u h) ∙ got (is_free insts) types (parameters_before insts k) u free e

  by : (f : Option Instruction) → IsOne insts f → option_map_or (nat_eq t) (slice_get (types_in insts f) (parameters_before insts k)) false ≡ true
      → is_free insts t ≡ true
  by None one h = absurd (cc h)
  by (Some f) one h =
      let fits = fit one.0 f one.1 one.2 in
      let types : List ℕ = parameter_types insts (slice_index f.words 4) in
      named types (free_parameter_types insts (slice_index f.words 4) unbroken (function_type insts f one.2 fits.0))
      (slice_get types (parameters_before insts k)) refl h

pub parameter_needs : (insts : List Instruction) → IsUnbroken insts → FunctionsFit insts → (k : ℕ) (i : Instruction) → IsInstruction i.words (roles i)
    → opcode i ≡ op.FUNCTION_PARAMETER → result_fits insts (next_type_at insts k) i ≡ true → NeedsFree insts i
unfolding row_of result_fits
parameter_needs insts unbroken fit k i whole e h =
    let next : option_map_or (nat_eq (slice_index i.words 1)) (next_type_at insts k) false ≡ true = rw e at h in
    used_by_row (is_free insts) i op.FUNCTION_PARAMETER whole e refl
    (all_1 (is_free insts) (slice_index i.words 1) (next_free insts unbroken fit k (slice_index i.words 1) next))

-- ---- calls

argument_free : (insts : List Instruction) (p : Parameter) (a : ℕ) → argument_fits insts p a ≡ true → is_free insts a ≡ true
unfolding argument_fits
argument_free insts p a h = free_value_of insts p.ty a (and_parts (is_value_of insts p.ty a) (not (is_pointer insts p.ty) || pointer_fits insts p.id a) h).0

-- as many arguments as parameters; induction on both
arguments_free : (insts : List Instruction) (ps : List Parameter) (ids : List ℕ) → (length ps == length ids) ≡ true
    → list_all (λ pair. argument_fits insts pair.0 pair.1) (zip ps ids) ≡ true → list_all (is_free insts) ids ≡ true
arguments_free insts ps [] n h = refl
arguments_free insts [] (id ∷ ids) n h = absurd (cc (same_by 0 (suc (length ids)) n))
arguments_free insts (p ∷ ps) (id ∷ ids) n h =
    let both = and_parts (argument_fits insts p id) (list_all (λ pair. argument_fits insts pair.0 pair.1) (zip ps ids)) h in
    all_cons (is_free insts) id ids (argument_free insts p id both.0) (arguments_free insts ps ids (same_count (length ps) (length ids) n) both.1)

pub call_needs : (insts : List Instruction) → IsUnbroken insts → FunctionsFit insts → (next : Option ℕ) (i : Instruction) → IsInstruction i.words (roles i)
    → opcode i ≡ op.FUNCTION_CALL → call_fits insts i ≡ true → result_fits insts next i ≡ true → NeedsFree insts i
unfolding row_of call_fits result_fits
call_needs insts unbroken fit next i whole e h k =
    let f : ℕ = slice_index i.words 3 in
    let ids : List ℕ = drop 4 i.words in
    let fits : (names_function insts (slice_index i.words 3) && arguments_fit insts (parameters_of insts (slice_index i.words 3))
    (drop 4 i.words)) ≡ true = rw e at h in
    let both = and_parts (names_function insts f) (arguments_fit insts (parameters_of insts f) ids) fits in
    let counts = and_parts (length (parameters_of insts f) == length ids)
    (list_all (λ pair. argument_fits insts pair.0 pair.1) (zip (parameters_of insts f) ids)) both.1 in
    let gives : (not (names_function insts (slice_index i.words 3)) || type_of insts (slice_index i.words 3) == slice_index i.words 1) ≡ true = rw e at k in
    let same : (type_of insts f == slice_index i.words 1) ≡ true = sym (ap (λ b. not b || type_of insts f == slice_index i.words 1) both.0) ∙ gives in
    let d = defined insts f op.FUNCTION refl both.0 in
    let its = fit d.place d.inst d.at d.is_o in
    let type : is_free insts (slice_index i.words 1) ≡ true =
    ap (is_free insts) (sym (same_by (type_of insts f) (slice_index i.words 1) same) ∙ word_is insts f op.FUNCTION 1 d)
    ∙ result_type_free insts unbroken (next_type_at insts d.place) d.inst d.is_o its.0 its.1 in
    used_by_row (is_free insts) i op.FUNCTION_CALL whole e refl
    (all_cons (is_free insts) (slice_index i.words 1) (f ∷ ids) type
    (all_cons (is_free insts) f ids (free_kind insts f op.FUNCTION both.0 refl) (arguments_free insts (parameters_of insts f) ids counts.0 counts.1)))

-- ---- returns

pub return_needs : (insts : List Instruction) (t : ℕ) (i : Instruction) → IsInstruction i.words (roles i) → opcode i ≡ op.RETURN_VALUE
    → return_fits insts t i ≡ true
    → NeedsFree insts i
unfolding row_of return_fits
return_needs insts t i whole e h =
    let fits : (not (is_void insts t) && is_value_of insts t (slice_index i.words 1)) ≡ true = rw e at h in
    used_by_row (is_free insts) i op.RETURN_VALUE whole e refl
    (all_1 (is_free insts) (slice_index i.words 1) (free_value_of insts t (slice_index i.words 1)
    (and_parts (not (is_void insts t)) (is_value_of insts t (slice_index i.words 1)) fits).1))
