-- The types that functions, their parameters and OpPhi name, by the rules on types and signatures.
use Rattle.std.proofs.Common.{◌≡◌, ℕ, zero, suc, Bool, true, false, cond, not, ◌==◌, ◌&&◌, ◌||◌, nat_eq, List, [], ◌∷◌, drop, take, length, Option, Some, None, refl, sym, ap, ◌∙◌}
use Rattle.std.specs.List.{fold, list_all, slice_get, slice_index}
use Rattle.std.specs.Option.{option_map_or}
use Rattle.std.proofs.lemmas.Bool.{and_parts}
use Rattle.spv_opcodes.specs.declared.op.TheConstants as op
use Rattle.spv_grammar.specs.Table.{row_of}
use Rattle.spv_module.specs.Code.{is_function}
use Rattle.spv_module.specs.Instruction.{Instruction, IsInstruction, opcode, roles}
use Rattle.spv_ids.specs.Ids.{kind, used_ids, word_of, words_of}
use Rattle.spv_typing.specs.Kinds.{is_closed, is_data, is_pointer, is_void, ends_open}
use Rattle.spv_typing.specs.Types.{type_fits, parameter_fits}
use Rattle.spv_typing.specs.Types as typing
use Rattle.spv_composites.specs.Composites.{composite_result_fits}
use Rattle.spv_signatures.specs.Functions.{is_function_type, parameter_types, parameters_of, return_type, function_fits}
use Rattle.spv_signatures.specs.Contexts.{latest, function_of, types_in, parameters_before, next_type_at, result_fits}
use Rattle.spv_declarations.specs.Laws.{IsUnbroken}
use Rattle.spv_label_uses.proofs.Covered.{used_by_row}
use Rattle.spv_label_uses.proofs.Declared.{Defined, defined, kept_at, word_is, words_are}
use Rattle.spv_label_uses.proofs.Free.{or_cases, same_by, all_1, all_2, all_weaker}
use Rattle.spv_label_uses.proofs.Signatures.{FunctionsFit}
use Rattle.spv_norm_available.proofs.TypesOutside.{is_type, of_data, of_kind}

-- ---- by the rule on types

result_of_type : (insts : List Instruction) (i : Instruction) → opcode i ≡ op.TYPE_FUNCTION → type_fits insts i ≡ true
    → is_type insts (slice_index i.words 2) ≡ true
unfolding type_fits
result_of_type insts i e h =
    let fits : typing.function_fits insts (slice_index i.words 2) (drop 3 i.words) ≡ true = rw e at h in
    or_cases (is_void insts (slice_index i.words 2)) (is_data insts (slice_index i.words 2))
    (and_parts (is_void insts (slice_index i.words 2) || is_data insts (slice_index i.words 2)) (list_all (parameter_fits insts) (drop 3 i.words)) fits).0
    (λ b. of_kind insts (slice_index i.words 2) op.TYPE_VOID b refl) (λ b. of_data insts (slice_index i.words 2) b)

parameter_is_type : (insts : List Instruction) (t : ℕ) → parameter_fits insts t ≡ true → is_type insts t ≡ true
parameter_is_type insts t h =
    or_cases (is_data insts t) _ h (λ b. of_data insts t b) (λ b. of_kind insts t op.TYPE_POINTER (and_parts (is_pointer insts t) _ b).0 refl)

parameters_of_type : (insts : List Instruction) (i : Instruction) → opcode i ≡ op.TYPE_FUNCTION → type_fits insts i ≡ true
    → list_all (is_type insts) (drop 3 i.words) ≡ true
unfolding type_fits
parameters_of_type insts i e h =
    let fits : typing.function_fits insts (slice_index i.words 2) (drop 3 i.words) ≡ true = rw e at h in
    all_weaker (parameter_fits insts) (is_type insts) (drop 3 i.words) (parameter_is_type insts)
    (and_parts (is_void insts (slice_index i.words 2) || is_data insts (slice_index i.words 2)) (list_all (parameter_fits insts) (drop 3 i.words)) fits).1

-- what defines a function type keeps to it
fits_there : (insts : List Instruction) (id : ℕ) → IsUnbroken insts → (d : Defined insts id op.TYPE_FUNCTION) → type_fits insts d.inst ≡ true
fits_there insts id h d = (kept_at insts h d.place d.inst d.at (ap (λ o. o == op.LINE || o == op.NO_LINE) d.is_o)).types

return_is_type : (insts : List Instruction) (t : ℕ) → IsUnbroken insts → (kind insts t == op.TYPE_FUNCTION) ≡ true → is_type insts (word_of insts t 2) ≡ true
return_is_type insts t h k =
    let d = defined insts t op.TYPE_FUNCTION refl k in
    ap (is_type insts) (word_is insts t op.TYPE_FUNCTION 2 d) ∙ result_of_type insts d.inst d.is_o (fits_there insts t h d)

parameters_are_types : (insts : List Instruction) (t : ℕ) → IsUnbroken insts → (kind insts t == op.TYPE_FUNCTION) ≡ true
    → list_all (is_type insts) (words_of insts t 3) ≡ true
parameters_are_types insts t h k =
    let d = defined insts t op.TYPE_FUNCTION refl k in
    ap (list_all (is_type insts)) (words_are insts t op.TYPE_FUNCTION 3 d) ∙ parameters_of_type insts d.inst d.is_o (fits_there insts t h d)

-- ---- functions

function_type : (insts : List Instruction) (i : Instruction) → opcode i ≡ op.FUNCTION → function_fits insts i ≡ true
    → (kind insts (slice_index i.words 4) == op.TYPE_FUNCTION) ≡ true
unfolding function_fits
function_type insts i e h =
    let count : Bool = length (parameter_types insts (slice_index i.words 4)) == length (parameters_of insts (slice_index i.words 2)) in
    let fits : (is_function_type insts (slice_index i.words 4)
    && length (parameter_types insts (slice_index i.words 4)) == length (parameters_of insts (slice_index i.words 2))) ≡ true = rw e at h in
    (and_parts (is_function_type insts (slice_index i.words 4)) count fits).0

result_is_type : (insts : List Instruction) → IsUnbroken insts → (next : Option ℕ) (i : Instruction) → opcode i ≡ op.FUNCTION → function_fits insts i ≡ true
    → result_fits insts next i ≡ true → is_type insts (slice_index i.words 1) ≡ true
unfolding result_fits
result_is_type insts unbroken next i e h k =
    let t : ℕ = slice_index i.words 4 in
    let same : (return_type insts (slice_index i.words 4) == slice_index i.words 1) ≡ true = rw e at k in
    ap (is_type insts) (sym (same_by (return_type insts t) (slice_index i.words 1) same)) ∙ return_is_type insts t unbroken (function_type insts i e h)

-- OpFunction names its result type and its function type
pub function_names_types : (insts : List Instruction) → IsUnbroken insts → (next : Option ℕ) (i : Instruction) → IsInstruction i.words (roles i)
    → opcode i ≡ op.FUNCTION → function_fits insts i ≡ true → result_fits insts next i ≡ true → list_all (is_type insts) (used_ids i) ≡ true
unfolding row_of
function_names_types insts unbroken next i whole e h k =
    used_by_row (is_type insts) i op.FUNCTION whole e refl
    (all_2 (is_type insts) (slice_index i.words 1) (slice_index i.words 4) (result_is_type insts unbroken next i e h k)
    (of_kind insts (slice_index i.words 4) op.TYPE_FUNCTION (function_type insts i e h) refl))

-- ---- parameters

-- the function that instructions stand in is one of them
abbrev IsOne : List Instruction → Option Instruction → Type 0
IsOne insts None = Unit {0}
IsOne insts (Some f) = (j : ℕ) × (slice_get insts j ≡ Some f) × (opcode f ≡ op.FUNCTION)

taken_at : (insts : List Instruction) (k j : ℕ) (i : Instruction) → slice_get (take k insts) j ≡ Some i → slice_get insts j ≡ Some i
taken_at [] zero j i h = h
taken_at [] (suc k) j i h = h
taken_at (x ∷ xs) zero j i h = absurd (cc h)
taken_at (x ∷ xs) (suc k) zero i h = h
taken_at (x ∷ xs) (suc k) (suc j) i h = taken_at xs k j i h

-- induction on the instructions
latest_is : (insts is : List Instruction) (before : Option Instruction) → IsOne insts before
    → ((j : ℕ) (i : Instruction) → slice_get is j ≡ Some i → (place : ℕ) × (slice_get insts place ≡ Some i)) → IsOne insts (fold latest before is)
latest_is insts [] before h each = h
latest_is insts (i ∷ is) before h each = latest_is insts is (latest before i) (by (is_function i) refl) (λ j x at. each (suc j) x at) where
  by : (b : Bool) → is_function i ≡ b → IsOne insts (cond b (Some i) before)
  by true e = let there = each 0 i refl in (there.0, there.1, same_by (opcode i) op.FUNCTION e)
  by false e = h

function_is : (insts : List Instruction) (k : ℕ) → IsOne insts (function_of insts k)
function_is insts k = latest_is insts (take k insts) None tt (λ j i at. (j, taken_at insts k j i at))

got : (p : ℕ → Bool) (xs : List ℕ) (k x : ℕ) → list_all p xs ≡ true → slice_get xs k ≡ Some x → p x ≡ true
got p [] k x h e = absurd (cc e)
got p (y ∷ ys) zero x h e =
    let same : y ≡ x = cc e in
    ap p (sym same) ∙ (and_parts (p y) (list_all p ys) h).0
got p (y ∷ ys) (suc k) x h e = got p ys k x (and_parts (p y) (list_all p ys) h).1 e

next_is_type : (insts : List Instruction) → IsUnbroken insts → FunctionsFit insts → (k t : ℕ) → option_map_or (nat_eq t) (next_type_at insts k) false ≡ true
    → is_type insts t ≡ true
next_is_type insts unbroken fit k t h = by (function_of insts k) (function_is insts k) h where
  named : (among : List ℕ) → list_all (is_type insts) among ≡ true → (next : Option ℕ) → slice_get among (parameters_before insts k) ≡ next
      → option_map_or (nat_eq t) next false ≡ true → is_type insts t ≡ true
  named among all None e h = absurd (cc h)
  named among all (Some u) e h = ap (is_type insts) (same_by t u h) ∙ got (is_type insts) among (parameters_before insts k) u all e

  by : (f : Option Instruction) → IsOne insts f → option_map_or (nat_eq t) (slice_get (types_in insts f) (parameters_before insts k)) false ≡ true
      → is_type insts t ≡ true
  by None one h = absurd (cc h)
  by (Some f) one h =
      let fits = fit one.0 f one.1 one.2 in
      let among : List ℕ = parameter_types insts (slice_index f.words 4) in
      named among (parameters_are_types insts (slice_index f.words 4) unbroken (function_type insts f one.2 fits.0))
      (slice_get among (parameters_before insts k)) refl h

-- OpFunctionParameter names its type
pub parameter_names_types : (insts : List Instruction) → IsUnbroken insts → FunctionsFit insts → (k : ℕ) (i : Instruction) → IsInstruction i.words (roles i)
    → opcode i ≡ op.FUNCTION_PARAMETER → result_fits insts (next_type_at insts k) i ≡ true → list_all (is_type insts) (used_ids i) ≡ true
unfolding row_of result_fits
parameter_names_types insts unbroken fit k i whole e h =
    let next : option_map_or (nat_eq (slice_index i.words 1)) (next_type_at insts k) false ≡ true = rw e at h in
    used_by_row (is_type insts) i op.FUNCTION_PARAMETER whole e refl
    (all_1 (is_type insts) (slice_index i.words 1) (next_is_type insts unbroken fit k (slice_index i.words 1) next))

-- ---- OpPhi

pub phi_names_types : (insts : List Instruction) (i : Instruction) → opcode i ≡ op.PHI → composite_result_fits insts i ≡ true
    → list_all (is_type insts) (slice_index i.words 1 ∷ []) ≡ true
unfolding composite_result_fits
phi_names_types insts i e h =
    let closed : is_closed insts (slice_index i.words 1) ≡ true = rw e at h in
    all_1 (is_type insts) (slice_index i.words 1)
    (of_data insts (slice_index i.words 1) (and_parts (is_data insts (slice_index i.words 1)) (not (ends_open insts (slice_index i.words 1))) closed).0)
