-- What a call or an entry point names is a function of the module, where no rule on calls and entry points is broken.
use Rattle.std.proofs.Common.{◌≡◌, ℕ, zero, suc, ◌<◌, Bool, true, false, cond, not, nat_eq, ◌==◌, ◌&&◌, ◌||◌, List, [], ◌∷◌, ◌++◌}
use Rattle.std.proofs.Common.{Option, Some, None, refl, sym, ap, subst, ◌∙◌, drop, take, arith}
use Rattle.std.specs.Prelude.{slice_get, slice_index, length, count_by, IsSome}
use Rattle.std.specs.List.{Contains, list_any}
use Rattle.std.specs.Option.{option_map_or}
use Rattle.std.proofs.lemmas.Bool.Decides.{nat_tests}
use Rattle.std.proofs.lemmas.List.Elements.{Contains-append_right}
use Rattle.spv_opcodes.specs.declared.op.TheConstants as op
use Rattle.spv_grammar.specs.Roles.{is_defined_id}
use Rattle.spv_grammar.specs.Table.{row_of}
use Rattle.spv_module.specs.declared.layout.Place.TheVariants.{Outside, Between}
use Rattle.spv_module.specs.Code.{is_function, is_line, plain_section, row_section}
use Rattle.spv_module.specs.First.{unless}
use Rattle.spv_module.specs.Instruction.{Instruction, IsInstruction, opcode, roles, word_with}
use Rattle.spv_module.specs.Layout.{behind, fits_place, is_entry_point, is_terminator}
use Rattle.spv_ids.specs.Ids.{defines, definition, kind}
use Rattle.spv_declarations.proofs.Parts.{defined-typed, first_typed, row_test}
use Rattle.spv_arithmetic.specs.Broken.{arithmetic_rules}
use Rattle.spv_composites.specs.Broken.{composite_rules}
use Rattle.spv_usage.specs.Broken.{usage_rules}
use Rattle.spv_signatures.specs.Broken.{signature_rules}
use Rattle.spv_signatures.specs.Calls.{arguments_fit, call_fits}
use Rattle.spv_signatures.specs.Contexts.{next_type_at, result_fits, result_type_at, return_fits}
use Rattle.spv_signatures.specs.Functions as signatures
use Rattle.spv_signatures.specs.Functions.{names_function, parameters_of}
use Rattle.spv_body_rules.specs.Broken.{body_rules, is_of_functions, rules_in_functions}
use Rattle.spv_entries.specs.Bindings.{binding_fits}
use Rattle.spv_entries.specs.Broken.{entry_rules}
use Rattle.spv_entries.specs.Functions as entries
use Rattle.spv_entries.specs.Functions.{may_be_entered}
use Rattle.spv_entries.specs.Names.{name_fits}
use Rattle.spv_entries.specs.Sizes.{size_fits}
use Rattle.spv_blocks.specs.Cutting.{function_insts}
use Rattle.spv_walk.proofs.Unique.{both_left, equal_true, true_equal}
use Rattle.spv_bodies.specs.Bodies.{Function}
use Rattle.spv_normal.specs.Lines.{before_labels, without_marks}
use Rattle.spv_spelling.specs.Spelling.{SpellsFunction}
use Rattle.spv_spelling.specs.Whole.{AreInstructions}
use Rattle.spv_tree.specs.Tree.{words_of}
use Rattle.spv_texts.proofs.Functions.{Fits, IsKind, AFunction, AParameter, AnEnd, ALabel, Another, kind_of, end_fits, label_fits, other_fits}
use Rattle.spv_texts.proofs.Functions.{behind_parameter, behind_other, differ}
use Rattle.spv_norm_means.specs.Laws.{function_of}
use Rattle.spv_admitted.proofs.Lists.{contains_head, third_word, Found, found_at, some_at}
use Rattle.spv_admitted.proofs.Functions.{Begins, begins_one, function_is_no_label, function_is_no_line}
use Rattle.spv_admitted.proofs.Places.{marks_line, marks_plain}

-- ---- a call stands behind an OpFunction

either_gives : {P : Type 0} (a b : Bool) → (a ≡ true → P) → (b ≡ true → P) → (a || b) ≡ true → P
either_gives true b f g h = f refl
either_gives false b f g h = g h

terminator_section : (i : Instruction) → is_terminator i ≡ true → row_section (row_of (opcode i)) ≡ 11
unfolding row_of
terminator_section i h =
    either_gives (o == op.BRANCH || o == op.BRANCH_CONDITIONAL || o == op.SWITCH || o == op.RETURN || o == op.RETURN_VALUE) (o == op.UNREACHABLE)
    (either_gives (o == op.BRANCH || o == op.BRANCH_CONDITIONAL || o == op.SWITCH || o == op.RETURN) (o == op.RETURN_VALUE)
    (either_gives (o == op.BRANCH || o == op.BRANCH_CONDITIONAL || o == op.SWITCH) (o == op.RETURN)
    (either_gives (o == op.BRANCH || o == op.BRANCH_CONDITIONAL) (o == op.SWITCH)
    (either_gives (o == op.BRANCH) (o == op.BRANCH_CONDITIONAL) (at op.BRANCH refl) (at op.BRANCH_CONDITIONAL refl))
    (at op.SWITCH refl)) (at op.RETURN refl)) (at op.RETURN_VALUE refl)) (at op.UNREACHABLE refl) h
  where
    o : ℕ
    o = opcode i

    at : (k : ℕ) → row_section (row_of k) ≡ 11 → (o == k) ≡ true → row_section (row_of o) ≡ 11
    at k p e = ap (λ q. row_section (row_of q)) (equal_true o k e) ∙ p

call_section : row_section (row_of op.FUNCTION_CALL) ≡ 11
unfolding row_of
call_section = refl

-- what fits outside before the first function stays there
stays_outside : (i : Instruction) → is_function i ≡ false → fits_place Outside (plain_section false i) i ≡ true → behind Outside i ≡ Outside
stays_outside i f fits = by_kind (kind_of i) where
  by_end : (b : Bool) → is_terminator i ≡ b → (opcode i == op.FUNCTION) ≡ false → (opcode i == op.FUNCTION_PARAMETER) ≡ false
      → (opcode i == op.FUNCTION_END) ≡ false
      → (opcode i == op.LABEL) ≡ false → cond (is_terminator i) Between Outside ≡ Outside
  by_end true t g p e l = absurd (differ (sym fits ∙ other_fits Outside (plain_section false i) i g p e l (terminator_section i t)))
  by_end false t g p e l = ap (λ (b : Bool). cond b Between Outside) t

  by_kind : IsKind i → behind Outside i ≡ Outside
  by_kind (AFunction g) = absurd (differ (sym g ∙ f))
  by_kind (AParameter g p) = behind_parameter Outside i p
  by_kind (AnEnd g p e) = absurd (differ (sym fits ∙ end_fits Outside (plain_section false i) i g p e))
  by_kind (ALabel g p e l) = absurd (differ (sym fits ∙ label_fits Outside (plain_section false i) i g p e l))
  by_kind (Another g p e l) = behind_other Outside i g e l ∙ by_end (is_terminator i) refl g p e l

no_call_outside : (i : Instruction) → opcode i ≡ op.FUNCTION_CALL → fits_place Outside (plain_section false i) i ≡ true → ⊥
no_call_outside i e fits =
    differ (sym fits ∙ other_fits Outside (plain_section false i) i (ap (λ o. o == op.FUNCTION) e) (ap (λ o. o == op.FUNCTION_PARAMETER) e)
    (ap (λ o. o == op.FUNCTION_END) e) (ap (λ o. o == op.LABEL) e) (ap (λ o. row_section (row_of o)) e ∙ call_section))

call_is_no_line : (i : Instruction) → opcode i ≡ op.FUNCTION_CALL → is_line i ≡ false
call_is_no_line i e = ap (λ o. o == op.LINE || o == op.NO_LINE) e

-- by induction on the instructions before it
call_behind : (is : List Instruction) → Fits Outside false (without_marks is) → (at : ℕ) (i : Instruction) → slice_get is at ≡ Some i
    → opcode i ≡ op.FUNCTION_CALL
    → list_any is_function (take at is) ≡ true
call_behind [] fits at i there e = absurd (cc there)
call_behind (x ∷ is) fits zero i there e =
    let same : x ≡ i = cc there in
    let call : opcode x ≡ op.FUNCTION_CALL = ap opcode same ∙ e in
    absurd (no_call_outside x call (subst (Fits Outside false) (marks_plain x is (call_is_no_line x call)) fits).0)
call_behind (x ∷ is) fits (suc at) i there e = by (is_function x) (is_line x) refl refl (λ g. call_behind is g at i there e) where
  by : (function line : Bool) → is_function x ≡ function → is_line x ≡ line → (Fits Outside false (without_marks is)
      → list_any is_function (take at is) ≡ true)
      → (function || list_any is_function (take at is)) ≡ true
  by true line f l more = refl
  by false true f l more = more (subst (Fits Outside false) (marks_line x is l) fits)
  by false false f l more =
      let here = subst (Fits Outside false) (marks_plain x is l) fits in
      more (subst (λ b. Fits Outside b (without_marks is)) f (subst (λ p. Fits p (is_function x) (without_marks is)) (stays_outside x f here.0) here.2))

pub call_is_of_functions : (insts : List Instruction) → Fits Outside false (without_marks insts) → (at : ℕ) (i : Instruction) → slice_get insts at ≡ Some i
    → opcode i ≡ op.FUNCTION_CALL → is_of_functions insts at i ≡ true
call_is_of_functions insts fits at i there e =
    ap (λ b. (b || is_function i) && not (is_line i)) (call_behind insts fits at i there e) ∙ ap not (call_is_no_line i e)

-- ---- 506 and 606 are not broken

none_missing : (insts : List Instruction) (k : ℕ) (i : Instruction) → Contains (signature_rules insts k i) 506 → Contains (rules_in_functions insts k i) 506
none_missing insts k i c =
    Contains-append_right (arithmetic_rules insts i) (composite_rules insts i ++ (usage_rules insts k i ++ signature_rules insts k i)) 506
    (Contains-append_right (composite_rules insts i) (usage_rules insts k i ++ signature_rules insts k i) 506
    (Contains-append_right (usage_rules insts k i) (signature_rules insts k i) 506 c))

missing_call : (insts : List Instruction) (k : ℕ) (i : Instruction) → call_fits insts i ≡ false → Contains (signature_rules insts k i) 506
missing_call insts k i e =
    let behind : Bool → List ℕ = λ b. unless b 506 ++ unless (return_fits insts (result_type_at insts k) i) 507 in
    Contains-append_right (unless (signatures.function_fits insts i) 501)
    (unless (result_fits insts (next_type_at insts k) i) 502 ++ behind (call_fits insts i)) 506
    (Contains-append_right (unless (result_fits insts (next_type_at insts k) i) 502) (behind (call_fits insts i)) 506
    (subst (λ b. Contains (behind b) 506) (sym e) (contains_head 506 (unless (return_fits insts (result_type_at insts k) i) 507))))

call_fits_there : (insts : List Instruction) (k : ℕ) (i : Instruction) → is_of_functions insts k i ≡ true → (Contains (body_rules insts k i) 506
    → ⊥) → call_fits insts i ≡ true
unfolding body_rules
call_fits_there insts k i inside h = by (call_fits insts i) refl where
  by : (b : Bool) → call_fits insts i ≡ b → call_fits insts i ≡ true
  by true e = e
  by false e = absurd (h (subst (λ b. Contains (cond b (rules_in_functions insts k i) []) 506) (sym inside)
      (none_missing insts k i (missing_call insts k i e))))

pub call_names : (insts : List Instruction) (k : ℕ) (i : Instruction) → is_of_functions insts k i ≡ true → (Contains (body_rules insts k i) 506
    → ⊥) → opcode i ≡ op.FUNCTION_CALL
    → (kind insts (slice_index i.words 3) == op.FUNCTION) ≡ true
unfolding call_fits
call_names insts k i inside h e =
    let function : ℕ = slice_index i.words 3 in
    let arguments : Bool = arguments_fit insts (parameters_of insts function) (drop 4 i.words) in
    both_left (names_function insts function) arguments
    (sym (ap (λ o. not (o == op.FUNCTION_CALL) || (names_function insts function && arguments)) e) ∙ call_fits_there insts k i inside h)

missing_entry : (insts : List Instruction) (k : ℕ) (i : Instruction) → entries.function_fits insts i ≡ false → Contains (entry_rules insts k i) 606
missing_entry insts k i e =
    let last : List ℕ = unless (entries.function_fits insts i) 606 in
    Contains-append_right (unless (binding_fits insts (take k insts) i) 603)
    (unless (name_fits (take k insts) i) 604 ++ (unless (size_fits insts i) 605 ++ last)) 606
    (Contains-append_right (unless (name_fits (take k insts) i) 604) (unless (size_fits insts i) 605 ++ last) 606
    (Contains-append_right (unless (size_fits insts i) 605) last 606 (subst (λ b. Contains (unless b 606) 606) (sym e) (contains_head 606 []))))

entry_fits_there : (insts : List Instruction) (k : ℕ) (i : Instruction) → (Contains (entry_rules insts k i) 606 → ⊥) → entries.function_fits insts i ≡ true
entry_fits_there insts k i h = by (entries.function_fits insts i) refl where
  by : (b : Bool) → entries.function_fits insts i ≡ b → entries.function_fits insts i ≡ true
  by true e = e
  by false e = absurd (h (missing_entry insts k i e))

second_passes : (a b : Bool) → a ≡ true → (not a || b) ≡ true → b ≡ true
second_passes true b e h = h
second_passes false b e h = absurd (cc e)

pub entry_names : (insts : List Instruction) (k : ℕ) (i : Instruction) → (Contains (entry_rules insts k i) 606 → ⊥) → is_entry_point i ≡ true
    → (kind insts (slice_index i.words 2) == op.FUNCTION) ≡ true
unfolding entries.function_fits
entry_names insts k i h e =
    let function : ℕ = slice_index i.words 2 in
    both_left (kind insts function == op.FUNCTION) _
    (second_passes (is_entry_point i) (may_be_entered insts function) e (entry_fits_there insts k i h))

-- ---- an id of a function

function_row : row_test first_typed (row_of op.FUNCTION) ≡ true
unfolding row_of
function_row = refl

same_ids : (a b : ℕ) → nat_eq a b ≡ true → b ≡ a
same_ids a b h = grind (arith, nat_tests)

function_defines : (d : Instruction) (id : ℕ) → IsInstruction d.words (roles d) → opcode d ≡ op.FUNCTION → defines id d ≡ true → slice_index d.words 2 ≡ id
function_defines d id whole e h =
    let it : word_with is_defined_id d ≡ Some (slice_index d.words 2) =
    defined-typed d whole (ap (λ o. row_test first_typed (row_of o)) e ∙ function_row) ∙ ap Some (third_word d.words) in
    same_ids id (slice_index d.words 2) (sym (ap (λ o. option_map_or (nat_eq id) o false) it) ∙ h)

-- an OpFunction of the module has the id
record IsFunctionAt (insts : List Instruction) (id : ℕ) : Type 0 where
  inst : Instruction
  begins : Begins insts inst
  is_it : opcode inst ≡ op.FUNCTION
  names : slice_index inst.words 2 ≡ id

is_function_by : (insts : List Instruction) → AreInstructions insts → (id : ℕ) (o : Option Instruction) → definition insts id ≡ o
    → (option_map_or opcode o 0 == op.FUNCTION) ≡ true → IsFunctionAt insts id
is_function_by insts each id None e h = absurd (cc h)
is_function_by insts each id (Some d) e h =
    let found : Found (defines id) insts d = found_at (defines id) insts d e in
    let is : opcode d ≡ op.FUNCTION = equal_true (opcode d) op.FUNCTION h in
    record {
      inst = d;
      begins = begins_one insts found.at d found.there h;
      is_it = is;
      names = function_defines d id (each found.at d found.there) is found.passes;
    }

is_function_at : (insts : List Instruction) → AreInstructions insts → (id : ℕ) → (kind insts id == op.FUNCTION) ≡ true → IsFunctionAt insts id
is_function_at insts each id h = is_function_by insts each id (definition insts id) refl h

-- a tree that is spelled has the words of the OpFunction
pub function_line : (d : Instruction) (rest : List Instruction) (stays : ℕ → ℕ) (f : Function) → is_function d ≡ true
    → SpellsFunction (without_marks (d ∷ rest)) stays f
    → f.function ≡ d.words
function_line d rest stays f h spells =
    let lines : before_labels (without_marks (d ∷ rest)) ≡ d ∷ before_labels (without_marks rest) =
    ap before_labels (marks_plain d rest (function_is_no_line d h))
    ∙ ap (λ b. cond b [] (d ∷ before_labels (without_marks rest))) (function_is_no_label d h) in
    first_line f.function f.parameters d.words (words_of (before_labels (without_marks rest))) (sym spells.front ∙ ap words_of lines)
  where
    first_line : (a : List ℕ) (others : List (List ℕ)) (b : List ℕ) (more : List (List ℕ)) → a ∷ others ≡ b ∷ more → a ≡ b
    first_line a others b more e = cc e

-- by induction on the trees
has_id : (fs : List Function) (k r : ℕ) (f : Function) → slice_get fs k ≡ Some f → slice_index f.function 2 ≡ r → IsSome (function_of fs r)
has_id [] k r f e h = absurd (cc e)
has_id (g ∷ fs) zero r f e h =
    let same : g ≡ f = cc e in
    here (slice_index g.function 2 == r) (true_equal (slice_index g.function 2) r (ap (λ (x : Function). slice_index x.function 2) same ∙ h))
  where
    here : (b : Bool) → b ≡ true → IsSome (cond b (Some g) (function_of fs r))
    here true e = refl
    here false e = absurd (cc e)
has_id (g ∷ fs) (suc k) r f e h = later (slice_index g.function 2 == r) (has_id fs k r f e h) where
  later : (b : Bool) → IsSome (function_of fs r) → IsSome (cond b (Some g) (function_of fs r))
  later true m = refl
  later false m = m

-- the trees of the functions of a module, in order
abbrev pub AreTrees : List Instruction → List Function → Type 0
AreTrees insts trees = (k : ℕ) (f : Function) → slice_get trees k ≡ Some f → (stays : ℕ → ℕ) × SpellsFunction (without_marks (function_insts k insts)) stays f

-- so what an id of a function names is one of them
pub names_tree : (insts : List Instruction) → AreInstructions insts → (trees : List Function) → length trees ≡ count_by is_function insts
    → AreTrees insts trees → (id : ℕ)
    → (kind insts id == op.FUNCTION) ≡ true → IsSome (function_of trees id)
names_tree insts each trees count spelled id h =
    let d = is_function_at insts each id h in
    let k : ℕ = d.begins.number in
    let tree = some_at trees k (subst (λ n. k < n) (sym count) d.begins.within) in
    let s = spelled k tree.0 tree.1 in
    has_id trees k id tree.0 tree.1
    (ap (λ w. slice_index w 2) (function_line d.inst d.begins.rest s.0 tree.0 (true_equal (opcode d.inst) op.FUNCTION d.is_it)
    (subst (λ is. SpellsFunction (without_marks is) s.0 tree.0) d.begins.same s.1)) ∙ d.names)
