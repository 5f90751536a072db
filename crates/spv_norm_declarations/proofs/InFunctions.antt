-- In a function no type, constant, decoration or global variable stands, so its instructions break no rule on these.
use Rattle.std.proofs.Common.{◌≡◌, ◌⊎◌, inl, inr, ℕ, Bool, true, false, cond, not, nat_eq, ◌==◌, ◌&&◌, ◌||◌, List, [], ◌∷◌, ◌++◌, drop, length, take, None, Some, refl, ap, ap₂, ◌∙◌}
use Rattle.std.specs.List.{AllByRecursion, list_any, slice_get, slice_index}
use Rattle.std.specs.Map.{lookup}
use Rattle.spv_opcodes.specs.declared.op.TheConstants as op
use Rattle.spv_grammar.specs.declared.section.TheConstants as section
use Rattle.spv_grammar.specs.Table.{row_of}
use Rattle.spv_module.specs.Code.{is_function, is_line, plain_section, row_section}
use Rattle.spv_module.specs.Instruction.{Instruction, opcode}
use Rattle.spv_meaning.specs.Statements.{Statement, by_row, is_silent_opcode, rows}
use Rattle.spv_ids.specs.Ids.{is_declaration, is_defined, is_second, used_ids}
use Rattle.spv_repeats.specs.Repeats.{is_decorate, is_member_decorate, is_same_decoration, is_same_member_decoration, is_same_spec_id, is_same_type, is_unique_type, is_workgroup_size, occurs, repeats, single_decorations, unique_types}
use Rattle.spv_repeats.specs.Repeats as repeating
use Rattle.spv_opcodes.specs.declared.decoration.TheConstants as decoration
use Rattle.spv_opcodes.specs.declared.builtin.TheConstants as builtin
use Rattle.spv_typing.specs.Kinds.{is_one_of}
use Rattle.spv_typing.specs.Types.{type_fits}
use Rattle.spv_typing.specs.Operations.{spec_op_fits}
use Rattle.spv_decorations.specs.Targets.{decoration_fits}
use Rattle.spv_decorations.specs.Globals.{global_fits}
use Rattle.spv_declarations.specs.Broken.{depth_fits, layout_fits}
use Rattle.spv_declarations.specs.Constants.{constant_fits}
use Rattle.spv_declarations.specs.Declarations.{Declared, declare, declare_all, entry, entry_of, nothing_declared, says}
use Rattle.spv_declarations.proofs.Declares.{AllOf}
use Rattle.spv_walk.proofs.Unique.{equal_true, truth_apart}
use Rattle.spv_norm_declarations.proofs.Outside.{all_known, get_behind, take_front}
use Rattle.spv_norm_declarations.proofs.Rules.{NoneAt, breaks_none}

-- ---- opcodes that declare or decorate

abbrev pub declaring : List ℕ
declaring =
    op.TYPE_VOID ∷ op.TYPE_BOOL ∷ op.TYPE_INT ∷ op.TYPE_VECTOR ∷ op.TYPE_FUNCTION ∷ op.TYPE_ARRAY ∷ op.TYPE_RUNTIME_ARRAY ∷ op.TYPE_STRUCT ∷ op.TYPE_POINTER
    ∷ op.SPEC_CONSTANT_OP ∷ op.DECORATE ∷ op.MEMBER_DECORATE ∷ []

abbrev pub IsQuiet : ℕ → Type 0
IsQuiet o = AllByRecursion (λ k. (o == k) ≡ false) declaring

-- what passes a test that fails for each of these is none
pub quiet_by : (test : ℕ → Bool) → AllOf (λ k. test k ≡ false) declaring → (o : ℕ) → test o ≡ true → IsQuiet o
quiet_by test fails o passes = each declaring fails where
  apart : (k : ℕ) → test k ≡ false → (o == k) ≡ false
  apart k none = split (o == k) refl where
    split : (b : Bool) → (o == k) ≡ b → b ≡ false
    split true e = absurd (truth_apart (test o) passes (ap test (equal_true o k e) ∙ none))
    split false e = refl

  each : (ks : List ℕ) → AllOf (λ k. test k ≡ false) ks → AllByRecursion (λ k. (o == k) ≡ false) ks
  each [] h = tt
  each (k ∷ ks) h = (apart k h.0, each ks h.1)

off : {A : Type 0} (b : Bool) (x y : A) → b ≡ false → cond b x y ≡ y
off b x y e = ap (λ z. cond z x y) e

not_first : (b x : Bool) → b ≡ false → (not b || x) ≡ true
not_first true x e = absurd (cc e)
not_first false x e = refl

first_of_three : (a b c : Bool) → a ≡ true → (a || b || c) ≡ true
first_of_three true b c e = refl
first_of_three false b c e = absurd (cc e)

first_of_four : (a b c d : Bool) → a ≡ true → (a || b || c || d) ≡ true
first_of_four true b c d e = refl
first_of_four false b c d e = absurd (cc e)

type_passes : (insts : List Instruction) (j : Instruction) → IsQuiet (opcode j) → type_fits insts j ≡ true
unfolding type_fits
type_passes insts j q =
    off (opcode j == op.TYPE_INT) _ _ q.1.1.0 ∙ off (opcode j == op.TYPE_VECTOR) _ _ q.1.1.1.0 ∙ off (opcode j == op.TYPE_ARRAY) _ _ q.1.1.1.1.1.0
    ∙ off (opcode j == op.TYPE_RUNTIME_ARRAY) _ _ q.1.1.1.1.1.1.0 ∙ off (opcode j == op.TYPE_STRUCT) _ _ q.1.1.1.1.1.1.1.0
    ∙ off (opcode j == op.TYPE_POINTER) _ _ q.1.1.1.1.1.1.1.1.0 ∙ off (opcode j == op.TYPE_FUNCTION) _ _ q.1.1.1.1.0

new_type_passes : (before : List Instruction) (j : Instruction) → IsQuiet (opcode j) → occurs before j ≡ false
new_type_passes before j q =
    five (opcode j == op.TYPE_VOID) (opcode j == op.TYPE_BOOL) (opcode j == op.TYPE_INT) (opcode j == op.TYPE_VECTOR) (opcode j == op.TYPE_FUNCTION)
    q.0 q.1.0 q.1.1.0 q.1.1.1.0 q.1.1.1.1.0
  where
    five : (a b c d e : Bool) → a ≡ false → b ≡ false → c ≡ false → d ≡ false → e ≡ false
        → ((a || (b || (c || (d || (e || false))))) && list_any (is_same_type j) before) ≡ false
    five a b c d e ha hb hc hd he =
        ap₂ (λ x y. (x || (y || (c || (d || (e || false))))) && list_any (is_same_type j) before) ha hb
        ∙ ap₂ (λ x y. (x || (y || (e || false))) && list_any (is_same_type j) before) hc hd ∙ ap (λ x. (x || false) && list_any (is_same_type j) before) he

operation_passes : (insts : List Instruction) (j : Instruction) → IsQuiet (opcode j) → spec_op_fits insts j ≡ true
unfolding spec_op_fits
operation_passes insts j q = not_first (opcode j == op.SPEC_CONSTANT_OP) _ q.1.1.1.1.1.1.1.1.1.0

decoration_passes : (insts : List Instruction) (j : Instruction) → IsQuiet (opcode j) → decoration_fits insts j ≡ true
unfolding decoration_fits
decoration_passes insts j q =
    off (opcode j == op.DECORATE) _ _ q.1.1.1.1.1.1.1.1.1.1.0 ∙ off (opcode j == op.MEMBER_DECORATE) _ _ q.1.1.1.1.1.1.1.1.1.1.1.0

new_decoration_passes : (before : List Instruction) (j : Instruction) → IsQuiet (opcode j) → repeats before j ≡ false
new_decoration_passes before j q =
    ap₂ (λ (a b : Bool).
    (a && list_any (is_same_decoration j) before && repeating.is_one_of single_decorations (slice_index j.words 2))
    || (b && list_any (is_same_member_decoration j) before && repeating.is_one_of single_decorations (slice_index j.words 3))
    || ((a && (slice_index j.words 2 == decoration.SPEC_ID)) && list_any (is_same_spec_id j) before)
    || ((a && ((slice_index j.words 2 == decoration.BUILTIN) && (slice_index j.words 3 == builtin.WORKGROUP_SIZE))) && list_any is_workgroup_size before))
    q.1.1.1.1.1.1.1.1.1.1.0 q.1.1.1.1.1.1.1.1.1.1.1.0

-- ---- what has begun

begun_of : (all : List Statement) (d : Declared) (is : List Instruction) → (declare_all all d is).begun ≡ (d.begun || list_any is_function is)
begun_of all d [] = last d.begun where
  last : (b : Bool) → b ≡ (b || false)
  last true = refl
  last false = refl
begun_of all d (i ∷ is) = begun_of all (declare all d i) is ∙ turn d.begun (is_function i) (list_any is_function is) where
  turn : (a b c : Bool) → ((a || b) || c) ≡ (a || (b || c))
  turn true b c = refl
  turn false b c = refl

-- ---- where a function has begun, or at its OpFunction

abbrev Starts : Declared → Instruction → Type 0
Starts d j = (d.begun ≡ true) ⊎ (opcode j ≡ op.FUNCTION)

constants_pass : (insts : List Instruction) (d : Declared) (j : Instruction) → Starts d j → (d.begun || constant_fits insts d j) ≡ true
constants_pass insts d j (inl b) = ap (λ z. z || constant_fits insts d j) b
constants_pass insts d j (inr e) = ap (λ z. d.begun || z) passes ∙ always d.begun where
  always : (b : Bool) → (b || true) ≡ true
  always true = refl
  always false = refl

  passes : constant_fits insts d j ≡ true
  passes =
      off (is_one_of (op.CONSTANT_TRUE ∷ op.CONSTANT_FALSE ∷ op.SPEC_CONSTANT_TRUE ∷ op.SPEC_CONSTANT_FALSE ∷ []) (opcode j)) _ _
      (ap (is_one_of (op.CONSTANT_TRUE ∷ op.CONSTANT_FALSE ∷ op.SPEC_CONSTANT_TRUE ∷ op.SPEC_CONSTANT_FALSE ∷ [])) e)
      ∙ off (is_one_of (op.CONSTANT ∷ op.SPEC_CONSTANT ∷ []) (opcode j)) _ _ (ap (is_one_of (op.CONSTANT ∷ op.SPEC_CONSTANT ∷ [])) e)
      ∙ off (opcode j == op.CONSTANT_NULL) _ _ (ap (λ o. o == op.CONSTANT_NULL) e) ∙ off (opcode j == op.UNDEF) _ _ (ap (λ o. o == op.UNDEF) e)
      ∙ off (opcode j == op.SPEC_CONSTANT_COMPOSITE) _ _ (ap (λ o. o == op.SPEC_CONSTANT_COMPOSITE) e)
      ∙ off (opcode j == op.CONSTANT_COMPOSITE) _ _ (ap (λ o. o == op.CONSTANT_COMPOSITE) e)

no_variable : (b c : Bool) (x : Bool) → b ≡ false → (c || not b || x) ≡ true
no_variable b c x e = ap (λ z. c || not z || x) e ∙ by c where
  by : (a : Bool) → (a || true || x) ≡ true
  by true = refl
  by false = refl

layouts_pass : (d : Declared) (j : Instruction) → Starts d j → layout_fits d j ≡ true
layouts_pass d j (inl b) = first_of_four d.begun _ _ _ b
layouts_pass d j (inr e) = by d.begun (opcode j == op.VARIABLE) _ _ (ap (λ o. o == op.VARIABLE) e) where
  by : (c v x y : Bool) → v ≡ false → (c || not v || x || y) ≡ true
  by true v x y e = refl
  by false true x y e = absurd (cc e)
  by false false x y e = refl

globals_pass : (insts : List Instruction) (d : Declared) (j : Instruction) → Starts d j → global_fits insts d.begun j ≡ true
unfolding global_fits
globals_pass insts d j (inl b) = first_of_three d.begun _ _ b
globals_pass insts d j (inr e) = no_variable (opcode j == op.VARIABLE) d.begun _ (ap (λ o. o == op.VARIABLE) e)

depths_pass : (all : List Statement) (d : Declared) (j : Instruction) → Starts d j → depth_fits (cond d.begun None (entry all d.table j)) ≡ true
depths_pass all d j (inl b) = ap (λ z. depth_fits (cond z None (entry all d.table j))) b
depths_pass all d j (inr e) =
    ap (λ o. depth_fits (cond d.begun None (entry_of all d.table (cond (is_silent_opcode o) [] (by_row (lookup (nat_eq o) rows) (drop 1 j.words) ∷ []))))) e
    ∙ by d.begun
  where
    by : (b : Bool) → depth_fits (cond b None None) ≡ true
    by true = refl
    by false = refl

no_declaration : (d : Declared) (j : Instruction) → Starts d j → is_declaration d.begun j ≡ false
unfolding row_of
no_declaration d j (inl b) = ap (λ z. not z && (plain_section false j == section.DECLARATIONS)) b
no_declaration d j (inr e) = ap (λ o. not d.begun && (row_section (row_of o) == section.DECLARATIONS)) e ∙ by d.begun where
  by : (b : Bool) → (not b && false) ≡ false
  by true = refl
  by false = refl

all_ids : (again before : List Instruction) (early : Bool) → early ≡ false → (ids : List ℕ) → AllByRecursion (λ id. is_defined again id ≡ true) ids
    → AllByRecursion (λ id. (is_defined again id ≡ true) × (early ≡ true → is_defined before id ≡ true)) ids
all_ids again before early no_early [] h = tt
all_ids again before early no_early (id ∷ ids) h =
    ((h.0, λ e. absurd (truth_apart early e no_early)), all_ids again before early no_early ids h.1)

module _ (again : List Instruction) where
  -- an instruction of a function that uses ids alone that are defined
  pub none_inside : ((k : ℕ) (i : Instruction) → slice_get again k ≡ Some i → is_line i ≡ false → is_second again k i ≡ false)
      → (qs : List Instruction) (j : Instruction) (behind : List Instruction) → again ≡ qs ++ j ∷ behind
      → (list_any is_function qs ≡ true) ⊎ (opcode j ≡ op.FUNCTION) → IsQuiet (opcode j) → is_line j ≡ false
      → AllByRecursion (λ id. is_defined again id ≡ true) (used_ids j) → NoneAt again qs j
  none_inside once qs j behind cut start q plain known =
      breaks_none again (declare_all (says again) nothing_declared qs) (length qs) j
      record {
        kept = record {
          once = once (length qs) j (ap (λ is. slice_get is (length qs)) cut ∙ get_behind qs behind j) plain;
          known =
              ap (λ bs. list_any (λ id. not (is_defined again id) || (is_declaration d.begun j && not (is_defined bs id))) (used_ids j))
              (ap (take (length qs)) cut ∙ take_front qs (j ∷ behind))
              ∙ all_known again (is_declaration d.begun j) qs (used_ids j) (all_ids again qs (is_declaration d.begun j) (no_declaration d j starts)
              (used_ids j) known);
          types = type_passes again j q;
          new_type = new_type_passes (take (length qs) again) j q;
          constants = constants_pass again d j starts;
          operations = operation_passes again j q;
          decorations = decoration_passes again j q;
          layouts = layouts_pass d j starts;
          globals = globals_pass again d j starts;
          depths = depths_pass (says again) d j starts;
        };
        new_decoration = new_decoration_passes (take (length qs) again) j q;
      }
    where
      d : Declared
      d = declare_all (says again) nothing_declared qs

      starts : Starts (declare_all (says again) nothing_declared qs) j
      starts = elim start [
        | inl b ↦ inl (begun_of (says again) nothing_declared qs ∙ b)
        | inr e ↦ inr e
      ]
