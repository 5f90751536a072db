-- A module and what is left of it are alike but for what has gone.
use Rattle.std.proofs.Common.{◌≡◌, ℕ, suc, Bool, true, false, ◌==◌, ◌&&◌, ◌||◌, List, Some, refl, sym, ap, ◌∙◌, eqb-true, arith}
use Rattle.std.specs.List.{AllByRecursion, slice_get, slice_index}
use Rattle.spv_opcodes.specs.declared.op.TheConstants as op
use Rattle.spv_module.specs.Code.{is_line}
use Rattle.spv_module.specs.Instruction.{Instruction, opcode}
use Rattle.spv_typing.specs.Kinds.{is_closed, is_constant, is_int, is_one_of, type_of}
use Rattle.spv_typing.specs.Types.{array_fits, type_fits}
use Rattle.spv_declarations.specs.Declarations.{declared_before}
use Rattle.spv_declarations.specs.Laws.{IsUnbroken}
use Rattle.spv_declarations.proofs.Modules.{unbroken}
use Rattle.spv_declarations.proofs.Unbroken.{keeps}
use Rattle.spv_alike.proofs.Lookups.{and_left, and_right}
use Rattle.spv_alike_uses.specs.Alike.{firm_kinds}
use Rattle.spv_thinned.specs.Thinned.{IsThinned, ThinnedIsAlike}
use Rattle.spv_thinned.proofs.Walk.{each_at}
use Rattle.spv_thinned.proofs.Definitions.{Fact, kept_definition, same_kind, same_value, same_word, same_words, types_stay}
use Rattle.spv_thinned.proofs.Said.{same_decorations}
use Rattle.spv_thinned.proofs.Places.{parameters_stay, same_outside, same_parameters}
use Rattle.spv_thinned.proofs.Tables.{same_forms, same_known}

not_line : (i : Instruction) → (opcode i == op.TYPE_ARRAY) ≡ true → is_line i ≡ false
not_line i h = ap (λ (o : ℕ). o == op.LINE || o == op.NO_LINE) (eqb-true (opcode i) op.TYPE_ARRAY h)

operation_not_line : (i : Instruction) → opcode i ≡ op.SPEC_CONSTANT_OP → is_line i ≡ false
operation_not_line i h = ap (λ (o : ℕ). o == op.LINE || o == op.NO_LINE) h

array_fits_by : (insts : List Instruction) (i : Instruction) → (opcode i == op.TYPE_ARRAY) ≡ true → type_fits insts i ≡ array_fits insts (slice_index i.words 2) (slice_index i.words 3)
unfolding type_fits
array_fits_by insts i h = rw (eqb-true (opcode i) op.TYPE_ARRAY h) refl

-- the length of an array type in a module that breaks no rule on declarations
length_constant : (insts : List Instruction) → IsUnbroken insts → (k : ℕ) (i : Instruction) → slice_get insts k ≡ Some i → (opcode i == op.TYPE_ARRAY) ≡ true
    → (is_constant insts (slice_index i.words 3) ≡ true) × (is_int insts (type_of insts (slice_index i.words 3)) ≡ true)
length_constant insts h k i at is =
    let types : type_fits insts i ≡ true =
    (keeps insts (declared_before insts k) k i (not_line i is) (unbroken insts (suc k) h.unrefused k i (omega arith) at)).types in
    let fits : array_fits insts (slice_index i.words 2) (slice_index i.words 3) ≡ true = sym (array_fits_by insts i is) ∙ types in
    let right =
    and_right (is_closed insts (slice_index i.words 2)) (is_constant insts (slice_index i.words 3) && is_int insts (type_of insts (slice_index i.words 3))) fits in (
      and_left (is_constant insts (slice_index i.words 3)) (is_int insts (type_of insts (slice_index i.words 3))) right,
      and_right (is_constant insts (slice_index i.words 3)) (is_int insts (type_of insts (slice_index i.words 3))) right,
    )

pub facts_of : (gone : ℕ → Bool) (keep : Instruction → Bool) (before after : List Instruction) → IsUnbroken before → IsThinned gone keep before after
    → AllByRecursion (Fact gone keep before) before
facts_of gone keep before after h thin =
    each_at (Fact gone keep before) before (λ k i at. record {
      whole = h.whole k i at;
      dropped = thin.dropped k i at;
      kept = thin.kept k i at;
      length = length_constant before h k i at;
      operation = λ is. (keeps before (declared_before before k) k i (operation_not_line i is) (unbroken before (suc k) h.unrefused k i (omega arith) at)).operations;
    })

pub thinned_is_alike : ThinnedIsAlike
thinned_is_alike gone keep before after h thin =
    let facts = facts_of gone keep before after h thin in
    record {
      zero = thin.zero;
      values = λ id s. same_value gone keep before after thin facts id s;
      types = λ id t s e. types_stay gone keep before facts id t s e;
      fixed = λ id s firm. same_words gone keep before after thin facts id s 0;
      loose = λ id s loose. ap (is_one_of firm_kinds) (same_kind gone keep before after thin facts id s) ∙ loose;
      taken = λ id s firm i e. (kept_definition gone keep before facts id s i e).1.used;
      outside = λ id s. same_outside gone keep before after thin facts id s;
      decorations = λ id d s. same_decorations gone keep before after thin facts id s d;
      known = λ id k s. same_known gone keep before after thin facts id k s;
      forms = λ t s. same_forms gone keep before after thin facts t s;
      parameters = λ f s. same_parameters gone keep before after thin facts f s;
      parameters_stay = λ f s. parameters_stay gone keep before after thin facts f;
      thirds = λ id s loose none. same_word gone keep before after thin facts id s 2;
    }
