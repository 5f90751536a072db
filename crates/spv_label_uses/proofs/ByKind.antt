-- No instruction needs a label or a string as a value: kind by kind of opcodes.
use Rattle.std.proofs.Common.{◌≡◌, ℕ, Bool, true, false, not, ◌==◌, ◌&&◌, ◌||◌, List, [], ◌∷◌, ◌++◌, take, refl, sym, ap, ◌∙◌}
use Rattle.std.specs.Prelude.{nat_lt}
use Rattle.std.specs.List.{list_any, list_all, slice_index}
use Rattle.std.proofs.lemmas.Bool.{and_parts, not-true}
use Rattle.spv_opcodes.specs.declared.op.TheConstants as op
use Rattle.spv_grammar.specs.Table.{row_of}
use Rattle.spv_module.specs.Code.{is_function, row_section, stands_in_functions_too}
use Rattle.spv_module.specs.Instruction.{Instruction, IsInstruction, opcode, roles}
use Rattle.spv_typing.specs.Kinds.{is_one_of, is_closed}
use Rattle.spv_composites.specs.Composites.{composite_result_fits}
use Rattle.spv_composites.specs.Memory.{atomics}
use Rattle.spv_signatures.specs.Contexts.{next_type_at, result_type_at}
use Rattle.spv_declarations.specs.Constants.{constant_fits}
use Rattle.spv_declarations.specs.Declarations.{declared_before}
use Rattle.spv_label_uses.proofs.Begun.{any_second, stands_outside}
use Rattle.spv_label_uses.proofs.Composites.{extract_dynamic_needs, insert_dynamic_needs, shuffle_needs}
use Rattle.spv_label_uses.proofs.Constants as constant
use Rattle.spv_label_uses.proofs.Copies.{copy_needs, copy_logical_needs}
use Rattle.spv_label_uses.proofs.Entering.{entry_needs, literal_mode_needs, id_mode_needs}
use Rattle.spv_label_uses.proofs.Free.{same_by, one_passes, is_free}
use Rattle.spv_label_uses.proofs.Globals.{decorate_needs, member_decorate_needs, global_needs}
use Rattle.spv_label_uses.proofs.Groups.{AllOf, also, of_one, needs}
use Rattle.spv_label_uses.proofs.Known.{Known, body_of}
use Rattle.spv_label_uses.proofs.Memory as memories
use Rattle.spv_label_uses.proofs.Operations.{operation_needs}
use Rattle.spv_label_uses.proofs.Parts.{construct_needs, extract_needs, insert_needs}
use Rattle.spv_label_uses.proofs.Rules as rules
use Rattle.spv_label_uses.proofs.Signatures as signatures
use Rattle.spv_label_uses.proofs.Sorted.{nothing, silent, silent_rows, types, outside, constants, either, functions, parts, memory}
use Rattle.spv_label_uses.proofs.Types.{NeedsFree, vector_needs, array_needs, runtime_array_needs, struct_needs, pointer_needs, function_needs}
use Rattle.spv_label_uses.proofs.Variables.{local_needs}

-- by the opcode, which is one of some
pub by_opcode : {P : Type 0} (i : Instruction) (os : List ℕ) → AllOf (λ o. opcode i ≡ o → P) os → is_one_of os (opcode i) ≡ true → P
by_opcode {P} i os each m = of_one (λ o. opcode i ≡ o → P) os (opcode i) each m refl

pub silent_need : (insts : List Instruction) (i : Instruction) → IsInstruction i.words (roles i) → is_one_of silent (opcode i) ≡ true → NeedsFree insts i
silent_need insts i whole m = needs (is_free insts) silent nothing silent_rows refl i whole m refl

pub types_need : (insts : List Instruction) (k : ℕ) (i : Instruction) → Known insts k i → is_one_of types (opcode i) ≡ true → NeedsFree insts i
types_need insts k i h m =
    by_opcode i types
    (also (λ e. vector_needs insts i h.whole e h.declared.types)
    (also (λ e. array_needs insts i h.whole e h.declared.types)
    (also (λ e. runtime_array_needs insts i h.whole e h.declared.types)
    (also (λ e. struct_needs insts i h.whole e h.declared.types)
    (also (λ e. pointer_needs insts i h.whole e h.declared.types)
    (also (λ e. function_needs insts i h.whole e h.declared.types) tt)))))) m

pub outside_need : (insts : List Instruction) (k : ℕ) (i : Instruction) → Known insts k i → is_one_of outside (opcode i) ≡ true → NeedsFree insts i
outside_need insts k i h m =
    let entry = h.entries k i h.there in
    by_opcode i outside
    (also (λ e. decorate_needs insts i h.whole e h.declared.decorations)
    (also (λ e. member_decorate_needs insts i h.whole e h.declared.decorations)
    (also (λ e. operation_needs insts i h.whole e h.declared.operations)
    (also (λ e. entry_needs insts i h.whole e entry.1 (h.interface (ap (λ o. o == op.ENTRY_POINT) e)).globals)
    (also (λ e. literal_mode_needs insts h.entries i h.whole e entry.0)
    (also (λ e. id_mode_needs insts h.entries k i h.there h.whole e entry.0) tt)))))) m

-- ---- constants

either_fits : (begun fits : Bool) → (begun || fits) ≡ true → begun ≡ false → fits ≡ true
either_fits true fits h e = absurd (cc e)
either_fits false fits h e = h

constants_first : list_all (λ o. not (o == op.VARIABLE || o == op.UNDEF) && nat_lt (row_section (row_of o)) 11) constants ≡ true
unfolding row_of
constants_first = refl

constant_there : (insts : List Instruction) (k : ℕ) (i : Instruction) → Known insts k i → list_any is_function (take k insts) ≡ false
    → constant_fits insts (declared_before insts k) i ≡ true
constant_there insts k i h none =
    either_fits (declared_before insts k).begun (constant_fits insts (declared_before insts k) i) h.declared.constants (h.begun ∙ none)

pub constants_need : (insts : List Instruction) (k : ℕ) (i : Instruction) → Known insts k i → is_one_of constants (opcode i) ≡ true → NeedsFree insts i
constants_need insts k i h m =
    let tests = and_parts (not (stands_in_functions_too i)) (nat_lt (row_section (row_of (opcode i))) 11)
    (one_passes (λ o. not (o == op.VARIABLE || o == op.UNDEF) && nat_lt (row_section (row_of o)) 11) constants (opcode i) constants_first m) in
    let fits = constant_there insts k i h (h.first (not-true (stands_in_functions_too i) tests.0) tests.1) in
    by (is_one_of constant.booleans (opcode i)) (is_one_of constant.numbers (opcode i)) (is_one_of constant.composites (opcode i)) refl refl refl fits
  where
    last : (o : ℕ) → is_one_of constants o ≡ true → is_one_of constant.booleans o ≡ false → is_one_of constant.numbers o ≡ false
        → is_one_of constant.composites o ≡ false
        → o ≡ op.CONSTANT_NULL
    last o m b n c =
        let tests = one_passes (λ o. is_one_of constant.booleans o ||
        (is_one_of constant.numbers o || (is_one_of constant.composites o || o == op.CONSTANT_NULL))) constants o refl m in
        let rest_1 = sym (ap (λ b. b || (is_one_of constant.numbers o || (is_one_of constant.composites o || o == op.CONSTANT_NULL))) b) ∙ tests in
        let rest_2 = sym (ap (λ b. b || (is_one_of constant.composites o || o == op.CONSTANT_NULL)) n) ∙ rest_1 in
        same_by o op.CONSTANT_NULL (sym (ap (λ b. b || o == op.CONSTANT_NULL) c) ∙ rest_2)

    by : (b n c : Bool) → is_one_of constant.booleans (opcode i) ≡ b → is_one_of constant.numbers (opcode i) ≡ n
        → is_one_of constant.composites (opcode i) ≡ c
        → constant_fits insts (declared_before insts k) i ≡ true → NeedsFree insts i
    by true n c hb hn hc fits = constant.boolean_needs insts (declared_before insts k) i h.whole hb fits
    by false true c hb hn hc fits = constant.number_needs insts (declared_before insts k) i h.whole hn fits
    by false false true hb hn hc fits = constant.composite_needs insts (declared_before insts k) i h.whole hc fits
    by false false false hb hn hc fits =
        let e = last (opcode i) m hb hn hc in
        constant.closed_needs insts i h.whole (ap (is_one_of (op.CONSTANT_NULL ∷ op.UNDEF ∷ [])) e)
        (constant.null_type insts (declared_before insts k) i e fits)

-- ---- where a function has begun, or has not

undefined_inside : (insts : List Instruction) (i : Instruction) → opcode i ≡ op.UNDEF → composite_result_fits insts i ≡ true
    → is_closed insts (slice_index i.words 1) ≡ true
unfolding composite_result_fits
undefined_inside insts i e h = rw e at h

pub either_need : (insts : List Instruction) (k : ℕ) (i : Instruction) → Known insts k i → is_one_of either (opcode i) ≡ true → NeedsFree insts i
either_need insts k i h m = by (list_any is_function (take k insts)) refl where
  body : list_any is_function (take k insts) ≡ true → rules.Keeps insts k i
  body b = h.body (ap (λ c. c || is_function i) b)

  by : (b : Bool) → list_any is_function (take k insts) ≡ b → NeedsFree insts i
  by true b =
      by_opcode i either
      (also (λ e. local_needs insts k i h.whole e b (body b).storage)
      (also (λ e. constant.closed_needs insts i h.whole (ap (is_one_of (op.CONSTANT_NULL ∷ op.UNDEF ∷ [])) e)
      (undefined_inside insts i e (body b).composite_results)) tt)) m
  by false b =
      by_opcode i either
      (also (λ e. global_needs insts (declared_before insts k).begun i h.whole e (h.begun ∙ b) h.declared.globals)
      (also (λ e. constant.closed_needs insts i h.whole (ap (is_one_of (op.CONSTANT_NULL ∷ op.UNDEF ∷ [])) e)
      (constant.undefined_type insts (declared_before insts k) i e (constant_there insts k i h b))) tt)) m

-- ---- in functions

abbrev inner : List ℕ
inner = op.FUNCTION_PARAMETER ∷ op.FUNCTION_CALL ∷ op.RETURN_VALUE ∷ (parts ++ (memory ++ (memories.chains ++ atomics)))

functions_inside : list_all (λ o. not (stands_outside o)) inner ≡ true
unfolding row_of
functions_inside = refl

inner_body : (insts : List Instruction) (k : ℕ) (i : Instruction) → Known insts k i → is_one_of inner (opcode i) ≡ true → rules.Keeps insts k i
inner_body insts k i h m =
    body_of insts k i h (not-true (stands_outside (opcode i)) (one_passes (λ o. not (stands_outside o)) inner (opcode i) functions_inside m))

pub functions_need : (insts : List Instruction) (k : ℕ) (i : Instruction) → Known insts k i → is_one_of functions (opcode i) ≡ true → NeedsFree insts i
functions_need insts k i h m =
    let begins : opcode i ≡ op.FUNCTION → rules.Keeps insts k i =
    λ e. h.body (any_second (list_any is_function (take k insts)) (is_function i) (ap (λ o. o == op.FUNCTION) e)) in
    let body : is_one_of inner (opcode i) ≡ true → rules.Keeps insts k i = inner_body insts k i h in
    by_opcode i functions
    (also (λ e. signatures.function_needs insts h.unbroken (next_type_at insts k) i h.whole e (begins e).function (begins e).result)
    (also (λ e. signatures.parameter_needs insts h.unbroken h.functions k i h.whole e (body (ap (is_one_of inner) e)).result)
    (also (λ e. signatures.call_needs insts h.unbroken h.functions (next_type_at insts k) i h.whole e (body (ap (is_one_of inner) e)).call
    (body (ap (is_one_of inner) e)).result)
    (also (λ e. signatures.return_needs insts (result_type_at insts k) i h.whole e (body (ap (is_one_of inner) e)).returns) tt)))) m

pub parts_need : (insts : List Instruction) (k : ℕ) (i : Instruction) → Known insts k i → is_one_of parts (opcode i) ≡ true → NeedsFree insts i
parts_need insts k i h m =
    let body = inner_body insts k i h (one_passes (is_one_of inner) parts (opcode i) refl m) in
    by_opcode i parts
    (also (λ e. extract_dynamic_needs insts h.unbroken i h.whole e body.vectors body.vector_results)
    (also (λ e. insert_dynamic_needs insts i h.whole e body.vectors body.vector_results)
    (also (λ e. shuffle_needs insts i h.whole e body.vectors body.vector_results)
    (also (λ e. construct_needs insts i h.whole e body.composites body.composite_results)
    (also (λ e. extract_needs insts h.unbroken i h.whole e body.composites body.composite_results)
    (also (λ e. insert_needs insts i h.whole e body.composites body.composite_results)
    (also (λ e. copy_needs insts i h.whole e body.composites body.composite_results)
    (also (λ e. copy_logical_needs insts h.unbroken i h.whole e body.composites) tt)))))))) m

pub memory_need : (insts : List Instruction) (k : ℕ) (i : Instruction) → Known insts k i → is_one_of memory (opcode i) ≡ true → NeedsFree insts i
memory_need insts k i h m =
    let body = inner_body insts k i h (one_passes (is_one_of inner) memory (opcode i) refl m) in
    by_opcode i memory
    (also (λ e. memories.load_needs insts i h.whole e body.memory body.memory_results)
    (also (λ e. memories.store_needs insts i h.whole e body.memory)
    (also (λ e. memories.length_needs insts i h.whole e body.memory body.memory_results)
    (also (λ e. memories.control_barrier_needs insts i h.whole e body.ordering)
    (also (λ e. memories.memory_barrier_needs insts i h.whole e body.ordering)
    (also (λ e. memories.atomic_store_needs insts i h.whole e body.atomics body.ordering)
    (also (λ e. memories.exchange_needs insts i h.whole e body.atomics body.atomic_results body.ordering) tt))))))) m

pub chains_need : (insts : List Instruction) (k : ℕ) (i : Instruction) → Known insts k i → is_one_of memories.chains (opcode i) ≡ true → NeedsFree insts i
chains_need insts k i h m =
    let body = inner_body insts k i h (one_passes (is_one_of inner) memories.chains (opcode i) refl m) in
    memories.chain_needs insts i h.whole m body.memory body.memory_results

pub atomics_need : (insts : List Instruction) (k : ℕ) (i : Instruction) → Known insts k i → is_one_of atomics (opcode i) ≡ true → NeedsFree insts i
atomics_need insts k i h m =
    let body = inner_body insts k i h (one_passes (is_one_of inner) atomics (opcode i) refl m) in
    memories.atomic_needs insts i h.whole m body.atomics body.atomic_results body.ordering
