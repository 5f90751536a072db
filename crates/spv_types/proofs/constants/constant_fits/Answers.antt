use Rattle.std.proofs.Common.{◌≡◌, ℕ, List, true, sym, ap, subst, ◌∙◌}
use Rattle.std.specs.Prelude.{not}
use Rattle.std.specs.List.{list_all, slice_index}
use Rattle.spv_module.specs.View.{seen}
use Rattle.spv_typing.specs.Kinds.{is_one_of, is_array, is_spec, length_id}
use Rattle.spv_declarations.specs.Constants.{composite_fits}
use Rattle.spv_types.specs.Steps.{IsLength, composites}
use Rattle.spv_types.proofs.ConstantRules.{composite-specialised, composite-known, composite-other}
use Rattle.spv_types.proofs.constants.constant_fits.Goals as goal

pub returns-in-51 : goal.returns-in-51
returns-in-51 c = λ d h is.
    composite-specialised c.args.kinds.now d (seen c.args.inst.now) c.composite_fits.result (sym c.opcode.ensures ∙ c.in-51.is)
    (c.composite_fits.ensures d h (subst (λ (t : ℕ). is_array c.args.kinds.now t ≡ true → IsLength c.args.kinds.now d.table (length_id c.args.kinds.now t)) (sym c.word-t.ensures) (is (ap (is_one_of composites) (sym c.opcode.ensures ∙ c.in-51.is))))
    ∙ ap (λ (t : ℕ). composite_fits c.args.kinds.now d t c.words_from-in-51.result.now) c.word-t.ensures
    ∙ ap (λ (ids : List ℕ). composite_fits c.args.kinds.now d (slice_index (seen c.args.inst.now).words 1) ids) c.words_from-in-51.ensures)

pub returns-then-composite_fits : goal.returns-then-composite_fits
returns-then-composite_fits c = λ d h is.
    composite-known c.args.kinds.now d (seen c.args.inst.now) c.composite_fits-in-44.result c.none_spec.result (sym c.opcode.ensures ∙ c.in-44.is)
    (c.composite_fits-in-44.ensures d h (subst (λ (t : ℕ). is_array c.args.kinds.now t ≡ true → IsLength c.args.kinds.now d.table (length_id c.args.kinds.now t)) (sym c.word-t.ensures) (is (ap (is_one_of composites) (sym c.opcode.ensures ∙ c.in-44.is))))
    ∙ ap (λ (t : ℕ). composite_fits c.args.kinds.now d t c.words_from-in-44.result.now) c.word-t.ensures
    ∙ ap (λ (ids : List ℕ). composite_fits c.args.kinds.now d (slice_index (seen c.args.inst.now).words 1) ids) c.words_from-in-44.ensures)
    c.if-composite_fits.true
    (c.none_spec.ensures ∙ ap (λ (ids : List ℕ). list_all (λ id. not (is_spec c.args.kinds.now id)) ids) c.words_from-then-composite_fits.ensures)

pub returns-else-composite_fits : goal.returns-else-composite_fits
returns-else-composite_fits c = λ d h is.
    composite-other c.args.kinds.now d (seen c.args.inst.now) c.composite_fits-in-44.result (sym c.opcode.ensures ∙ c.in-44.is)
    (c.composite_fits-in-44.ensures d h (subst (λ (t : ℕ). is_array c.args.kinds.now t ≡ true → IsLength c.args.kinds.now d.table (length_id c.args.kinds.now t)) (sym c.word-t.ensures) (is (ap (is_one_of composites) (sym c.opcode.ensures ∙ c.in-44.is))))
    ∙ ap (λ (t : ℕ). composite_fits c.args.kinds.now d t c.words_from-in-44.result.now) c.word-t.ensures
    ∙ ap (λ (ids : List ℕ). composite_fits c.args.kinds.now d (slice_index (seen c.args.inst.now).words 1) ids) c.words_from-in-44.ensures)
    c.if-composite_fits.false
