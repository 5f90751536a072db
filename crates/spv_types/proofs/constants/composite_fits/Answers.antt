use Rattle.std.proofs.Common.{sym, ap, subst, ◌∙◌}
use Rattle.std.specs.Prelude.{length, ℕ}
use Rattle.std.specs.List.{list_all}
use Rattle.spv_typing.specs.Kinds.{has_type}
use Rattle.spv_declarations.specs.Constants.{has_length}
use Rattle.spv_types.specs.Steps.{IsLength}
use Rattle.spv_types.proofs.ConstantRules.{array_fits-length, array_fits-none}
use Rattle.spv_types.proofs.constants.composite_fits.Goals as goal

pub returns-then-has_length : goal.returns-then-has_length
returns-then-has_length c = λ d h is.
    let array = sym c.is_array.ensures ∙ c.if-is_array.true in
    array_fits-length c.args.kinds.now d c.args.t c.args.ids.now c.has_length.result c.all_of_type-then-has_length.result
    (sym c.is_vector.ensures ∙ c.if-is_vector.false) array
    (c.has_length.ensures d h (subst (λ (n : ℕ). IsLength c.args.kinds.now d.table n) (sym c.length_id.ensures) (is array))
    ∙ ap (λ (n : ℕ). has_length d n (length c.args.ids.now)) c.length_id.ensures)
    c.if-has_length.true
    (c.all_of_type-then-has_length.ensures ∙ ap (λ (t : ℕ). list_all (has_type c.args.kinds.now t) c.args.ids.now) c.element.ensures)

pub returns-else-has_length : goal.returns-else-has_length
returns-else-has_length c = λ d h is.
    let array = sym c.is_array.ensures ∙ c.if-is_array.true in
    array_fits-none c.args.kinds.now d c.args.t c.args.ids.now c.has_length.result
    (sym c.is_vector.ensures ∙ c.if-is_vector.false) array
    (c.has_length.ensures d h (subst (λ (n : ℕ). IsLength c.args.kinds.now d.table n) (sym c.length_id.ensures) (is array))
    ∙ ap (λ (n : ℕ). has_length d n (length c.args.ids.now)) c.length_id.ensures)
    c.if-has_length.false
