use Rattle.std.proofs.Common.{◌≡◌, ◌∙◌, sym, ap, Some}
use Rattle.std.proofs.lemmas.Option.{none-some}
use Rattle.spv_module.specs.View.{seen}
use Rattle.spv_typing.specs.Operations.{form_of}
use Rattle.spv_types.proofs.FormLemmas.{operation_words, some_form, no_long_opcode}
use Rattle.spv_types.proofs.computed_constant.computed_constant.Goals as goal

pub returns-in_default : goal.returns-in_default
returns-in_default c = λ k t words ready is_o e.
    let f = some_form c.args.kinds.now k (seen c.args.inst.now) c.args.meanings.now.entries ready is_o in
    absurd (no_long_opcode _ c.word.result f.0 f.1 c.word.ensures c.in_default.ensures)

pub returns-in-Some : goal.returns-in-Some
returns-in-Some c = λ k t words ready is_o e.
    let is : form_of c.in-Ok.opcode ≡ Some c.in-Some.form = ap form_of (sym c.from.ensures) ∙ sym c.form_of.ensures ∙ c.in-Some.is in
    operation_words c.args.kinds.now k (seen c.args.inst.now) c.args.meanings.now.entries ready is_o t words e c.in-Some.form c.by_form.result c.in-Ok.opcode c.word-in-Some.result c.words_from.result.now is
    (c.in-Ok.ensures.1 ∙ c.word.ensures) c.word-in-Some.ensures c.words_from.ensures
    (λ before fits known. c.by_form.ensures k (seen c.args.inst.now) ready before fits known)

pub returns-in-None : goal.returns-in-None
returns-in-None c = λ k t words ready is_o e.
    let f = some_form c.args.kinds.now k (seen c.args.inst.now) c.args.meanings.now.entries ready is_o in
    absurd (none-some f.0 (sym c.in-None.is ∙ c.form_of.ensures ∙ ap form_of (c.from.ensures ∙ c.in-Ok.ensures.1 ∙ c.word.ensures) ∙ f.1))
