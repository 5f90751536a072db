use Rattle.std.proofs.Common.{◌∙◌, sym}
use Rattle.std.proofs.lemmas.Bool.{false≢true}
use Rattle.spv_value.specs.Words.{operands}
use Rattle.spv_folding.proofs.Forms.{form_can_eval, eval_few}
use Rattle.spv_types.proofs.SuitLemmas.{suit_sound, suit_passes}
use Rattle.spv_types.proofs.evaluation.evaluate_suited.Goals as goal

pub evaluate-requires-clause-suited : goal.evaluate-requires-clause-suited
evaluate-requires-clause-suited c =
    let h = suit_sound c.args.form c.args.input.now (sym c.operands_suit.ensures ∙ c.if-operands_suit.true) in
    form_can_eval c.args.opcode c.args.form h.0 (operands c.args.input.now) c.requires h.1

pub evaluate-requires-clause-few : goal.evaluate-requires-clause-few
evaluate-requires-clause-few c =
    let h = suit_sound c.args.form c.args.input.now (sym c.operands_suit.ensures ∙ c.if-operands_suit.true) in
    eval_few c.args.opcode c.args.form h.0 (operands c.args.input.now) c.requires h.1

pub returns-else-operands_suit : goal.returns-else-operands_suit
returns-else-operands_suit c = λ n h.
    absurd (false≢true (sym c.if-operands_suit.false ∙ c.operands_suit.ensures ∙ suit_passes c.args.opcode c.args.form n c.args.input.now c.requires h))
