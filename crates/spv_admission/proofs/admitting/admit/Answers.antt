use Rattle.std.proofs.Common.{◌≡◌, ◌∙◌, Err, List, ap}
use Rattle.std.proofs.lemmas.Result.{err_from_is_err_and}
use Rattle.spv_module.specs.Instruction.{Instruction}
use Rattle.spv_admission.proofs.Answering.{declarations_told, spelled_declared, spelled_rise, words_told}
use Rattle.spv_admission.proofs.admitting.admit.Goals as goal

pub returns-in_err-flat : goal.returns-in_err-flat
returns-in_err-flat c =
    let fault = err_from_is_err_and c.from_residual.result c.from_residual.ensures.1 in
    words_told c.args.words.now c.in_err-flat.field-0.0 c.decode.result c.from_residual.result c.in_err-flat.was (fault.1 ∙ ap Err fault.2)
    c.decode.ensures.answer

pub tables-requires : goal.tables-requires
tables-requires c = spelled_rise c.args.words.now c.in_ok-flat.flat c.requires.header.five c.in_ok-flat.ensures.answer.1

pub returns-in_err-tables : goal.returns-in_err-tables
returns-in_err-tables c =
    let fault = err_from_is_err_and c.from_residual-in_err-tables.result c.from_residual-in_err-tables.ensures.1 in
    declarations_told (λ (tables : List Instruction). tables ≡ c.in_ok-flat.flat.insts) c.args.words.now c.in_ok-flat.flat c.in_ok-flat.ensures.answer
    c.in_err-tables.field-0.0 c.tables.result c.from_residual-in_err-tables.result c.in_err-tables.was (fault.1 ∙ ap Err fault.2) c.tables.ensures

pub admit_declared-requires-clause-rises : goal.admit_declared-requires-clause-rises
admit_declared-requires-clause-rises c = spelled_rise c.args.words.now c.in_ok-flat.flat c.requires.header.five c.in_ok-flat.ensures.answer.1

pub returns : goal.returns
returns c =
    let words = c.args.words.now in
    let is = c.in_ok-flat.ensures.answer.1 in
    c.admit_declared.ensures words is (spelled_declared words c.in_ok-flat.flat is c.in_ok-flat.ensures.answer.0 c.in_ok-tables.ensures.0)
