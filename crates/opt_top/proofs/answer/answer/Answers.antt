use Rattle.std.proofs.Common.{◌∙◌, ap, Err}
use Rattle.std.proofs.lemmas.Result.{err_from_is_err_and}
use Rattle.opt_top.proofs.Answering.{fails_alike, norm_written}
use Rattle.opt_top.proofs.Meaning.{output_means}
use Rattle.opt_top.proofs.answer.answer.Goals as goal

pub returns-in_err-norm-clause-answer : goal.returns-in_err-norm-clause-answer
returns-in_err-norm-clause-answer c =
    let fault = err_from_is_err_and c.from_residual.result c.from_residual.ensures.1 in
    fails_alike c.args.bytes.now c.in_err-norm.field-0.0 c.read_module.result c.from_residual.result c.in_err-norm.was
    (fault.1 ∙ ap Err fault.2) c.read_module.ensures.answer

pub returns-clause-answer : goal.returns-clause-answer
returns-clause-answer c =
    norm_written c.args.bytes.now c.in_ok-write_module.field-0 c.in_ok-norm.norm c.in_ok-norm.ensures.answer
    c.in_ok-write_module.ensures.bytes (c.stripped_means_same.ensures.module c.in_ok-norm.ensures.module.0 c.in_ok-norm.ensures.module.1)

pub returns-clause-means : goal.returns-clause-means
returns-clause-means c =
    let h = c.in_ok-norm.ensures.answer in
    output_means c.args.bytes.now h.words c.in_ok-write_module.field-0 c.in_ok-norm.norm h.read
    (c.in_ok-norm.ensures.means h.words h.read) c.stripped_means_same.ensures.same c.in_ok-write_module.ensures.reads_back
