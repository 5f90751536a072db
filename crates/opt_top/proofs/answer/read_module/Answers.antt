use Rattle.std.proofs.Common.{◌∙◌, sym, ap, Err, Ok, arith}
use Rattle.spv_base.specs.declared.header.Header.{Header}
use Rattle.std.proofs.lemmas.Result.{err_from_is_err_and}
use Rattle.opt_top.proofs.Answering.{bytes_refused, norm_bound, norm_is_whole, norm_means, words_admitted, words_refused}
use Rattle.opt_top.proofs.answer.read_module.Goals as goal

pub returns-in-Err-clause-answer : goal.returns-in-Err-clause-answer
returns-in-Err-clause-answer c = bytes_refused c.args.bytes.now c.in-Err.fault c.byte_fault.result c.in-Err.ensures.answer c.byte_fault.ensures

pub returns-in_err-norm-clause-answer : goal.returns-in_err-norm-clause-answer
returns-in_err-norm-clause-answer c =
    let fault = err_from_is_err_and c.from_residual.result c.from_residual.ensures.1 in
    words_refused c.args.bytes.now c.as_slice.result.now c.in_err-norm.field-0.0 c.admit.result c.from_residual.result
    (c.in-Ok.ensures.answer ∙ ap Ok (sym c.as_slice.ensures)) c.in_err-norm.was (fault.1 ∙ ap Err fault.2) c.admit.ensures

pub returns-clause-answer : goal.returns-clause-answer
returns-clause-answer c =
    words_admitted c.args.bytes.now c.as_slice.result.now c.in_ok-norm.norm (c.in-Ok.ensures.answer ∙ ap Ok (sym c.as_slice.ensures))
    c.in_ok-norm.ensures

pub returns-clause-means : goal.returns-clause-means
returns-clause-means c =
    norm_means c.args.bytes.now c.as_slice.result.now c.in_ok-norm.norm (c.in-Ok.ensures.answer ∙ ap Ok (sym c.as_slice.ensures))
    c.in_ok-norm.ensures

pub returns-clause-bound : goal.returns-clause-bound
returns-clause-bound c =
    let same = ap (λ (header : Header). header.bound) c.header-bound.ensures in
    norm_bound c.as_slice.result.now c.in_ok-norm.norm c.in_ok-norm.ensures (omega (arith, same, c.header-bound.type_inv))

pub returns-clause-module : goal.returns-clause-module
returns-clause-module c = norm_is_whole c.as_slice.result.now c.in_ok-norm.norm c.in_ok-norm.ensures
