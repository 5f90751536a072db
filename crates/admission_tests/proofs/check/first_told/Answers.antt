use Rattle.std.proofs.Common.{Option, subst}
use Rattle.std.specs.Option.{IfSome}
use Rattle.spv_module.specs.Code.{Code}
use Rattle.spv_parse.specs.Functions.{IsLaidOut}
use Rattle.admission_tests.proofs.check.first_told.Goals as goal

pub parse_all-requires-clause-declared : goal.parse_all-requires-clause-declared
parse_all-requires-clause-declared c =
    let laid = subst (λ (o : Option Code). IfSome o (λ code. IsLaidOut code.insts)) c.in-Some.is c.in_ok-flat.ensures.laid_out in
    record { end = laid.end; laid_out = laid.unbroken; declared = c.in-Ok.ensures.0 }
