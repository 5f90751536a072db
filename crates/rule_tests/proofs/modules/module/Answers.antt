use Rattle.std.proofs.Common.{ap, arith}
use Rattle.spv_module.specs.Code.{Code}
use Rattle.rule_tests.proofs.Rising.{cut_rises}
use Rattle.rule_tests.proofs.modules.module.Goals as goal

pub returns-in-Ok : goal.returns-in-Ok
returns-in-Ok c = cut_rises c.args.words.now c.in-Ok.flat.insts (omega arith) (ap (λ (code : Code). code.insts) c.in-Ok.ensures.answer.1)
