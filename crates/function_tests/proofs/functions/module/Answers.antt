use Rattle.std.proofs.Common.{ap, arith}
use Rattle.spv_module.specs.Code.{Code}
use Rattle.function_tests.proofs.Rising.{cut_rises}
use Rattle.function_tests.proofs.functions.module.Goals as goal

pub is_declared-requires : goal.is_declared-requires
is_declared-requires c =
    cut_rises c.args.words.now c.in-Ok.flat.insts (omega arith) (ap (λ (code : Code). code.insts) c.in-Ok.ensures.answer.1)
