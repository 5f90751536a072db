use Rattle.spv_parse.proofs.Admitted.{read_laid_out}
use Rattle.function_tests.proofs.parse.module.Goals as goal

pub returns-in-Ok : goal.returns-in-Ok
returns-in-Ok c = read_laid_out _ c.in-Ok.flat c.in-Ok.ensures.answer
