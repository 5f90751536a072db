use Rattle.std.proofs.Common.{get_or, arith}
use Rattle.spv_entering.proofs.Passing.{place-has}
use Rattle.spv_entering.proofs.Falling.{only-several}
use Rattle.spv_entering.proofs.cases.only_of.Goals as goal

pub returns-in_default-2 : goal.returns-in_default-2
returns-in_default-2 c = λ b o. only-several c.args.list.now (get_or c.args.list.now 0 0) (place-has c.args.list.now 0 (omega arith)) c.if-not-has_other.ensures b o
