use Rattle.std.proofs.Common.{refl, ap, Some, arith}
use Rattle.spv_types.proofs.CompositeLemmas.{small_words}
use Rattle.spv_types.proofs.composites.small.Goals as goal

pub returns-clause-words : goal.returns-clause-words
returns-clause-words c = λ table t small. small_words table t c.args.operand _ refl (ap Some c.from.ensures) (omega arith) small
