use Rattle.std.proofs.Common.{sym, refl}
use Rattle.spv_types.proofs.OpcodeLemmas.{zeros_small, zeros_large}
use Rattle.spv_types.proofs.declared_constant.null.Goals as goal

pub returns-in-Some-clause-words : goal.returns-in-Some-clause-words
returns-in-Some-clause-words c = λ k i ready before closed.
    zeros_small c.args.kinds.now k i c.args.meanings.now.entries c.args.t c.in-Some.shape c.small_zeros.result c.small.result ready before (sym c.in-Some.ensures) c.small_zeros.ensures c.small.ensures.words

pub returns-in-None-clause-words : goal.returns-in-None-clause-words
returns-in-None-clause-words c = λ k i ready before closed.
    zeros_large c.args.kinds.now k i c.args.meanings.now.entries c.args.t _ c.type_facts.result ready before (sym c.in-None.ensures) closed (c.type_facts.ensures _ _ ready.stand) refl refl
