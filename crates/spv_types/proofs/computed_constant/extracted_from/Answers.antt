use Rattle.spv_types.proofs.ExtractLemmas.{extracted-number, extracted-none}
use Rattle.spv_types.proofs.computed_constant.extracted_from.Goals as goal

pub returns-in-Some : goal.returns-in-Some
returns-in-Some c = λ table specialised t h composed small same few.
    extracted-number table c.args.meanings.now.entries t c.args.composite c.in-Some.number c.args.literals.now c.part_along.result composed (c.in-Some.ensures.found table specialised h)
    (λ u part led. c.part_along.ensures table specialised t u h composed part led small same few)

pub returns-in-None : goal.returns-in-None
returns-in-None c = λ table specialised t h composed small same few.
    extracted-none table t c.args.composite c.args.literals.now c.zeros.result (c.in-None.ensures.absent table specialised h)
