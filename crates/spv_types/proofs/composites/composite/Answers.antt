use Rattle.std.proofs.Common.{sym, ◌∙◌}
use Rattle.spv_types.proofs.CompositeLemmas.{vector_words, if_ok}
use Rattle.spv_types.proofs.PartLemmas.{parts_words}
use Rattle.spv_types.proofs.composites.composite.Goals as goal

pub returns-then-is_vector-clause-words : goal.returns-then-is_vector-clause-words
returns-then-is_vector-clause-words c = λ k i ready before known fits.
    vector_words c.args.kinds.now k i _ c.args.t c.args.ids.now c.vector_of.result c.small.result ready before (sym c.is_vector.ensures ∙ c.if-is_vector.true) known fits
    (c.vector_of.ensures _ _ ready.stand) (c.small.ensures.words _ _)

pub returns-else-is_vector-clause-words : goal.returns-else-is_vector-clause-words
returns-else-is_vector-clause-words c =
    if_ok _ _ c.parts.result
    (λ constant has k i ready before known fits.
    parts_words c.args.kinds.now k i _ c.args.t c.args.ids.now constant ready before (sym c.is_vector.ensures ∙ c.if-is_vector.false) known fits (has _ _ ready.stand))
    c.parts.ensures.constituents
