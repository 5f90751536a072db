use Rattle.std.proofs.Common.{◌∙◌, length, ap, arith}
use Rattle.std.proofs.Math.ListN.{length-set}
use Rattle.spv_value.specs.Words.{words_of}
use Rattle.spv_folding.proofs.Shuffling.{filled_more, filled_all}
use Rattle.spv_types.proofs.CompositeLemmas.{first_of, scalars-composed, scalar-small}
use Rattle.spv_types.proofs.composites.vector_of.Goals as goal

pub constituents-preserved : goal.constituents-preserved
constituents-preserved c = record {
  few = omega (arith, ap length c.with_component-vector.ensures ∙ length-set (words_of c.constituents.vector) c.constituents.i c.first_word.result, c.constituents.invariant.few);
  filled_so_far = λ table specialised h short scalars.
      filled_more (first_of table) c.args.ids.now _ _ c.constituents.i _ (c.constituents.invariant.filled_so_far table specialised h short scalars)
      (c.first_word.ensures table specialised h (scalar-small table c.args.ids.now c.constituents.i (omega arith) scalars)) c.with_component-vector.ensures (omega arith);
}

pub returns : goal.returns
returns c = λ table specialised h short scalars.
    c.constituents.invariant.filled_so_far table specialised h short scalars ∙ filled_all (first_of table) c.args.ids.now c.constituents.i (omega arith) ∙ scalars-composed table c.args.ids.now scalars
