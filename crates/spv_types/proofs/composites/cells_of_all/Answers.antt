use Rattle.std.proofs.Common.{◌∙◌, ap, sym}
use Rattle.spv_types.specs.Facts.{in_64_bits}
use Rattle.spv_types.proofs.CompositeLemmas.{length-next}
use Rattle.spv_types.proofs.composites.cells_of_all.Goals as goal

pub constituents-preserved : goal.constituents-preserved
constituents-preserved c = λ table specialised h.
    c.plus-cells.ensures _ _ (c.constituents.invariant table specialised h) (c.cells_of.ensures table specialised h)
    ∙ ap in_64_bits (sym (length-next table c.args.ids.now c.constituents.id-index c.constituents-test.true))
