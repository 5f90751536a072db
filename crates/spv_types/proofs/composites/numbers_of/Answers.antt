use Rattle.spv_types.proofs.PartLemmas.{no_parts, parts-next}
use Rattle.spv_types.proofs.composites.numbers_of.Goals as goal

pub constituents-init : goal.constituents-init
constituents-init c = λ table specialised h. no_parts table c.new-numbers.result.items c.new-numbers.ensures.items

pub constituents-preserved : goal.constituents-preserved
constituents-preserved c = λ table specialised h.
    parts-next table c.args.ids.now c.constituents.id-index c.constituents.numbers.items c.add_number.new.numbers.items c.constituents-test.true (c.constituents.invariant table specialised h)
    (c.in_ok-add_number.ensures table specialised h)
