use Rattle.std.proofs.Common.{length, refl, arith}
use Rattle.std.proofs.lemmas.Option.{slice_get_read}
use Rattle.spv_blocks.proofs.PlaceSteps.{body-more}
use Rattle.spv_blocks.proofs.counting.add_names_of.Goals as goal

pub instructions-preserved : goal.instructions-preserved
instructions-preserved c =
    let k = c.instructions.inst-index in
    body-more c.args.counts.now c.instructions.counts c.add_names.new.counts c.args.body.now k c.inst-item.result
    (slice_get_read c.args.body.now (length c.args.body.now) k c.inst-item.result refl (omega arith) c.inst-item.is) c.instructions.invariant c.in_ok-add_names.ensures
