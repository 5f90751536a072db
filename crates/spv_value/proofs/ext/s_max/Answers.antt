use Rattle.std.proofs.Common.{ap₂, ◌∙◌}
use Rattle.std.specs.Int.{int_max}
use Rattle.spv_value.proofs.Readings.{reading, written_fits}
use Rattle.spv_value.specs.Ext.{s_max}
use Rattle.spv_value.proofs.ext.s_max.Goals as goal

pub returns : goal.returns
unfolding s_max
returns c =
    let a = reading c.args.a _ c.ranges.a.fits c.cast_signed.ensures in
    let b = reading c.args.b _ c.ranges.b.fits c.cast_signed-2.ensures in
    written_fits c.max.result _ _ c.max.type_inv (c.max.ensures.value ∙ ap₂ int_max a b) c.cast_unsigned.ensures
