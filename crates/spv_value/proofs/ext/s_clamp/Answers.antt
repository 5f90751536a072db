use Rattle.std.proofs.Common.{ap₂, ◌∙◌}
use Rattle.std.specs.Int.{int_min, int_max}
use Rattle.spv_value.proofs.Readings.{reading, passed, written_fits}
use Rattle.spv_value.specs.Ext.{s_clamp}
use Rattle.spv_value.proofs.ext.s_clamp.Goals as goal

pub returns : goal.returns
unfolding s_clamp
returns c =
    let a = reading c.args.a _ c.ranges.a.fits c.cast_signed.ensures in
    let low = reading c.args.low _ c.ranges.low.fits c.cast_signed-2.ensures in
    let high = reading c.args.high _ c.ranges.high.fits c.cast_signed-3.ensures in
    let raised = passed c.max.result _ c.max.type_inv (c.max.ensures.value ∙ ap₂ int_max a low) in
    written_fits c.min.result _ _ c.min.type_inv (c.min.ensures.value ∙ ap₂ int_min raised high) c.cast_unsigned.ensures
