use Rattle.std.proofs.Common.{ap, ◌∙◌}
use Rattle.std.specs.Int.{int_signum}
use Rattle.spv_value.proofs.Readings.{reading, written_fits}
use Rattle.spv_value.specs.Ext.{s_sign}
use Rattle.spv_value.proofs.ext.s_sign.Goals as goal

pub returns : goal.returns
unfolding s_sign
returns c =
    let a = reading c.args.a _ c.ranges.a.fits c.cast_signed.ensures in
    written_fits c.signum.result _ _ c.signum.type_inv (c.signum.ensures.value ∙ ap int_signum a) c.cast_unsigned.ensures
