use Rattle.std.proofs.Common.{ap, ◌∙◌, sym, arith, pos, unsigned_abs}
use Rattle.spv_value.proofs.Readings.{reading, signed_low, wrapped_whole}
use Rattle.spv_value.specs.Numbers.{signed}
use Rattle.spv_value.specs.Ext.{s_abs}
use Rattle.spv_value.proofs.ext.s_abs.Goals as goal

pub returns : goal.returns
unfolding s_abs
returns c =
    c.unsigned_abs.ensures.value ∙ ap unsigned_abs (reading c.args.a _ c.ranges.a.fits c.cast_signed.ensures)
    ∙ sym (wrapped_whole (pos (unsigned_abs (signed 32 c.args.a))) (omega (arith, signed_low c.args.a c.ranges.a.fits)))
