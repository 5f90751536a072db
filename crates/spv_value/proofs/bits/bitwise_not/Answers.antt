use Rattle.spv_value.proofs.Readings.{wrapped_not}
use Rattle.spv_value.specs.Bits.{bitwise_not}
use Rattle.spv_value.proofs.bits.bitwise_not.Goals as goal

pub returns : goal.returns
unfolding bitwise_not
returns c = wrapped_not c.args.a c.ranges.a.fits
