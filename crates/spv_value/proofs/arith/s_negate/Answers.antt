use Rattle.std.proofs.Common.{sym, arith}
use Rattle.spv_value.proofs.Readings.{wrapped_neg}
use Rattle.spv_value.specs.Arith.{s_negate}
use Rattle.spv_value.proofs.arith.s_negate.Goals as goal

pub returns : goal.returns
unfolding s_negate
returns c = sym (wrapped_neg c.args.a (omega (arith, c.ranges.a.fits)))
