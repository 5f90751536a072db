use Rattle.std.proofs.Common.{sym}
use Rattle.spv_value.proofs.BitLists.{bitwise_or_is}
use Rattle.spv_value.specs.Bits.{bitwise_or}
use Rattle.spv_value.proofs.bits.bitwise_or.Goals as goal

pub returns : goal.returns
unfolding bitwise_or
returns c = sym (bitwise_or_is 32 c.args.a c.args.b c.ranges.a.fits c.ranges.b.fits)
