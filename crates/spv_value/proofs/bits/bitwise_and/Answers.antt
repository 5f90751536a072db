use Rattle.std.proofs.Common.{sym}
use Rattle.spv_value.proofs.BitLists.{bitwise_and_is}
use Rattle.spv_value.specs.Bits.{bitwise_and}
use Rattle.spv_value.proofs.bits.bitwise_and.Goals as goal

pub returns : goal.returns
unfolding bitwise_and
returns c = sym (bitwise_and_is 32 c.args.a c.args.b c.ranges.a.fits c.ranges.b.fits)
