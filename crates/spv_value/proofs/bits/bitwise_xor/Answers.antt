use Rattle.std.proofs.Common.{sym}
use Rattle.spv_value.proofs.BitLists.{bitwise_xor_is}
use Rattle.spv_value.specs.Bits.{bitwise_xor}
use Rattle.spv_value.proofs.bits.bitwise_xor.Goals as goal

pub returns : goal.returns
unfolding bitwise_xor
returns c = sym (bitwise_xor_is 32 c.args.a c.args.b c.ranges.a.fits c.ranges.b.fits)
