use Rattle.std.proofs.Common.{sym}
use Rattle.spv_value.proofs.BitLists.{sum-bits_of}
use Rattle.spv_value.specs.Bits.{bit_count}
use Rattle.spv_value.proofs.bits.bit_count.Goals as goal

pub returns : goal.returns
unfolding bit_count
returns c = sym (sum-bits_of 32 c.args.a c.ranges.a.fits)
