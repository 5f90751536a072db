use Rattle.std.proofs.Common.{◌∙◌, arith}
use Rattle.spv_value.proofs.BitLists.{reverse_bits_is}
use Rattle.spv_value.specs.Bits.{bit_reverse}
use Rattle.spv_value.proofs.bits.bit_reverse.Goals as goal

pub returns : goal.returns
unfolding bit_reverse
returns c = c.reverse_bits.ensures ∙ reverse_bits_is 32 c.args.a 0 ∙ omega arith
