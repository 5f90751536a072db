use Rattle.std.proofs.Common.{◌∙◌, sym, ap, arith}
use Rattle.spv_value.proofs.BitLists.{lowest_is}
use Rattle.spv_value.proofs.Searches.{find_i_lsb_zero}
use Rattle.spv_value.specs.Bits.{find_i_lsb, place_word}
use Rattle.spv_value.proofs.bits.find_i_lsb.Goals as goal

pub returns-then-a-eq0 : goal.returns-then-a-eq0
returns-then-a-eq0 c = find_i_lsb_zero ∙ ap (find_i_lsb 32) (sym c.if-a-eq0.true)

pub returns-else-a-eq0 : goal.returns-else-a-eq0
unfolding find_i_lsb
returns-else-a-eq0 c = sym (ap (place_word 32) (lowest_is 32 c.args.a c.ranges.a.fits (omega (arith, c.if-a-eq0.false))))
