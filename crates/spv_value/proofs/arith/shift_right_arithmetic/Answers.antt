use Rattle.std.proofs.Common.{◌∙◌, sym, ap, arith, ◌^◌}
use Rattle.std.specs.Int.Signed.{shr_z}
use Rattle.spv_value.proofs.Readings.{reading, written, int_shr_is, abs_div_down, signed_low, shift_is}
use Rattle.spv_value.specs.Numbers.{signed, div_down}
use Rattle.spv_value.proofs.arith.shift_right_arithmetic.Goals as goal

pub returns : goal.returns
returns c =
    let base = reading c.args.base _ c.ranges.base.fits c.cast_signed.ensures in
    written _ (div_down (signed 32 c.args.base) (2 ^ c.args.amount)) _
    (omega (arith, abs_div_down (signed 32 c.args.base) (2 ^ c.args.amount), signed_low c.args.base c.ranges.base.fits))
    (ap (λ z. shr_z z (2 ^ c.args.amount)) base ∙ int_shr_is (signed 32 c.args.base) c.args.amount) c.cast_unsigned.ensures
    ∙ sym (shift_is 32 c.args.base c.args.amount c.if-amount-ge-BITS.false)
