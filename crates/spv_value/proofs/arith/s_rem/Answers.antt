use Rattle.std.proofs.Common.{◌∙◌, sym, ap₂, int_rem}
use Rattle.spv_value.proofs.Readings.{reading, s_rem_is, written_fits}
use Rattle.spv_value.specs.Numbers.{signed}
use Rattle.spv_value.proofs.arith.s_rem.Goals as goal

pub returns : goal.returns
returns c =
    let a = reading c.args.a _ c.ranges.a.fits c.cast_signed.ensures in
    let b = reading c.args.b _ c.ranges.b.fits c.cast_signed-2.ensures in
    written_fits _ (int_rem (signed 32 c.args.a) (signed 32 c.args.b)) _ c.wrapping_rem.type_inv (c.wrapping_rem.ensures ∙ ap₂ int_rem a b) c.cast_unsigned.ensures
    ∙ sym (s_rem_is 32 c.args.a c.args.b c.if-b-eq0.false)
