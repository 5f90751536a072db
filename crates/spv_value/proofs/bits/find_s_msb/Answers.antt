use Rattle.std.proofs.Common.{◌∙◌, sym, ap, int_lt, pos}
use Rattle.spv_value.proofs.Readings.{reading}
use Rattle.spv_value.proofs.Searches.{find_s_msb_negative, find_s_msb_other}
use Rattle.spv_value.proofs.bits.find_s_msb.Goals as goal

pub returns-then-cast_signed-lt0 : goal.returns-then-cast_signed-lt0
returns-then-cast_signed-lt0 c =
    c.find_u_msb.ensures
    ∙ find_s_msb_negative c.args.a c.ranges.a.fits
    (ap (λ z. int_lt z (pos 0)) (sym (reading c.args.a _ c.ranges.a.fits c.cast_signed.ensures)) ∙ c.if-cast_signed-lt0.true)

pub returns-else-cast_signed-lt0 : goal.returns-else-cast_signed-lt0
returns-else-cast_signed-lt0 c =
    c.find_u_msb-else-cast_signed-lt0.ensures
    ∙ find_s_msb_other c.args.a
    (ap (λ z. int_lt z (pos 0)) (sym (reading c.args.a _ c.ranges.a.fits c.cast_signed.ensures)) ∙ c.if-cast_signed-lt0.false)
