use Rattle.std.proofs.Common.{◌∙◌, ap₂, int_le}
use Rattle.std.specs.Int.{from_bool}
use Rattle.spv_value.proofs.Readings.{reading}
use Rattle.spv_value.specs.Compare.{s_greater_than_equal}
use Rattle.spv_value.proofs.compare.s_greater_than_equal.Goals as goal

pub returns : goal.returns
unfolding s_greater_than_equal
returns c =
    c.from.ensures
    ∙ ap₂ (λ x y. from_bool (int_le y x)) (reading c.args.a _ c.ranges.a.fits c.cast_signed.ensures) (reading c.args.b _ c.ranges.b.fits c.cast_signed-2.ensures)
