use Rattle.std.proofs.Common.{◌∙◌, ap₂, ◌*ℤ◌, to_z, of_z}
use Rattle.std.specs.Int.{w64}
use Rattle.std.proofs.lemmas.Int.{to_z-of_z}
use Rattle.spv_value.proofs.Readings.{reading, wide, product_fits}
use Rattle.spv_value.specs.Numbers.{signed}
use Rattle.spv_value.proofs.arith.signed_product.Goals as goal

pub returns : goal.returns
returns c =
    let a = wide c.args.a c.from.result c.ranges.a.fits (c.from.ensures ∙ reading c.args.a _ c.ranges.a.fits c.cast_signed.ensures) in
    let b = wide c.args.b c.from-2.result c.ranges.b.fits (c.from-2.ensures ∙ reading c.args.b _ c.ranges.b.fits c.cast_signed-2.ensures) in
    ap₂ (λ x y. to_z w64 (of_z w64 (x *ℤ y))) a b
    ∙ to_z-of_z w64 (signed 32 c.args.a *ℤ signed 32 c.args.b) (product_fits c.args.a c.args.b c.ranges.a.fits c.ranges.b.fits)
