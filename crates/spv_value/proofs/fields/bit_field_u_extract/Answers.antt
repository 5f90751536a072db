use Rattle.std.proofs.Common.{◌∙◌, ap₂, arith, bit_and}
use Rattle.spv_value.proofs.FieldLists.{taken, u_extract_is, past_u_extract}
use Rattle.spv_value.proofs.fields.bit_field_u_extract.Goals as goal

pub returns-then-saturating_add-gt-BITS : goal.returns-then-saturating_add-gt-BITS
returns-then-saturating_add-gt-BITS c =
    past_u_extract c.args.base c.args.offset c.args.count (omega (arith, c.if-saturating_add-gt-BITS.true, c.saturating_add.ensures))

pub returns : goal.returns
returns c =
    ap₂ bit_and c.unbounded_shr.ensures c.low_ones.ensures
    ∙ taken c.args.base c.args.offset c.args.count c.ranges.base.fits
    ∙ u_extract_is c.args.base c.args.offset c.args.count (omega (arith, c.if-saturating_add-gt-BITS.false, c.saturating_add.ensures))
