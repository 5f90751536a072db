use Rattle.std.proofs.Common.{◌∙◌}
use Rattle.spv_value.proofs.FieldLists.{low_ones_is}
use Rattle.spv_value.proofs.fields.low_ones.Goals as goal

pub returns : goal.returns
returns c = c.unbounded_shr.ensures ∙ low_ones_is c.args.count c.requires
