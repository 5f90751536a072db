use Rattle.std.proofs.Common.{◌∙◌}
use Rattle.spv_parse.proofs.lengths.length_of.Goals as goal

pub returns : goal.returns
returns c = c.count_of.ensures ∙ c.args.inst.now.whole.counted
