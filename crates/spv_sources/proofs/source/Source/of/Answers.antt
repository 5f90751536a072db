use Rattle.std.proofs.Common.{ap, sym, ◌∙◌}
use Rattle.spv_blocks.specs.Blocks.{is_label}
use Rattle.spv_normal.specs.Lines.{without_marks}
use Rattle.spv_sources.proofs.Sources.{label_above}
use Rattle.spv_sources.proofs.source.Source.of.Goals as goal

pub stays_of-requires-clause-ids : goal.stays_of-requires-clause-ids
stays_of-requires-clause-ids c = λ l h. label_above (without_marks c.args.insts.now) c.requires.admitted.each l (ap (λ f. is_label f l) (sym c.requires.labels) ∙ h)
