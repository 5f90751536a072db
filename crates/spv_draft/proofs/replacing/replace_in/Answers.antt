use Rattle.std.proofs.Common.{sym, ap, ◌∙◌}
use Rattle.spv_module.specs.View.{seen}
use Rattle.spv_draft.proofs.Replaced.{annotation_stays, one_of}
use Rattle.spv_draft.proofs.replacing.replace_in.Goals as goal

pub returns-then-is_annotation : goal.returns-then-is_annotation
returns-then-is_annotation c = λ i e.
    annotation_stays c.args.from c.args.to c.args.lines.now c.args.k i (seen c.at.result) e c.at.ensures (sym c.is_annotation.ensures ∙ c.if-is_annotation.true)
