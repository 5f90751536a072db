use Rattle.spv_texts.proofs.Marks.{blocks_without_marks}
use Rattle.spv_texts.proofs.marks_law.Goals as goal

pub returns : goal.returns
returns c = blocks_without_marks
