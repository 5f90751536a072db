use Rattle.spv_label_uses.proofs.Whole as whole
use Rattle.spv_label_uses.proofs.labels_law.Goals as goal

pub returns-clause-labels : goal.returns-clause-labels
returns-clause-labels c = whole.labels_are_no_values

pub returns-clause-strings : goal.returns-clause-strings
returns-clause-strings c = whole.strings_are_no_values
