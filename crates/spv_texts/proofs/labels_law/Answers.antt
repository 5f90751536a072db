use Rattle.spv_texts.proofs.Labels as labels
use Rattle.spv_texts.proofs.labels_law.Goals as goal

pub returns-clause-once : goal.returns-clause-once
returns-clause-once c = labels.unbroken_defines_once

pub returns-clause-own : goal.returns-clause-own
returns-clause-own c = labels.labels_are_own
