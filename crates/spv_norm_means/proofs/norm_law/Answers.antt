use Rattle.spv_norm_means.proofs.Cut as cut
use Rattle.spv_norm_means.proofs.StandAlike as alike
use Rattle.spv_norm_means.proofs.Whole as whole
use Rattle.spv_norm_means.proofs.norm_law.Goals as goal

pub returns-clause-alike : goal.returns-clause-alike
returns-clause-alike c = alike.stand_alike

pub returns-clause-cut : goal.returns-clause-cut
returns-clause-cut c = cut.cut_keeps

pub returns-clause-once : goal.returns-clause-once
returns-clause-once c = whole.norm_keeps_once

pub returns-clause-norm : goal.returns-clause-norm
returns-clause-norm c = whole.norm_keeps

pub returns-clause-finals : goal.returns-clause-finals
returns-clause-finals c = whole.norm_finals
