use Rattle.spv_editing.proofs.Edits as edits
use Rattle.spv_editing.proofs.Kept as kept
use Rattle.spv_editing.proofs.laws.edited_law.Goals as goal

pub returns-clause-unchanged : goal.returns-clause-unchanged
returns-clause-unchanged c = edits.unchanged-function

pub returns-clause-twice : goal.returns-clause-twice
returns-clause-twice c = edits.twice-function

pub returns-clause-depth : goal.returns-clause-depth
returns-clause-depth c = kept.depth-kept

pub returns-clause-entered : goal.returns-clause-entered
returns-clause-entered c = kept.entered-kept

pub returns-clause-fronts : goal.returns-clause-fronts
returns-clause-fronts c = kept.fronts-kept

pub returns-clause-branches : goal.returns-clause-branches
returns-clause-branches c = kept.branches-in-kept
