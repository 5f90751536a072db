use Rattle.spv_walk.proofs.Inside as inside
use Rattle.spv_walk.proofs.tables.counted_branches.Goals as goal

pub returns-clause-begins : goal.returns-clause-begins
returns-clause-begins c = inside.left_begins

pub returns-clause-turn : goal.returns-clause-turn
returns-clause-turn c = inside.left_turns

pub returns-clause-ends : goal.returns-clause-ends
returns-clause-ends c = inside.left_ends

pub returns-clause-enters : goal.returns-clause-enters
returns-clause-enters c = inside.enters_from_list

pub returns-clause-lone_enters : goal.returns-clause-lone_enters
returns-clause-lone_enters c = inside.lone_enters

pub returns-clause-enters_lone : goal.returns-clause-enters_lone
returns-clause-enters_lone c = inside.enters_lone
