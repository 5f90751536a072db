use Rattle.spv_spelling.proofs.SmallSpellings as small
use Rattle.spv_spelling.proofs.facts.facts_of_spelling.Goals as goal

pub returns-clause-joined : goal.returns-clause-joined
returns-clause-joined c = small.blocks_are_joined

pub returns-clause-selections : goal.returns-clause-selections
returns-clause-selections c = small.selections_are_spelled

pub returns-clause-switches : goal.returns-clause-switches
returns-clause-switches c = small.switches_are_spelled

pub returns-clause-loops : goal.returns-clause-loops
returns-clause-loops c = small.loops_are_spelled
