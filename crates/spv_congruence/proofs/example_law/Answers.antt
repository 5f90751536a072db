use Rattle.spv_congruence.proofs.InPlace as place
use Rattle.spv_congruence.proofs.Once as once
use Rattle.spv_congruence.proofs.Example as laws
use Rattle.spv_congruence.proofs.example_law.Goals as goal

pub returns-clause-local : goal.returns-clause-local
returns-clause-local c = laws.example_law

pub returns-clause-keeps : goal.returns-clause-keeps
returns-clause-keeps c = laws.example_keeps

pub returns-clause-once_local : goal.returns-clause-once_local
returns-clause-once_local c = once.once_law

pub returns-clause-once_keeps : goal.returns-clause-once_keeps
returns-clause-once_keeps c = once.once_keeps

pub returns-clause-place_local : goal.returns-clause-place_local
returns-clause-place_local c = place.place_law

pub returns-clause-place_keeps : goal.returns-clause-place_keeps
returns-clause-place_keeps c = place.place_keeps
