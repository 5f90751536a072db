use Rattle.spv_composites.proofs.MatchLemmas as matches
use Rattle.spv_composites.proofs.laws.matches_law.Goals as goal

pub returns-clause-plains : goal.returns-clause-plains
returns-clause-plains c = matches.plains_match

pub returns-clause-arrays : goal.returns-clause-arrays
returns-clause-arrays c = matches.arrays_match

pub returns-clause-structs : goal.returns-clause-structs
returns-clause-structs c = matches.structs_match

pub returns-clause-others : goal.returns-clause-others
returns-clause-others c = matches.others_differ
