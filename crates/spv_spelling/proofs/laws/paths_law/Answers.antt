use Rattle.spv_spelling.proofs.Paths as paths
use Rattle.spv_spelling.proofs.laws.paths_law.Goals as goal

pub returns-clause-walk_has_path : goal.returns-clause-walk_has_path
returns-clause-walk_has_path c = paths.path_of_walk

pub returns-clause-path_is_walked : goal.returns-clause-path_is_walked
returns-clause-path_is_walked c = paths.path_is_walked

pub returns-clause-one_parent : goal.returns-clause-one_parent
returns-clause-one_parent c = paths.one_parent

pub returns-clause-one_length : goal.returns-clause-one_length
returns-clause-one_length c = paths.one_length

pub returns-clause-short : goal.returns-clause-short
returns-clause-short c = paths.paths_are_short

pub returns-clause-apart : goal.returns-clause-apart
returns-clause-apart c = paths.parts_are_apart

pub returns-clause-not_behind_itself : goal.returns-clause-not_behind_itself
returns-clause-not_behind_itself c = paths.none_is_behind_itself
