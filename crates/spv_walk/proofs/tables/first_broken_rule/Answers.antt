use Rattle.spv_walk.specs.Walked.{InPlaces}
use Rattle.spv_walk.proofs.Least.{first_of_list, first_of_two, first_by_tables}
use Rattle.spv_walk.proofs.tables.first_broken_rule.Goals as goal

pub returns-clause-by_tables : goal.returns-clause-by_tables
returns-clause-by_tables c = λ p f enterer ends place. first_by_tables p f enterer ends (InPlaces place)

pub returns-clause-of_list : goal.returns-clause-of_list
returns-clause-of_list c = first_of_list

pub returns-clause-of_two : goal.returns-clause-of_two
returns-clause-of_two c = λ bs cs. first_of_two bs cs (first_of_list bs) (first_of_list cs)
