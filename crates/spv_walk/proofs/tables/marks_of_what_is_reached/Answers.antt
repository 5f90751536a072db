use Rattle.spv_walk.specs.Tables.{IsDone}
use Rattle.spv_walk.proofs.Inside.{reach_begin, reach_turn, reach_end, reach_cases}
use Rattle.spv_walk.proofs.tables.marks_of_what_is_reached.Goals as goal

pub returns-clause-begins : goal.returns-clause-begins
returns-clause-begins c = λ f start marks done. reach_begin f (IsDone start) (IsDone marks) (IsDone done)

pub returns-clause-turn : goal.returns-clause-turn
returns-clause-turn c = λ f start marks marks2 done done2 b. reach_turn f (IsDone start) (IsDone marks) (IsDone marks2) (IsDone done) (IsDone done2) b

pub returns-clause-ends : goal.returns-clause-ends
returns-clause-ends c = λ f start marks done t d. record { sound = t.sound; whole = reach_end f (IsDone start) (IsDone marks) (IsDone done) t d }

pub returns-clause-cases : goal.returns-clause-cases
returns-clause-cases c = reach_cases
