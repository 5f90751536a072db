use Rattle.spv_walk.specs.Tables.{IsDone}
use Rattle.spv_walk.specs.Walked.{InPlaces}
use Rattle.spv_walk.proofs.Unique as unique
use Rattle.spv_walk.proofs.Steps.{step_walked, visited_placed, visited_known, visited_stays, walk_begins, walk_adds, walk_ends, target_steps}
use Rattle.spv_walk.proofs.Found as found
use Rattle.spv_walk.proofs.Walked.{walk_begin, walk_turn, walk_end, same_broken, back_edge_in, in_back_edge}
use Rattle.spv_walk.proofs.tables.tables_of_walked_blocks.Goals as goal

pub returns-clause-one_context : goal.returns-clause-one_context
returns-clause-one_context c = unique.one_context

pub returns-clause-begins : goal.returns-clause-begins
returns-clause-begins c = λ f place done. walk_begin f (InPlaces place) (IsDone done)

pub returns-clause-turn : goal.returns-clause-turn
returns-clause-turn c = λ f place place2 done done2 b. walk_turn f (InPlaces place) (InPlaces place2) (IsDone done) (IsDone done2) b

pub returns-clause-ends : goal.returns-clause-ends
returns-clause-ends c = λ f place done. walk_end f (InPlaces place) (IsDone done)

pub returns-clause-same_broken : goal.returns-clause-same_broken
returns-clause-same_broken c = λ p f place. same_broken p f (InPlaces place)

pub returns-clause-steps : goal.returns-clause-steps
returns-clause-steps c = λ f place place2 done done2 b. record {
  begins = walk_begins f (InPlaces place) (IsDone done) b (IsDone done2);
  walked = step_walked f b;
  adds = λ place3 done3 t d. walk_adds f (InPlaces place) (IsDone done) b (InPlaces place2) (InPlaces place3) (IsDone done2) (IsDone done3) t d;
  placed = visited_placed f (InPlaces place2);
  known = visited_known f (InPlaces place2);
  stays = visited_stays f (InPlaces place) (InPlaces place2);
  ends = walk_ends f (InPlaces place) (IsDone done) b (InPlaces place2) (IsDone done2);
}

pub returns-clause-targets : goal.returns-clause-targets
returns-clause-targets c = target_steps

pub returns-clause-same_found : goal.returns-clause-same_found
returns-clause-same_found c = λ p f enterer ends place. found.same_found p f enterer ends (InPlaces place)

pub returns-clause-back_edge : goal.returns-clause-back_edge
returns-clause-back_edge c = λ f place h b t. (back_edge_in f (InPlaces place) t h b, in_back_edge f (InPlaces place) t h b)
