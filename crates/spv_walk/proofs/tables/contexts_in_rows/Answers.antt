use Rattle.spv_walk.specs.Tables.{IsDone}
use Rattle.spv_walk.proofs.Rows as rows
use Rattle.spv_walk.proofs.tables.contexts_in_rows.Goals as goal

pub returns-clause-stays : goal.returns-clause-stays
returns-clause-stays c = rows.context_stays

pub returns-clause-one : goal.returns-clause-one
returns-clause-one c = rows.one_context_of_row

pub returns-clause-added : goal.returns-clause-added
returns-clause-added c = rows.context_added

pub returns-clause-seen : goal.returns-clause-seen
returns-clause-seen c = rows.seen_tells

pub returns-clause-placed : goal.returns-clause-placed
returns-clause-placed c = λ rows_now more place place2 done done2 t k d all a less waits. record {
  adds = rows.row_adds rows_now more place place2 t k d all a (IsDone done) (IsDone done2) less waits;
  contexts = rows.places_are_contexts rows_now more place place2 t k d all a;
}
