use Rattle.std.proofs.Common.{◌==◌, ◌||◌}
use Rattle.spv_walk.specs.Tables.{InTops, IsDone}
use Rattle.spv_walk.proofs.Tops.{tops_turn, tops_end, along_one, along_top, along_known, middle_begins, middle_keeps, middle_adds, middle_ends}
use Rattle.spv_walk.proofs.Inside.{looked_more}
use Rattle.spv_walk.proofs.tables.tables_of_tops.Goals as goal

pub returns-clause-turn : goal.returns-clause-turn
returns-clause-turn c = λ f top top2 done done2 b. tops_turn f (InTops top) (InTops top2) (IsDone done) (IsDone done2) b

pub returns-clause-ends : goal.returns-clause-ends
returns-clause-ends c = λ f top done t d h b. (tops_end f (InTops top) (IsDone done) t d h b, t.sound h b)

pub returns-clause-along : goal.returns-clause-along
returns-clause-along c = λ f top s h b t g. record {
  one = along_one f (InTops top) s h b t g;
  stands = along_top f (InTops top) s h b t g;
  known = λ k e. along_known f (InTops top) s h k b t g e;
}

pub returns-clause-targets : goal.returns-clause-targets
returns-clause-targets c = λ f top top2 done done2 b. record {
  begins = middle_begins f (InTops top) (IsDone done) b (IsDone done2);
  keeps = λ looked t m. middle_keeps f (InTops top) (IsDone done) b (InTops top2) (IsDone done2) (IsDone looked) (IsDone (λ u. looked u || u == t)) t m (looked_more looked t);
  adds = λ top3 done3 looked h t m.
      middle_adds f (InTops top) (IsDone done) b (InTops top2) (InTops top3) (IsDone done2) (IsDone done3) (IsDone looked) (IsDone (λ u. looked u || u == t)) h t m (looked_more looked t);
  ends = λ looked. middle_ends f (InTops top) (IsDone done) b (InTops top2) (IsDone done2) (IsDone looked);
}
