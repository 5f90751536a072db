use Rattle.interleaving.proofs.Laws.{chain_begins, kind_law}
use Rattle.interleaving.proofs.chain_begins.Goals as goal

pub returns-clause-begins : goal.returns-clause-begins
returns-clause-begins g c = chain_begins g.C.Change.change

pub returns-clause-of_kind : goal.returns-clause-of_kind
returns-clause-of_kind g c = kind_law g.C.Change.change
