use Rattle.interleaving.proofs.Laws.{between_law}
use Rattle.interleaving.proofs.keeps_between.Goals as goal

pub returns : goal.returns
returns g c = between_law g.A.Accounts.sides
