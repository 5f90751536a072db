use Rattle.spv_respelling.proofs.Admitted as admitted
use Rattle.spv_respelling.proofs.laws.normal_law.Goals as goal

pub returns-clause-admitted : goal.returns-clause-admitted
returns-clause-admitted c = admitted.listing_is_admitted

pub returns-clause-stays : goal.returns-clause-stays
returns-clause-stays c = admitted.normal_stays
