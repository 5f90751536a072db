use Rattle.spv_fine.proofs.Modules as modules
use Rattle.spv_fine.proofs.laws.available_law.Goals as goal

pub returns-clause-fine : goal.returns-clause-fine
returns-clause-fine c = modules.fine_is_available

pub returns-clause-listing : goal.returns-clause-listing
returns-clause-listing c = modules.listing_is_available
