use Rattle.spv_clean_trees.proofs.Structures as structures
use Rattle.spv_clean_trees.proofs.laws.unbroken_law.Goals as goal

pub returns-clause-listing : goal.returns-clause-listing
returns-clause-listing c = structures.listing_is_unbroken

pub returns-clause-normal : goal.returns-clause-normal
returns-clause-normal c = structures.normal_is_unbroken
