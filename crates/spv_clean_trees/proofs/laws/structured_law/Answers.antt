use Rattle.spv_clean_trees.proofs.Structures as structures
use Rattle.spv_clean_trees.proofs.laws.structured_law.Goals as goal

pub returns : goal.returns
returns c = structures.spelled_is_structured
