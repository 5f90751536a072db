use Rattle.spv_norm_structured.proofs.Depths as depths
use Rattle.spv_norm_structured.proofs.Pointers as pointers
use Rattle.spv_norm_structured.proofs.Trees as trees
use Rattle.spv_norm_structured.proofs.structured_law.Goals as goal

pub returns-clause-unbroken : goal.returns-clause-unbroken
returns-clause-unbroken c = pointers.norm_is_unbroken

pub returns-clause-shallow : goal.returns-clause-shallow
returns-clause-shallow c = depths.norm_is_shallow

pub returns-clause-parsed : goal.returns-clause-parsed
returns-clause-parsed c = trees.norm_is_parsed
