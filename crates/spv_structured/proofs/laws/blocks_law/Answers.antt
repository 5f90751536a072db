use Rattle.spv_structured.proofs.ListedBlocks as laws
use Rattle.spv_structured.proofs.laws.blocks_law.Goals as goal

pub returns : goal.returns
returns c = laws.listed_blocks
