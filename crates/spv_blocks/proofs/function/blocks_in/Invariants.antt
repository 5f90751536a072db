use Rattle.std.proofs.Common.{◌≡◌, ◌++◌, drop}
use Rattle.spv_blocks.specs.Cutting.{blocks_of}
use Rattle.spv_blocks.specs.Seen.{seen_code}
use Rattle.spv_blocks.proofs.function.blocks_in.Given as goal

abbrev pub invariant-instructions : goal.invariant-instructions
invariant-instructions l = seen_code l.blocks.items ++ blocks_of (drop l.k l.insts) ≡ blocks_of l.insts
