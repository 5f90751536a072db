use Rattle.std.proofs.Common.{◌≡◌, drop, take, map, filter, not}
use Rattle.spv_module.specs.Code.{is_line}
use Rattle.spv_blocks.specs.Cutting.{ins}
use Rattle.spv_blocks.specs.Seen.{seen_ins}
use Rattle.spv_blocks.proofs.function.body_in.Given as goal

abbrev pub invariant-instructions : goal.invariant-instructions
invariant-instructions l = map seen_ins l.body.items ≡ map ins (filter (λ i. not (is_line i)) (drop l.from (take l.k l.insts)))
