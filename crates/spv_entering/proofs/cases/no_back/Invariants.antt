use Rattle.std.proofs.Common.{◌≡◌, not, take, filter}
use Rattle.spv_blocks.specs.Tables.{found}
use Rattle.spv_walk.specs.Tables.{is_back_by}
use Rattle.spv_entering.proofs.cases.no_back.Given as goal

abbrev pub invariant-each : goal.invariant-each
invariant-each l = l.left.items ≡ filter (λ p. not (is_back_by l.flow.code (found l.tops) l.t p)) (take l.p-index l.blocks)
