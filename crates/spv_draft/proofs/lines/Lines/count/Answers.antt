use Rattle.std.proofs.Common.{ap, arith}
use Rattle.std.proofs.Common.{length}
use Rattle.std.proofs.lemmas.List.{length-map}
use Rattle.spv_module.specs.List.{instruction_at, pool_words}
use Rattle.spv_draft.proofs.Pools.{counted}
use Rattle.spv_draft.proofs.lines.Lines.count.Goals as goal

pub returns-clause-few : goal.returns-clause-few
returns-clause-few c =
    omega (
      arith,
      c.self.invariant.1.is,
      counted c.self.inside.pool c.self.inside.spans.items c.self.invariant.0.whole,
      ap length c.self.view_is,
      length-map c.self.inside.spans.items (instruction_at (pool_words c.self.inside.pool)),
    )
