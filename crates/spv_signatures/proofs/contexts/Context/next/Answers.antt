use Rattle.spv_module.specs.View.{seen}
use Rattle.spv_signatures.proofs.Stepping.{context-next}
use Rattle.spv_signatures.proofs.contexts.Context.next.Goals as goal

pub returns : goal.returns
returns c = λ k is at.
    context-next c.args.kinds.now k (seen c.args.inst.now) c.args.self.now (record { result_type = c.result_type_behind.result; types = c.types_behind.result }) is at
    c.result_type_behind.ensures c.types_behind.ensures
