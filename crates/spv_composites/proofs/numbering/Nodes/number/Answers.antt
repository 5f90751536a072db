use Rattle.std.proofs.Common.{◌≡◌, None, rules}
use Rattle.std.proofs.lemmas.Result.{IfOk-weaker}
use Rattle.spv_composites.specs.Numbering.{AreNumbered, Grows, node_at}
use Rattle.spv_composites.proofs.Growing.{grows-added}
use Rattle.spv_composites.proofs.numbering.Nodes.number.Goals as goal

pub returns-in-None-clause-grows : goal.returns-in-None-clause-grows
returns-in-None-clause-grows c =
    let absent : node_at c.args.self.now c.args.node ≡ None = search rules in
    IfOk-weaker c.add.result _ (λ _. AreNumbered c.args.self.now → Grows c.args.self.now c.add.new.self)
    (λ n adds h. grows-added _ _ c.args.node n h absent adds) c.add.ensures
