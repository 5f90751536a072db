use Rattle.std.proofs.Common.{List, Bool, sym, ap, ◌∙◌}
use Rattle.spv_module.specs.First.{least}
use Rattle.spv_module.specs.Instruction.{Instruction}
use Rattle.spv_module.specs.View.{seen}
use Rattle.spv_ids.specs.Ids.{id_rules}
use Rattle.spv_types.proofs.EarlyRules.{early-none}
use Rattle.spv_types.proofs.rules.early_rule.Goals as goal

pub returns-in-None : goal.returns-in-None
returns-in-None c = λ d begun asked.
    early-none c.args.kinds.now d c.args.standing.number (seen c.args.inst.now) c.declaration_rule.result asked.loud
    (sym c.in-None.is ∙ c.broken_id_rule.ensures
    ∙ ap (λ (insts : List Instruction). least (id_rules insts c.args.standing.begun c.args.standing.number (seen c.args.inst.now))) c.definitions.ensures
    ∙ ap (λ (b : Bool). least (id_rules c.args.kinds.now b c.args.standing.number (seen c.args.inst.now))) (sym begun))
    (λ known. c.declaration_rule.ensures d begun asked known)
