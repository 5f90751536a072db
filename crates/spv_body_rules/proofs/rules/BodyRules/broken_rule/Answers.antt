use Rattle.std.proofs.Common.{sym, ap, ◌∙◌}
use Rattle.spv_module.specs.First.{least}
use Rattle.spv_module.specs.View.{seen}
use Rattle.spv_body_rules.proofs.Steps.{rules-inside, rules-outside}
use Rattle.spv_body_rules.proofs.rules.BodyRules.broken_rule.Goals as goal

pub returns-then-is_of_functions : goal.returns-then-is_of_functions
returns-then-is_of_functions c = λ k is.
    let insts = c.args.self.now in
    c.broken_in_functions.ensures k is
    ∙ ap least (rules-inside insts k (seen c.args.inst.now) (sym c.if-is_of_functions.true ∙ c.is_of_functions.ensures insts k is))

pub returns-else-is_of_functions : goal.returns-else-is_of_functions
returns-else-is_of_functions c = λ k is.
    let insts = c.args.self.now in
    ap least (rules-outside insts k (seen c.args.inst.now) (sym c.if-is_of_functions.false ∙ c.is_of_functions.ensures insts k is))
