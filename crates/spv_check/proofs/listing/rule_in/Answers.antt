use Rattle.std.proofs.Common.{Bool, cond, [], sym, ap, ◌∙◌}
use Rattle.spv_module.specs.First.{least}
use Rattle.spv_module.specs.View.{seen}
use Rattle.spv_body_rules.specs.Broken.{body_rules}
use Rattle.spv_body_rules.proofs.Steps.{least-on-body}
use Rattle.spv_check.proofs.listing.rule_in.Goals as goal

pub returns-then-is_in : goal.returns-then-is_in
returns-then-is_in c =
    let insts = c.args.bodies.now in
    let k = c.args.k in
    let i = seen c.args.inst.now in
    least-on-body insts c.args.rules.now k i c.args.standing.now c.broken_rule.result c.requires.same c.broken_rule.ensures c.requires.standing
    ∙ ap (λ (b : Bool). least (cond b (body_rules insts k i) [])) (sym (sym c.is_in.ensures ∙ c.if-is_in.true))

pub returns-else-is_in : goal.returns-else-is_in
returns-else-is_in c =
    let insts = c.args.bodies.now in
    ap (λ (b : Bool). least (cond b (body_rules insts c.args.k (seen c.args.inst.now)) [])) (sym (sym c.is_in.ensures ∙ c.if-is_in.false))
