use Rattle.std.proofs.Common.{refl, sym, ap, ◌∙◌}
use Rattle.spv_module.specs.View.{seen}
use Rattle.spv_body_rules.specs.Least.{lesser}
use Rattle.spv_body_rules.proofs.Steps.{least-in-functions}
use Rattle.spv_body_rules.proofs.rules.BodyRules.broken_in_functions.Goals as goal

pub returns : goal.returns
returns c = λ k is.
    let insts = c.args.self.now in
    let a = c.broken_arithmetic_rule-arithmetic in
    let b = c.broken_composite_rule-composite in
    let u = c.broken_usage_rule-usage in
    let s = c.broken_signature_rule-signature in
    c.lesser-3.ensures
    ∙ ap (lesser a.result) (c.lesser-2.ensures ∙ ap (lesser b.result) c.lesser.ensures)
    ∙ least-in-functions insts c.kinds.result.now c.self.inside.forms c.tables-tables.result.now c.self.inside.signatures k (seen c.args.inst.now) c.args.standing.now
    a.result b.result u.result s.result (c.kinds.ensures ∙ c.tables-tables.ensures) (c.self.invariant ∙ c.self.view_is) c.tables-tables.ensures c.self.view_is a.ensures b.ensures u.ensures s.ensures is
