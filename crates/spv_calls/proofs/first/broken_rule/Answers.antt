use Rattle.std.proofs.Common.{Bool, List, ap, subst, ◌∙◌}
use Rattle.spv_module.specs.First.{least}
use Rattle.spv_module.specs.Instruction.{Instruction}
use Rattle.spv_module.specs.View.{seen}
use Rattle.spv_entries.specs.Broken.{entry_rules}
use Rattle.spv_calls.specs.Broken.{Decides}
use Rattle.spv_calls.specs.Calls.{CallsFit}
use Rattle.spv_calls.specs.Interfaces.{InterfaceFits}
use Rattle.spv_calls.proofs.FirstBroken.{rule-calls, rule-interface, rule-entry}
use Rattle.spv_calls.proofs.first.broken_rule.Goals as goal

pub returns-then-not-branch-clause-rule : goal.returns-then-not-branch-clause-rule
returns-then-not-branch-clause-rule c =
    let insts = c.args.calls.now in
    let i = seen c.args.inst.now in
    rule-calls insts c.args.k i c.requires.at (subst (λ (b : Bool). Decides b (CallsFit insts c.args.k i)) c.if-not-branch.true c.in_ok-calls_fit.ensures)

pub returns-then-not-branch-2-clause-rule : goal.returns-then-not-branch-2-clause-rule
returns-then-not-branch-2-clause-rule c =
    let insts = c.args.calls.now in
    let i = seen c.args.inst.now in
    rule-interface insts c.args.k i c.requires.at (subst (λ (b : Bool). Decides b (CallsFit insts c.args.k i)) c.if-not-branch.false c.in_ok-calls_fit.ensures)
    (subst (λ (b : Bool). Decides b (InterfaceFits insts i)) c.if-not-branch-2.true c.in_ok-interface_fits.ensures.fits)

pub returns-clause-rule : goal.returns-clause-rule
returns-clause-rule c =
    let insts = c.args.calls.now in
    let i = seen c.args.inst.now in
    rule-entry insts c.args.k i c.broken_rule.result c.requires.at (subst (λ (b : Bool). Decides b (CallsFit insts c.args.k i)) c.if-not-branch.false c.in_ok-calls_fit.ensures)
    (subst (λ (b : Bool). Decides b (InterfaceFits insts i)) c.if-not-branch-2.false c.in_ok-interface_fits.ensures.fits)
    (c.broken_rule.ensures ∙ ap (λ (is : List Instruction). least (entry_rules is c.args.k i)) c.requires.same)
