use Rattle.std.proofs.Common.{ℕ, List, Option, Some, None, ◌≡◌, length, sym, ap, subst, ◌∙◌, arith}
use Rattle.std.specs.List.{slice_get}
use Rattle.spv_module.specs.First.{least}
use Rattle.spv_module.specs.Instruction.{Instruction}
use Rattle.spv_module.specs.View.{seen}
use Rattle.spv_calls.specs.Broken.{Tests, AreTests, rules_at}
use Rattle.spv_calls.proofs.FirstBroken.{clear-begins, clear-stops, clear-more, clear-ends}
use Rattle.spv_calls.proofs.first.first_broken.Goals as goal

pub instructions-init : goal.instructions-init
instructions-init c = (clear-begins c.args.calls.now c.requires.rises, c.in_ok-search.ensures)

pub returns-in-Some : goal.returns-in-Some
returns-in-Some c =
    let insts = c.args.calls.now in
    let k = c.instructions.k in
    let i = seen c.at-inst.result in
    clear-stops insts k c.in-Some.rule i c.instructions.invariant.0 (ap (λ (is : List Instruction). slice_get is k) (sym c.insts-insts.ensures) ∙ c.at-inst.ensures)
    (λ tests t. sym c.in-Some.is ∙ c.in_ok-rule.ensures.rule tests t)

pub instructions-preserved : goal.instructions-preserved
instructions-preserved c =
    let insts = c.args.calls.now in
    let k = c.instructions.k in
    let i = seen c.at-inst.result in
    (clear-more insts k i c.instructions.invariant.0 (ap (λ (is : List Instruction). slice_get is k) (sym c.insts-insts.ensures) ∙ c.at-inst.ensures) (λ tests t. sym c.in-None.is ∙ c.in_ok-rule.ensures.rule tests t), c.in_ok-rule.ensures.fresh)

pub returns : goal.returns
returns c =
    let same = ap (λ (is : List Instruction). length is) c.insts-insts.ensures in
    clear-ends c.args.calls.now c.instructions.k c.instructions.invariant.0 (omega arith)
