use Rattle.std.proofs.Common.{ℕ, List, ◌≡◌, length, sym, ap, ◌∙◌, arith}
use Rattle.std.specs.List.{slice_get}
use Rattle.spv_module.specs.Instruction.{Instruction}
use Rattle.spv_module.specs.View.{seen}
use Rattle.spv_body_rules.specs.Broken.{body_rules}
use Rattle.spv_body_rules.proofs.Refusals.{clear-begins, clear-stops, clear-more, clear-ends}
use Rattle.spv_body_rules.proofs.Steps.{least-on-body, standing-next}
use Rattle.spv_body_rules.proofs.first.first_broken.Goals as goal

pub instructions-init : goal.instructions-init
instructions-init c = (clear-begins (body_rules c.args.tables.now) c.args.tables.now c.requires, c.first-standing.ensures c.args.tables.now)

pub returns-in-Some : goal.returns-in-Some
returns-in-Some c =
    let insts = c.args.tables.now in
    let k = c.instructions.k in
    let i = seen c.at-inst.result in
    let same = c.insts-insts.ensures ∙ c.definitions.ensures ∙ c.kinds-kinds.ensures in
    clear-stops (body_rules insts) insts k c.in-Some.rule i c.instructions.invariant.0 (ap (λ (is : List Instruction). slice_get is k) (sym same) ∙ c.at-inst.ensures)
    (sym c.in-Some.is ∙ least-on-body insts c.in_ok-rules.rules k i c.instructions.standing c.broken_rule.result c.in_ok-rules.ensures c.broken_rule.ensures c.instructions.invariant.1)

pub instructions-preserved : goal.instructions-preserved
instructions-preserved c =
    let insts = c.args.tables.now in
    let k = c.instructions.k in
    let i = seen c.at-inst.result in
    let same = c.insts-insts.ensures ∙ c.definitions.ensures ∙ c.kinds-kinds.ensures in
    let at = ap (λ (is : List Instruction). slice_get is k) (sym same) ∙ c.at-inst.ensures in (
      clear-more (body_rules insts) insts k i c.instructions.invariant.0 at
          (sym c.in-None.is ∙ least-on-body insts c.in_ok-rules.rules k i c.instructions.standing c.broken_rule.result c.in_ok-rules.ensures c.broken_rule.ensures c.instructions.invariant.1),
      standing-next insts c.kinds-kinds.result.now k i c.instructions.standing c.next.new.self c.kinds-kinds.ensures c.next.ensures c.instructions.invariant.1 at,
    )

pub returns : goal.returns
returns c =
    let insts = c.args.tables.now in
    let same = ap (λ (is : List Instruction). length is) (c.insts-insts.ensures ∙ c.definitions.ensures ∙ c.kinds-kinds.ensures) in
    clear-ends (body_rules insts) insts c.instructions.k c.instructions.invariant.0 (omega arith)
