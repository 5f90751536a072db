use Rattle.std.proofs.Common.{List, length, sym, ap, ◌∙◌, arith}
use Rattle.std.specs.List.{slice_get}
use Rattle.spv_module.specs.Instruction.{Instruction}
use Rattle.spv_module.specs.View.{seen}
use Rattle.spv_body_rules.proofs.Refusals.{clear-begins, clear-stops, clear-more, clear-ends}
use Rattle.spv_body_rules.proofs.Steps.{standing-next}
use Rattle.spv_check.specs.Parts.{rules_of_one}
use Rattle.spv_check.proofs.listing.first_listed.Goals as goal

pub instructions-init : goal.instructions-init
instructions-init c =
    let insts = c.args.bodies.now in
    (clear-begins (rules_of_one insts c.args.number) insts c.requires.rises, c.first-standing.ensures insts)

pub returns-in-Some : goal.returns-in-Some
returns-in-Some c =
    let insts = c.args.bodies.now in
    let k = c.instructions.k in
    clear-stops (rules_of_one insts c.args.number) insts k c.in-Some.rule (seen c.at-inst.result) c.instructions.invariant.0
    (ap (λ (is : List Instruction). slice_get is k) (sym c.flat-flat.ensures) ∙ c.at-inst.ensures) c.in-Some.ensures

pub instructions-preserved : goal.instructions-preserved
instructions-preserved c =
    let insts = c.args.bodies.now in
    let k = c.instructions.k in
    let i = seen c.at-inst.result in
    let at = ap (λ (is : List Instruction). slice_get is k) (sym c.flat-flat.ensures) ∙ c.at-inst.ensures in (
      clear-more (rules_of_one insts c.args.number) insts k i c.instructions.invariant.0 at c.in-None.ensures,
      standing-next insts c.kinds-kinds.result.now k i c.instructions.standing c.next.new.self (c.kinds-kinds.ensures ∙ c.requires.same) c.next.ensures
          c.instructions.invariant.1 at,
    )

pub returns : goal.returns
returns c =
    let insts = c.args.bodies.now in
    let same = ap length c.flat-flat.ensures in
    clear-ends (rules_of_one insts c.args.number) insts c.instructions.k c.instructions.invariant.0 (omega arith)
