use Rattle.std.proofs.Common.{List, Some, None, sym, ap, subst, ◌∙◌}
use Rattle.spv_module.specs.First.{first}
use Rattle.spv_module.specs.Instruction.{Instruction}
use Rattle.spv_types.specs.Whole.{Rises}
use Rattle.spv_walk.specs.Rules.{IsFirst}
use Rattle.spv_body_rules.specs.Broken.{rules_on_bodies}
use Rattle.spv_check.specs.Parts.{Every, Missing}
use Rattle.spv_check.proofs.Joining.{first_in_bodies}
use Rattle.spv_check.proofs.checking.check.Goals as goal

pub first_broken-requires : goal.first_broken-requires
first_broken-requires c = subst Rises (sym c.requires.same) c.requires.rises

pub returns-in-Some : goal.returns-in-Some
returns-in-Some c =
    let insts = c.args.flat.now.insts in
    first_in_bodies insts c.in_ok-listed.listed c.in_ok-missing.missing (Some c.in-Some.refusal)
    (c.in_ok-listed.ensures ∙ ap (λ (is : List Instruction). first (rules_on_bodies is)) c.requires.same)
    (subst (λ (is : List Instruction). IsFirst (Missing is Every) c.in_ok-missing.missing) c.in_ok-bodies.ensures c.in_ok-missing.ensures)
    c.in-Some.ensures.same

pub returns : goal.returns
returns c =
    let insts = c.args.flat.now.insts in
    first_in_bodies insts c.in_ok-listed.listed c.in_ok-missing.missing None
    (c.in_ok-listed.ensures ∙ ap (λ (is : List Instruction). first (rules_on_bodies is)) c.requires.same)
    (subst (λ (is : List Instruction). IsFirst (Missing is Every) c.in_ok-missing.missing) c.in_ok-bodies.ensures c.in_ok-missing.ensures)
    c.in-None.ensures.same
