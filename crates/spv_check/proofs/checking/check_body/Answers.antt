use Rattle.std.proofs.Common.{◌+◌, List, Some, None, ap, subst, ◌∙◌, arith}
use Rattle.std.proofs.lemmas.List.Sums.{count_by-le-length}
use Rattle.spv_module.specs.Code.{is_function}
use Rattle.spv_module.specs.First.{first}
use Rattle.spv_module.specs.Instruction.{Instruction}
use Rattle.spv_walk.specs.Rules.{IsFirst}
use Rattle.spv_body_rules.specs.Broken.{refusals_from}
use Rattle.spv_check.specs.Parts.{Missing, Only, rules_of_one}
use Rattle.spv_check.proofs.Joining.{first_in_body}
use Rattle.spv_check.proofs.checking.check_body.Goals as goal

pub prove-unreachable-requires : goal.prove-unreachable-requires
prove-unreachable-requires c = let few = count_by-le-length is_function c.args.flat.now.insts in omega arith

pub returns-in-Some : goal.returns-in-Some
returns-in-Some c =
    let insts = c.args.flat.now.insts in
    let f = c.args.f in
    first_in_body insts f c.in_ok-listed.listed c.in_ok-missing.missing (Some c.in-Some.refusal)
    (c.in_ok-listed.ensures ∙ ap (λ (is : List Instruction). first (refusals_from (rules_of_one is (f + 1)) 0 is)) c.in_ok-bodies.ensures)
    (subst (λ (is : List Instruction). IsFirst (Missing is (Only (f + 1))) c.in_ok-missing.missing) c.in_ok-bodies.ensures c.in_ok-missing.ensures)
    c.in-Some.ensures.same

pub returns : goal.returns
returns c =
    let insts = c.args.flat.now.insts in
    let f = c.args.f in
    first_in_body insts f c.in_ok-listed.listed c.in_ok-missing.missing None
    (c.in_ok-listed.ensures ∙ ap (λ (is : List Instruction). first (refusals_from (rules_of_one is (f + 1)) 0 is)) c.in_ok-bodies.ensures)
    (subst (λ (is : List Instruction). IsFirst (Missing is (Only (f + 1))) c.in_ok-missing.missing) c.in_ok-bodies.ensures c.in_ok-missing.ensures)
    c.in-None.ensures.same
