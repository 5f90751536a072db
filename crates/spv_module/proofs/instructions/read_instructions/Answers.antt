use Rattle.std.proofs.Common.{◌≡◌, ℕ, ◌<◌, ◌∙◌, List, ◌∷◌, ◌++◌, [], length, take, ap, refl}
use Rattle.std.proofs.Common.{arith, Result, Ok, Err}
use Rattle.std.proofs.lemmas.Result.{err_from_is_err_and}
use Rattle.std.proofs.lemmas.Bool.Decides.{nat_tests}
use Rattle.spv_module.specs.Instruction.{Instruction}
use Rattle.spv_module.specs.View.{seen}
use Rattle.spv_module.proofs.ReadingSteps.{one_more, refused, all_read, same_instruction}
use Rattle.spv_module.proofs.instructions.read_instructions.Goals as goal

pub returns-in_err-count : goal.returns-in_err-count
returns-in_err-count c =
    let some : 0 < length c.instructions.rest.now = grind (arith, nat_tests) in
    let fault = err_from_is_err_and c.from_residual.result c.from_residual.ensures.1 in
    refused c.args.bound c.args.at c.args.words.now c.instructions.place c.instructions.rest.now c.instructions.insts c.front.new.roles.items c.in_err-count.field-0.0 c.front.result c.from_residual.result
    c.instructions.invariant some c.in_err-count.was (fault.1 ∙ ap Err fault.2) c.front.ensures

pub instructions-preserved : goal.instructions-preserved
instructions-preserved c =
    let n = c.in_ok-count.count in
    let rest = c.instructions.rest.now in
    let inst : Instruction = record { offset = c.instructions.place; words = take n rest } in
    let pushed : c.push_view.new.self ≡ c.instructions.insts ++ inst ∷ [] =
    c.in_ok-push_view.ensures.ok
    ∙ ap (λ (i : Instruction). c.instructions.insts ++ i ∷ []) (same_instruction _ _ _ _ c.new.ensures.offset (c.new.ensures.words ∙ c.split_at.ensures.front)) in
    rw (c.split_at.ensures.back, pushed)
    (one_more c.args.bound c.args.at c.args.words.now c.instructions.place rest c.instructions.insts c.front.new.roles.items n c.instructions.invariant c.in_ok-count.ensures)

pub returns : goal.returns
returns c =
    let empty : length c.instructions.rest.now ≡ 0 = grind (arith, nat_tests) in
    all_read c.args.bound c.args.at c.args.words.now c.instructions.place c.instructions.rest.now c.instructions.insts c.instructions.invariant empty
