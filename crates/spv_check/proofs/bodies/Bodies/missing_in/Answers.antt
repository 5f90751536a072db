use Rattle.std.proofs.Common.{ℕ, ◌<◌, length, sym, ap, subst, ◌∙◌}
use Rattle.spv_blocks.specs.Blocks.{Code}
use Rattle.spv_blocks.specs.Cutting.{blocks_of}
use Rattle.spv_spelling.specs.Clean.{IsClean}
use Rattle.spv_spelling.specs.Whole.{AreInstructions}
use Rattle.spv_walk.specs.Numbering.{HasOwnLabels}
use Rattle.spv_ways.specs.Laws.{IsNumbered}
use Rattle.spv_functions.proofs.Declared.{function_is}
use Rattle.spv_check.proofs.Beginnings.{begins_at}
use Rattle.spv_check.proofs.Opened.{opened_code, opened_own, opened_some}
use Rattle.spv_check.proofs.Told.{told_clean, told_numbered}
use Rattle.spv_check.proofs.bodies.Bodies.missing_in.Goals as goal

pub of-requires-2-clause-some : goal.of-requires-2-clause-some
of-requires-2-clause-some c =
    let insts = c.args.self.now in
    let first = c.start-first.result in
    let same = c.requires.shape ∙ ap blocks_of (function_is insts c.args.f first c.start-first.ensures) in
    let each = subst AreInstructions (c.insts.ensures.same ∙ c.flat-flat.ensures) c.each_is_instruction.ensures in
    subst (λ (z : Code). 0 < length z) (sym (c.in_ok-labels.ensures ∙ c.function.ensures))
    (opened_some insts c.args.f first c.args.shape.now c.start-first.ensures same each c.requires.declared c.requires.within)

pub of-requires-2-clause-own : goal.of-requires-2-clause-own
of-requires-2-clause-own c =
    let insts = c.args.self.now in
    let first = c.start-first.result in
    let same = c.requires.shape ∙ ap blocks_of (function_is insts c.args.f first c.start-first.ensures) in
    let each = subst AreInstructions (c.insts.ensures.same ∙ c.flat-flat.ensures) c.each_is_instruction.ensures in
    subst HasOwnLabels (sym (c.in_ok-labels.ensures ∙ c.function.ensures))
    (opened_own insts c.args.f first c.args.shape.now c.start-first.ensures same each c.requires.declared)

pub of-requires-2-clause-clean : goal.of-requires-2-clause-clean
of-requires-2-clause-clean c =
    let told = c.flow-flow.ensures in
    (told.is_pointer, subst (IsClean told.is_pointer) (sym (c.in_ok-labels.ensures ∙ c.function.ensures)) (told_clean c.args.shape.now _ _ told))

pub of-requires-2-clause-numbered : goal.of-requires-2-clause-numbered
of-requires-2-clause-numbered c =
    let insts = c.args.self.now in
    let first = c.start-first.result in
    let same = c.requires.shape ∙ ap blocks_of (function_is insts c.args.f first c.start-first.ensures) in
    let each = subst AreInstructions (c.insts.ensures.same ∙ c.flat-flat.ensures) c.each_is_instruction.ensures in
    let some = opened_some insts c.args.f first c.args.shape.now c.start-first.ensures same each c.requires.declared c.requires.within in
    let n = told_numbered c.args.shape.now _ _ c.flow-flow.ensures some in
    (n.0, subst (λ (z : Code). IsNumbered z n.0) (sym (c.in_ok-labels.ensures ∙ c.function.ensures)) n.1)

pub first_lacking-requires-clause-begins : goal.first_lacking-requires-clause-begins
first_lacking-requires-clause-begins c = begins_at c.args.self.now c.args.f c.start-first.result c.start-first.ensures

pub first_lacking-requires-clause-labels : goal.first_lacking-requires-clause-labels
first_lacking-requires-clause-labels c =
    let insts = c.args.self.now in
    let first = c.start-first.result in
    let same = c.requires.shape ∙ ap blocks_of (function_is insts c.args.f first c.start-first.ensures) in
    c.in_ok-labels.ensures ∙ c.function.ensures ∙ opened_code insts c.args.f first c.args.shape.now c.start-first.ensures same
