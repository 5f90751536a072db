use Rattle.std.proofs.Common.{◌≡◌, ◌<◌, ℕ, ◌+◌, List, Some, length, sym, ap, ◌∙◌, arith}
use Rattle.std.specs.List.{slice_get}
use Rattle.std.proofs.lemmas.List.{length-map}
use Rattle.spv_module.specs.Instruction.{Instruction}
use Rattle.spv_module.specs.List.{instruction_at, instructions_in, pool_words}
use Rattle.spv_module.specs.View.{seen}
use Rattle.spv_placing.proofs.Steps.{size-more}
use Rattle.spv_draft.proofs.Lists.{size-front}
use Rattle.spv_draft.proofs.Pools.{told_at}
use Rattle.spv_draft.proofs.lines.size_of.Goals as goal

pub returns-in_err-words-clause-fits : goal.returns-in_err-words-clause-fits
returns-in_err-words-clause-fits c = λ small.
    let insts : List Instruction = instructions_in c.args.pool.now c.args.spans.now in
    let at : slice_get insts c.spans.k ≡ Some (seen c.view.result) =
    told_at c.args.pool.now c.args.spans.now c.spans.k _ (seen c.view.result) (omega arith) c.view.ensures in
    absurd (cc (c.in_err-words.ensures.fits (omega (arith, small, c.spans.invariant, size-front insts (seen c.view.result) c.spans.k at))))

pub spans-preserved : goal.spans-preserved
spans-preserved c =
    let insts : List Instruction = instructions_in c.args.pool.now c.args.spans.now in
    let at : slice_get insts c.spans.k ≡ Some (seen c.view.result) =
    told_at c.args.pool.now c.args.spans.now c.spans.k _ (seen c.view.result) (omega arith) c.view.ensures in
    let within : c.spans.k < length insts = omega (arith, length-map c.args.spans.now (instruction_at (pool_words c.args.pool.now))) in
    c.in_ok-words.ensures.sum
    ∙ ap (λ (n : ℕ). n + length (seen c.view.result).words) c.spans.invariant
    ∙ sym (size-more insts c.spans.k (seen c.view.result) within at)
