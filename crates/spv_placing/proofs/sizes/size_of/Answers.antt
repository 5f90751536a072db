use Rattle.std.proofs.Common.{ℕ, ◌+◌, length, sym, ap, ◌∙◌, arith}
use Rattle.spv_module.specs.View.{seen}
use Rattle.spv_placing.proofs.Steps.{size-more}
use Rattle.spv_placing.proofs.sizes.size_of.Goals as goal

pub instructions-preserved : goal.instructions-preserved
instructions-preserved c = record {
  is =
      c.in_ok-words.ensures.sum
      ∙ ap (λ (n : ℕ). n + length (seen c.at.result).words) c.instructions.invariant.is
      ∙ sym (size-more c.args.insts.now c.instructions.k (seen c.at.result) (omega arith) c.at.ensures);
  small = c.in_ok-words.ensures.small;
}
