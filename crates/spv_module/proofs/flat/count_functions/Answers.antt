use Rattle.std.proofs.Common.{◌∙◌, ap, sym, suc, ℕ, ◌+◌, arith}
use Rattle.spv_module.specs.View.{seen}
use Rattle.spv_module.proofs.Sections.{count-function, count-other}
use Rattle.spv_module.proofs.flat.count_functions.Goals as goal
use Rattle.spv_module.proofs.flat.count_functions.Goals.{then-has_begun, else-has_begun}

pub instructions-preserved : goal.instructions-preserved
instructions-preserved c =
    elim c.if-has_begun.branch [
      | then-has_begun w ↦ record {
        count = w.functions-is ∙ ap (λ (n : ℕ). n + 1) c.instructions.invariant.count
            ∙ sym (count-function c.args.insts.now c.instructions.k (seen c.at.result) (omega arith) c.at.ensures (sym c.has_begun.ensures ∙ w.if-has_begun.true));
        within = omega arith;
      }
      | else-has_begun w ↦ record {
        count = w.functions-is ∙ c.instructions.invariant.count
            ∙ sym (count-other c.args.insts.now c.instructions.k (seen c.at.result) (omega arith) c.at.ensures (sym c.has_begun.ensures ∙ w.if-has_begun.false));
        within = omega arith;
      }
    ]
