use Rattle.std.proofs.Common.{◌∙◌, sym, ap, List, ◌∷◌, [], ◌++◌, arith}
use Rattle.spv_module.specs.Instruction.{Instruction}
use Rattle.spv_module.specs.View.{seen}
use Rattle.opt_top.proofs.Stripping.{stripped-kept, stripped-gone}
use Rattle.opt_top.proofs.strip.strip_insts.Goals as goal
use Rattle.opt_top.proofs.strip.strip_insts.Goals.{then-stays+in_ok-push_view, else-stays}

pub instructions-preserved : goal.instructions-preserved
instructions-preserved c =
    elim c.if-stays.branch [
      | then-stays+in_ok-push_view w ↦
          w.kept-is ∙ w.in_ok-push_view.ensures.ok
          ∙ ap (λ (kept : List Instruction). kept ++ seen c.at-inst.result ∷ []) c.instructions.invariant
          ∙ sym (stripped-kept c.args.insts.now c.instructions.k (seen c.at-inst.result) (omega arith) c.at-inst.ensures (sym c.stays.ensures ∙ w.if-stays.true))
      | else-stays w ↦
          w.kept-is ∙ c.instructions.invariant
          ∙ sym (stripped-gone c.args.insts.now c.instructions.k (seen c.at-inst.result) (omega arith) c.at-inst.ensures (sym c.stays.ensures ∙ w.if-stays.false))
    ]
