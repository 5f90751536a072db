use Rattle.std.proofs.Common.{◌∙◌, subst}
use Rattle.spv_spelling.specs.Whole.{AreInstructions}
use Rattle.spv_ir.proofs.Placing.{admits_placed}
use Rattle.spv_ir.proofs.holding.admit.Goals as goal

pub returns : goal.returns
returns c =
    let each : AreInstructions c.in_ok-norm.norm.insts = subst AreInstructions c.insts.ensures.same c.each_is_instruction.ensures in
    admits_placed c.args.words.now c.in_ok-norm.norm c.new.result each c.in_ok-norm.ensures (c.new.ensures ∙ c.placed.ensures.same)
