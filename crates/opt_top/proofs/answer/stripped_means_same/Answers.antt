use Rattle.std.proofs.Common.{subst}
use Rattle.spv_spelling.specs.Whole.{AreInstructions}
use Rattle.spv_stripped.proofs.Whole.{stripped_form_is_module}
use Rattle.opt_top.proofs.Meaning.{stripped_means}
use Rattle.opt_top.proofs.answer.stripped_means_same.Goals as goal

pub returns-clause-same : goal.returns-clause-same
returns-clause-same c = stripped_means c.args.flat.now (subst AreInstructions c.insts.ensures.same c.each_is_instruction.ensures)

pub returns-clause-module : goal.returns-clause-module
returns-clause-module c =
    λ m trees.
    stripped_form_is_module c.args.flat.now trees.0 (subst AreInstructions c.insts.ensures.same c.each_is_instruction.ensures) m trees.1
