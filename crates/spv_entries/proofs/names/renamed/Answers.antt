use Rattle.std.proofs.Common.{arith}
use Rattle.spv_module.specs.View.{seen}
use Rattle.spv_repeats.proofs.Marking.{marked-step, marked-all}
use Rattle.spv_entries.specs.Slots.{HasNames, is_named_again}
use Rattle.spv_entries.proofs.names.renamed.Goals as goal

pub instructions-preserved : goal.instructions-preserved
instructions-preserved c =
    marked-step HasNames is_named_again c.args.insts.now c.instructions.k (seen c.at.result) c.instructions.names c.add_name.new.names c.instructions.marks.items c.push.new.self.items c.in_ok-again.again c.instructions.invariant (omega arith) c.at.ensures c.in_ok-again.ensures c.in_ok-push.ensures.items

pub returns : goal.returns
returns c = marked-all HasNames is_named_again c.args.insts.now c.instructions.k c.instructions.names c.instructions.marks.items c.instructions.invariant (omega arith)
