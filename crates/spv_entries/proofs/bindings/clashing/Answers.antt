use Rattle.std.proofs.Common.{rules, arith}
use Rattle.spv_module.specs.View.{seen}
use Rattle.spv_repeats.proofs.Marking.{marked-step, marked-all}
use Rattle.spv_entries.specs.Slots.{HasSlots, clashes}
use Rattle.spv_entries.proofs.bindings.clashing.Goals as goal

pub instructions-preserved : goal.instructions-preserved
instructions-preserved c =
    marked-step (HasSlots c.args.decorations.now) (clashes c.args.decorations.now) c.args.insts.now c.instructions.k (seen c.at.result) c.instructions.slots c.read.new.self c.instructions.marks.items c.push.new.self.items c.in_ok-unfit.unfit c.instructions.invariant (omega arith) c.at.ensures
    c.in_ok-unfit.ensures c.in_ok-push.ensures.items

pub instructions-init : goal.instructions-init
instructions-init c = record { kept = c.new-slots.ensures c.args.decorations.now; count = search rules; each = λ j i below at. absurd (omega arith) }

pub returns : goal.returns
returns c = marked-all (HasSlots c.args.decorations.now) (clashes c.args.decorations.now) c.args.insts.now c.instructions.k c.instructions.slots c.instructions.marks.items c.instructions.invariant (omega arith)
